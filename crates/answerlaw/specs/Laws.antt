-- Writing an answer and reading it back.
use Rattle.std.specs.Prelude.{◌≡◌, Some}
use Rattle.answers.specs.declared.answer.Answer.{Answer}
use Rattle.answers.specs.Answers.{answer_text}
use Rattle.reread.specs.Answers.{answer_of}
use Rattle.answerlaw.specs.Fits.{AnswerFits}

-- an answer that is written and read again is the same answer
abbrev pub Answers-come-back : Type 0
Answers-come-back = (a : Answer) → AnswerFits a → answer_of (answer_text a) ≡ Some a

-- two answers never have one text
abbrev pub Texts-tell-apart : Type 0
Texts-tell-apart = (a b : Answer) → AnswerFits a → AnswerFits b → answer_text a ≡ answer_text b → a ≡ b
