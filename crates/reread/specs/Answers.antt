-- Which answer a text is.
use Rattle.std.specs.Prelude.{ℕ, cond, List, Some, None, codes, Option, nat_le, slice_index}
use Rattle.std.specs.Option.{option_map}
use Rattle.words.specs.Words.{is_word, word_of, rest_of}
use Rattle.words.specs.Numbers.{is_end}
use Rattle.answers.specs.declared.answer.Answer.{Answer}
use Rattle.answers.specs.declared.answer.Answer.TheVariants.{Tenths, Lines, Parts, NotPermitted, Plan, NoPlan, Made, Posted, Done, Bill, Account, Vacant, Row, Refused, Unreadable, NoMemory}
use Rattle.answerwords.specs.Front.{bound, ended, exactly}
use Rattle.answerwords.specs.Words.{row_of}
use Rattle.reread.specs.Forms.{account_of, refusal_of}

-- the answers that are a word alone
abbrev pub bare_of : List ℕ → Option Answer
bare_of word =
    cond (is_word word (codes "not-permitted")) (Some NotPermitted)
    (cond (is_word word (codes "none")) (Some NoPlan)
    (cond (is_word word (codes "done")) (Some Done)
    (cond (is_word word (codes "vacant")) (Some Vacant)
    (cond (is_word word (codes "unreadable")) (Some Unreadable)
    (cond (is_word word (codes "no-memory")) (Some NoMemory) None)))))

-- `tenths N`, N of 16 bits
abbrev pub tenths_of : List ℕ → Option Answer
tenths_of n = cond (nat_le (slice_index n 0) 65535) (Some (Tenths (slice_index n 0))) None

abbrev pub lines_of : List ℕ → Answer
lines_of n = Lines (slice_index n 0)

abbrev pub parts_of : List ℕ → Answer
parts_of n = Parts (slice_index n 0) (slice_index n 1) (slice_index n 2)

abbrev pub plan_of : List ℕ → Answer
plan_of n = Plan (slice_index n 0) (slice_index n 1) (slice_index n 2) (slice_index n 3)

abbrev pub made_of : List ℕ → Answer
made_of n = Made (slice_index n 0) (slice_index n 1)

abbrev pub posted_of : List ℕ → Answer
posted_of n = Posted (slice_index n 0) (slice_index n 1)

abbrev pub bill_of : List ℕ → Answer
bill_of n =
    Bill (record { code = slice_index n 0; months = slice_index n 1; day = slice_index n 2; night = slice_index n 3; fixed = slice_index n 4; energy = slice_index n 5; cents = slice_index n 6 })

-- the answers that are a word with numbers behind it
abbrev pub numbered_of : List ℕ → List ℕ → Option Answer
numbered_of word rest =
    cond (is_word word (codes "tenths")) (bound (exactly 1 rest) tenths_of)
    (cond (is_word word (codes "lines")) (option_map lines_of (exactly 1 rest))
    (cond (is_word word (codes "parts")) (option_map parts_of (exactly 3 rest))
    (cond (is_word word (codes "plan")) (option_map plan_of (exactly 4 rest))
    (cond (is_word word (codes "made")) (option_map made_of (exactly 2 rest))
    (cond (is_word word (codes "posted")) (option_map posted_of (exactly 2 rest))
    (cond (is_word word (codes "bill")) (option_map bill_of (exactly 7 rest)) None))))))

-- `row HEX`
abbrev pub row_answer : List ℕ → Option Answer
row_answer rest = bound (row_of (word_of rest)) (λ bytes. ended (rest_of rest) (Row bytes))

-- the answer of a first word with others behind it
abbrev pub behind_of : List ℕ → List ℕ → Option Answer
behind_of word rest =
    cond (is_word word (codes "account")) (option_map Account (account_of rest))
    (cond (is_word word (codes "row")) (row_answer rest)
    (cond (is_word word (codes "refused")) (option_map Refused (refusal_of rest)) (numbered_of word rest)))

-- the answer of a first word and what stands behind it
abbrev pub answer_with : List ℕ → List ℕ → Option Answer
answer_with word rest = cond (is_end rest) (bare_of word) (behind_of word rest)

-- the answer that a text is, none where it is no answer
abbrev pub answer_of : List ℕ → Option Answer
answer_of text = answer_with (word_of text) (rest_of text)
