-- The answers to pricing lines among all answers.
use Rattle.answers.specs.declared.answer.Answer.{Answer}
use Rattle.answers.specs.declared.answer.Answer.TheVariants as answer
use Rattle.answers.specs.declared.price.PriceAnswer.{PriceAnswer}
use Rattle.answers.specs.declared.price.PriceAnswer.TheVariants.{Tenths, Lines, Parts, NotPermitted, Plan, NoPlan, Refused, Unreadable, NoMemory}

-- the same answer among all answers
abbrev pub wide : PriceAnswer → Answer
wide (Tenths n) = answer.Tenths n
wide (Lines n) = answer.Lines n
wide (Parts fixed energy cents) = answer.Parts fixed energy cents
wide NotPermitted = answer.NotPermitted
wide (Plan code fixed energy cents) = answer.Plan code fixed energy cents
wide NoPlan = answer.NoPlan
wide (Refused r) = answer.Refused r
wide Unreadable = answer.Unreadable
wide NoMemory = answer.NoMemory
