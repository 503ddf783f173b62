use Rattle.std.proofs.Common.{rules}
use Rattle.cases.specs.Answering.{reading_answer}
use Rattle.cases.proofs.answering.reading_answer.Goals as goal

pub returns-in_err-opened : goal.returns-in_err-opened
unfolding reading_answer
returns-in_err-opened c = search rules

pub returns-in_err-read : goal.returns-in_err-read
unfolding reading_answer
returns-in_err-read c = search rules

pub returns : goal.returns
unfolding reading_answer
returns c = search rules
