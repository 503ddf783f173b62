use Rattle.answerlaw.proofs.Inverse.{come-back, told-apart}
use Rattle.answerlaw.proofs.answers_read_back.Goals as goal

pub returns : goal.returns
returns c = record { back = come-back; apart = told-apart }
