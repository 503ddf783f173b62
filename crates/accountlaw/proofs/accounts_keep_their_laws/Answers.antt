use Rattle.accountlaw.proofs.Moving.{readings-join, settlements-book, payments-lower}
use Rattle.accountlaw.proofs.Meters.{registers-add-up}
use Rattle.accountlaw.proofs.Staying.{steps-keep-limits}
use Rattle.accountlaw.proofs.accounts_keep_their_laws.Goals as goal

pub returns : goal.returns
returns c = record {
  readings = readings-join;
  settlements = settlements-book;
  payments = payments-lower;
  registers = registers-add-up;
  limits = steps-keep-limits;
}
