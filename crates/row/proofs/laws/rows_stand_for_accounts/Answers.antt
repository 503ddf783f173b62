use Rattle.row.proofs.Inverse.{read_back, read-from, told-apart}
use Rattle.row.proofs.laws.rows_stand_for_accounts.Goals as goal

pub returns : goal.returns
returns c = record { read = read-from; back = read_back; apart = told-apart }
