use Rattle.std.proofs.Common.{w64, SFits, rules}
use Rattle.std.proofs.lemmas.Int.{to_z-of_z}
use Rattle.row.proofs.decoding.form_at.Goals as goal

pub returns : goal.returns
returns c =
    let f : SFits w64 c.balance_at.result = search rules in
    let t = to_z-of_z w64 c.balance_at.result f in
    cc
