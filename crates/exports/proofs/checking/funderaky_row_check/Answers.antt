use Rattle.std.proofs.Common.{rules, ◌≡◌, sym, subst}
use Rattle.exports.specs.Rows.{row_status, TellsRow}
use Rattle.exports.proofs.Rows.{tells}
use Rattle.exports.proofs.checking.funderaky_row_check.Goals as goal

pub returns-clause-exactly : goal.returns-clause-exactly
returns-clause-exactly c =
    let s : c.map_or.result ≡ row_status c.args.row.now = search rules in
    subst (TellsRow c.args.row.now) (sym s) (tells c.args.row.now)
