use Rattle.std.proofs.Common.{sym, ◌∙◌}
use Rattle.months.proofs.Counted.{count-posted}
use Rattle.months.proofs.kept.Months.count.Goals as goal

pub returns : goal.returns
returns c = c.len.ensures ∙ sym (count-posted c.args.self.now)
