use Rattle.std.proofs.Common.{sym, subst, arith, length-set}
use Rattle.std.proofs.lemmas.List.{take_more_set}
use Rattle.house.specs.Lines.{LineLimits}
use Rattle.house.specs.Houses.{lines_of}
use Rattle.house.proofs.Limits.{limits-push}
use Rattle.house.proofs.house.House.push.Goals as goal

pub invariant_of-self : goal.invariant_of-self
invariant_of-self c =
    let h = c.args.self.now in
    let t = take_more_set h.lines h.count c.args.line (omega arith) in record { room = simp length-set h.room; few = omega arith; limits = subst LineLimits (sym t) (limits-push (lines_of h) c.args.line h.limits c.requires.1) }
