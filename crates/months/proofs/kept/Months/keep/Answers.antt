use Rattle.std.proofs.Common.{map, vec_items, ap, ◌∙◌, arith}
use Rattle.figures.specs.Figures.{month_figures}
use Rattle.months.proofs.Counted.{count-posted, posted-more}
use Rattle.months.proofs.kept.Months.keep.Goals as goal

pub push_reserved-requires : goal.push_reserved-requires
push_reserved-requires c = let n = count-posted c.args.self.now in omega (arith, n, c.requires, c.args.self.now.room)

pub invariant_of-self : goal.invariant_of-self
invariant_of-self c =
    let n = count-posted c.args.self.now in
    record { room = omega (arith, c.args.self.now.room, c.push_reserved.ensures.capacity); few = omega (arith, n, c.requires, c.push_reserved.ensures.len) }

pub returns : goal.returns
returns c =
    ap (map month_figures) c.push_reserved.ensures.items ∙ posted-more (vec_items c.args.self.now.posted) c.args.month
