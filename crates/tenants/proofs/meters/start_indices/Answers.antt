use Rattle.std.proofs.Common.{refl, rules, arith}
use Rattle.std.proofs.lemmas.List.FromFn.{fill_by_all}
use Rattle.tenants.specs.Meters.{start_at, start_indices}
use Rattle.tenants.proofs.Calls.{from-at}
use Rattle.tenants.proofs.meters.start_indices.Goals as goal

pub returns : goal.returns
unfolding start_indices
returns c =
    let start = start_at c.args.kinds.now c.args.lot.seed in
    fill_by_all start c.from_fn.result 12 0 c.from_fn.ensures.items.long (λ k below. from-at _ _ start (λ i y q called. search rules) 0 c.from_fn.result 12 0 _ refl c.from_fn.ensures.items.each k (omega arith) below)
