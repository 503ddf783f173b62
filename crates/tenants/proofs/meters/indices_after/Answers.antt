use Rattle.std.proofs.Common.{ℕ, slice_index, refl, arith, rules}
use Rattle.std.proofs.lemmas.List.FromFn.{fill_by_all}
use Rattle.tenants.specs.Meters.{index_at, indices_after}
use Rattle.tenants.proofs.Calls.{from-at}
use Rattle.tenants.proofs.meters.indices_after.Goals as goal

pub returns : goal.returns
unfolding indices_after
returns c =
    let next : ℕ → ℕ = λ i. index_at (slice_index c.args.old.now i) (slice_index c.args.monthly.now i) c.args.months c.args.lot.seed i in
    fill_by_all next c.from_fn.result 12 0 c.from_fn.ensures.items.long (λ k below. from-at _ _ next (λ i y q called. search rules) 0 c.from_fn.result 12 0 _ refl c.from_fn.ensures.items.each k (omega arith) below)
