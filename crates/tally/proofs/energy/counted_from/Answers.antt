use Rattle.std.proofs.Common.{◌≡◌, ◌<◌, ◌^◌, sum, ap, arith, rules}
use Rattle.std.proofs.lemmas.Grind.{common_steps}
use Rattle.tally.proofs.energy.counted_from.Goals as goal

pub sum-requires-clause-fits : goal.sum-requires-clause-fits
sum-requires-clause-fits c =
    let s = ap sum c.counted_on.ensures in
    let b : sum c.counted_on.result < 2 ^ 64 = omega (arith, s) in
    grind (arith, common_steps)

pub returns : goal.returns
returns c =
    let s = ap sum c.counted_on.ensures in
    let t : c.sum.result ≡ sum c.counted_on.result = search rules in
    omega arith
