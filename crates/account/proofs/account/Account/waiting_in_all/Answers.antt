use Rattle.std.proofs.Common.{◌≡◌, ℕ, ◌<◌, ◌≤◌, ◌^◌, sum, ap, arith, rules}
use Rattle.std.proofs.lemmas.Grind.{common_steps}
use Rattle.account.specs.Tenancy.{tenancy_of}
use Rattle.account.specs.Waiting.{kwh_on}
use Rattle.account.proofs.Kwh.{circuit-most}
use Rattle.account.proofs.account.Account.waiting_in_all.Goals as goal

pub sum-requires-clause-fits : goal.sum-requires-clause-fits
sum-requires-clause-fits c =
    let a = c.args.self.now in
    let most : (k : ℕ) → k < 6 → kwh_on c.args.hours (tenancy_of a) k ≤ 100000 = circuit-most a.state a.profile.kinds a.waiting a.unsettled c.args.hours in
    let s = ap sum c.waiting_on.ensures.value in
    let b : sum c.waiting_on.result < 2 ^ 32 = omega (arith, most 0 (omega arith), most 1 (omega arith), most 2 (omega arith), most 3 (omega arith), most 4 (omega arith), most 5 (omega arith)) in
    grind (arith, common_steps)

pub returns : goal.returns
returns c =
    let s = ap sum c.waiting_on.ensures.value in
    let t : c.sum.result ≡ sum c.waiting_on.result = search rules in
    omega arith
