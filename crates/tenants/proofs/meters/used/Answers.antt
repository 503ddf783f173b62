use Rattle.std.proofs.Common.{ℕ, ◌*◌, ◌≤◌, refl, arith}
use Rattle.std.proofs.lemmas.Nat.{mul-le, div_below}
use Rattle.tenants.proofs.meters.used.Goals as goal

pub returns : goal.returns
returns c =
    let kwh : ℕ = c.args.monthly in
    let share : ℕ = c.args.months * c.args.hundredths in
    let few : share ≤ 3 * 125 = mul-le c.args.months c.args.hundredths 3 125 (omega arith) (omega arith) in
    let most : kwh * share ≤ 65535 * 375 = mul-le kwh share 65535 375 (omega arith) (omega arith) in
    record { value = refl; bound = div_below (kwh * share) 100 1000000 (omega arith) (omega arith) }
