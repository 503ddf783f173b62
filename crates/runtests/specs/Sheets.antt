-- A tariff for tests: one plan at one price for everybody.
use Rattle.std.specs.Prelude.{ℕ, cond, ◌==◌}
use Rattle.sheet.specs.Tariff.{Tariff}

abbrev pub one_plan : ℕ → Tariff
one_plan price = record { count = 1; permitted = λ code u. (code == 0); parts = λ code u. cond (code == 0) (price, 0) (0, 0) }
