-- A tariff of so many codes, all at one price.
use Rattle.std.specs.Prelude.{ℕ, cond, nat_lt}
use Rattle.sheet.specs.Tariff.{Tariff}

abbrev pub flat_tariff : ℕ → Tariff
flat_tariff count = record {
  count = count;
  permitted = λ code u. nat_lt code count;
  parts = λ code u. cond (nat_lt code count) (2000000000000, 0) (0, 0);
}
