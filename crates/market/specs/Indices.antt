-- The indices that are posted each month.
use Rattle.std.specs.Prelude.{ℕ, ◌+◌, ◌-◌, ◌^◌, min, max}
use Rattle.chance.specs.Drawn.{drawn_below}
use Rattle.market.specs.declared.indices.MonthIndices.{MonthIndices}

-- a step up and a step down, within bounds
abbrev pub wandered : ℕ → ℕ → ℕ → ℕ → ℕ → ℕ
wandered x up down low high = max low (min (min (x + up) (2 ^ 64 - 1) - down) high)

abbrev pub first_indices : MonthIndices
first_indices = record { s = 888131; mx = 141151; nc = 10000 }

abbrev pub next_indices : MonthIndices → ℕ → MonthIndices
next_indices m lot = record {
  s = wandered m.s (drawn_below lot 0 6001) 2000 800000 2000000;
  mx = wandered m.mx (drawn_below lot 1 1201) 500 100000 400000;
  nc = wandered m.nc (drawn_below lot 2 801) 400 5000 20000;
}
