-- What the registers of a dwelling show.
use Rattle.std.specs.Prelude.{ℕ, ◌+◌, ◌-◌, ◌*◌, ◌/◌, ◌%◌, cond, List, map, ◌==◌, slice_index}
use Rattle.std.specs.List.{range_with_len}
use Rattle.chance.specs.Drawn.{drawn_below}

-- the kWh of some months at so many hundredths of the usual use
abbrev pub used_in : ℕ → ℕ → ℕ → ℕ
used_in monthly months hundredths = monthly * (months * hundredths) / 100

-- a register starts within 40,000 of its end; that of an unused circuit stands at 0
abbrev pub start_at : List ℕ → ℕ → ℕ → ℕ
start_at kinds lot i = cond (slice_index kinds (i / 2) == 0) 0 (999999 - drawn_below lot (32 + i) 40000)

unfoldable pub start_indices : List ℕ → ℕ → List ℕ
start_indices kinds lot = map (start_at kinds lot) (range_with_len 0 12)

-- three quarters to five quarters of the usual kWh are used; behind 999,999 a register begins again at 0
abbrev pub index_at : ℕ → ℕ → ℕ → ℕ → ℕ → ℕ
index_at old monthly months lot i = (old % 1000000 + used_in monthly months (75 + drawn_below lot (16 + i) 51)) % 1000000

unfoldable pub indices_after : List ℕ → List ℕ → ℕ → ℕ → List ℕ
indices_after old monthly months lot = map (λ i. index_at (slice_index old i) (slice_index monthly i) months lot i) (range_with_len 0 12)
