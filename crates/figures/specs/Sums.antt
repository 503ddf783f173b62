-- Sums of price-revision figures.
use Rattle.std.specs.Prelude.{ℕ}
use Rattle.figures.specs.declared.sums.NeSum.{NeSum}
use Rattle.figures.specs.declared.sums.NcSum.{NcSum}

abbrev pub sum_of_ne : ℕ → NeSum
sum_of_ne n = record { 0 = n }

abbrev pub sum_of_nc : ℕ → NcSum
sum_of_nc n = record { 0 = n }
