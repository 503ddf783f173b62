-- The figures that a month holds.
use Rattle.std.specs.Prelude.{ℕ}
use Rattle.figures.specs.declared.month.Month.{Month}

-- N_E and N_C
abbrev pub month_figures : Month → ℕ × ℕ
month_figures m = (m.ne, m.nc)
