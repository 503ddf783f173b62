-- What a figure is answered as, 0 where there is none.
use Rattle.std.specs.Prelude.{ℕ, Some, None, Ok, Err, Option, Result}
use Rattle.rating.specs.declared.RatingFault.{RatingFault}

-- the N_E of a month, which is at least 4,250
abbrev pub ne_or_none : Option (ℕ × ℕ) → ℕ
ne_or_none (Some m) = m.0
ne_or_none None = 0

-- a rating, which is at least 9 tenths of a kVA
abbrev pub tenths_or_none : Result ℕ RatingFault → ℕ
tenths_or_none (Ok tenths) = tenths
tenths_or_none (Err fault) = 0
