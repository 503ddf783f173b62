-- Balances, in cents.
use Rattle.std.specs.Prelude.{Bool, false, ◌&&◌, ℤ, pos, negsuc, ◌==◌, int_le}

-- within 10^12 of 0
abbrev pub balance_fits : ℤ → Bool
balance_fits b = int_le (negsuc 999999999999) b && int_le b (pos 1000000000000)

-- nothing is owed on either side
abbrev pub is_zero : ℤ → Bool
is_zero (pos n) = n == 0
is_zero (negsuc n) = false
