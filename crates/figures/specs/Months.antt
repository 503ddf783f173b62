-- How a month's N_E is worked out, and which figures a month may have.
use Rattle.std.specs.Prelude.{ℕ, ◌+◌, ◌*◌, Bool, cond, ◌&&◌, Some, None, Option, nat_le}
use Rattle.figures.specs.Rounding.{rounded}

-- s over its base of 8.88131, in ten-thousandths, and 390 thousandths of that
abbrev pub wage_term : ℕ → ℕ
wage_term s = rounded (390 * rounded (10000 * s) 888131) 1000

-- Mx over its base of 141.151, in ten-thousandths, and 185 thousandths of that
abbrev pub materials_term : ℕ → ℕ
materials_term mx = rounded (185 * rounded (10000 * mx) 141151) 1000

-- N_E of the wage index s (in 0.00001) and the materials index Mx (in 0.001)
abbrev pub non_fuel : ℕ → ℕ → ℕ
non_fuel s mx = 4250 + wage_term s + materials_term mx

-- s and Mx from 1 to 9,999,999
abbrev pub index_fits : ℕ → Bool
index_fits x = nat_le 1 x && nat_le x 9999999

-- N_E and N_C up to 99,999
abbrev pub figure_fits : ℕ → Bool
figure_fits n = nat_le n 99999

-- the month's N_E and N_C, where all four are within their limits
abbrev pub month_of : ℕ → ℕ → ℕ → Option (ℕ × ℕ)
month_of s mx nc =
    cond (index_fits s && index_fits mx && figure_fits nc && figure_fits (non_fuel s mx)) (Some (non_fuel s mx, nc)) None
