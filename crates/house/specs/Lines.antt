-- The limits of a line.
use Rattle.std.specs.Prelude.{◌≡◌, ℕ, ◌<◌, ◌≤◌, Bool, true, ◌&&◌, List, length, nat_le, slice_index_or}
use Rattle.pricing.specs.declared.rate.UnitRate.{UnitRate}
use Rattle.house.specs.declared.line.Line.{Line}

-- both coefficients go to 20,000 thousandths of a cent
abbrev pub rate_fits : UnitRate → Bool
rate_fits r = nat_le r.ne 20000 && nat_le r.nc 20000

-- charge to 10,000,000 mills, 10,000 mills for a tenth, both powers to 2,500 tenths
abbrev pub line_fits : Line → Bool
line_fits l =
    nat_le l.charge 10000000 && nat_le l.charge_a_tenth 10000 && nat_le l.free_tenths 2500 && nat_le l.least_power 2500
    && rate_fits l.day && rate_fits l.night

-- what stands where no line does
abbrev pub no_line : Line
no_line = record {
  charge = 0;
  charge_a_tenth = 0;
  free_tenths = 0;
  least_power = 0;
  day = record { ne = 0; nc = 0 };
  night = record { ne = 0; nc = 0 };
}

abbrev pub line_at : List Line → ℕ → Line
line_at ls n = slice_index_or ls n no_line

-- each line is within its limits
abbrev pub LineLimits : List Line → Type 0
LineLimits ls = (n : ℕ) → n < length ls → line_fits (line_at ls n) ≡ true

-- the lines of a sheet: one to eight, within their limits
abbrev pub SheetLines : List Line → Type 0
SheetLines ls = (1 ≤ length ls) × (length ls ≤ 8) × LineLimits ls
