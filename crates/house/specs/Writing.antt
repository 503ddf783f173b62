-- How the lines of a sheet stand as bytes.
use Rattle.std.specs.Prelude.{ℕ, List, [], ◌++◌}
use Rattle.std.specs.List.{flat_map}
use Rattle.pricing.specs.declared.rate.UnitRate.{UnitRate}
use Rattle.house.specs.declared.line.Line.{Line}
use Rattle.house.specs.Fields.{be16, be32, field_bytes}

abbrev pub rate_bytes : UnitRate → List ℕ
rate_bytes r = be16 r.ne ++ be16 r.nc

-- the eighteen bytes of a line
abbrev pub content_bytes : Line → List ℕ
content_bytes l =
    be32 l.charge
    ++ (be16 l.charge_a_tenth ++ (be16 l.free_tenths ++ (be16 l.least_power ++ (rate_bytes l.day ++ rate_bytes l.night))))

-- a line is a field of tag 1
abbrev pub line_bytes : Line → List ℕ
line_bytes l = field_bytes 1 (content_bytes l)

-- an empty field of tag 127 ends the sheet
abbrev pub end_bytes : List ℕ
end_bytes = field_bytes 127 []

-- the lines one after the other, and the end
abbrev pub written : List Line → List ℕ
written ls = flat_map line_bytes ls ++ end_bytes
