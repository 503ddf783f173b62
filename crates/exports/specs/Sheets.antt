-- The sheet that a number and bytes give.
use Rattle.std.specs.Prelude.{ℕ, cond, List, [], Some, None, Ok, Err, Option, Result, ◌==◌}
use Rattle.sheet.specs.Tariff.{Tariff}
use Rattle.house.specs.declared.line.Line.{Line}
use Rattle.house.specs.declared.line.SheetFault.{SheetFault}
use Rattle.house.specs.Reading.{read_of}
use Rattle.script.specs.declared.line.SheetName.{SheetName}
use Rattle.script.specs.declared.line.SheetName.TheVariants.{Decree, House, ProtectedDecree, ProtectedHouse}
use Rattle.sheets.specs.Named.{tariff_named}
use Rattle.exports.specs.declared.fault.Fault.{Fault}
use Rattle.exports.specs.declared.fault.Fault.TheVariants as fault

-- the sheet of a number
abbrev pub name_at : ℕ → Option SheetName
name_at n =
    cond (n == 0) (Some Decree)
    (cond (n == 1) (Some House) (cond (n == 2) (Some ProtectedDecree) (cond (n == 3) (Some ProtectedHouse) None)))

-- the lines of the house sheet; the bytes are looked at only where the sheet has it
abbrev pub lines_handed : SheetName → List ℕ → Result (List Line) SheetFault
lines_handed Decree bytes = Ok []
lines_handed House bytes = read_of bytes
lines_handed ProtectedDecree bytes = Ok []
lines_handed ProtectedHouse bytes = read_of bytes

abbrev pub tariff_with : SheetName → Result (List Line) SheetFault → Result Tariff Fault
tariff_with name (Ok lines) = Ok (tariff_named name lines)
tariff_with name (Err f) = Err (fault.Sheet f)

abbrev pub tariff_handed : Option SheetName → List ℕ → Result Tariff Fault
tariff_handed None bytes = Err fault.UnknownSheet
tariff_handed (Some name) bytes = tariff_with name (lines_handed name bytes)
