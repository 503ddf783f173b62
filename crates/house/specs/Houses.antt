-- The lines that a house sheet holds.
use Rattle.std.specs.Prelude.{List, take, Ok, Err, Result}
use Rattle.house.specs.declared.line.Line.{Line}
use Rattle.house.specs.declared.line.SheetFault.{SheetFault}
use Rattle.house.specs.declared.house.House.{House}

abbrev pub lines_of : House → List Line
lines_of h = take h.count h.lines

-- the lines of the sheet that was made, or the fault
abbrev pub lines_made : Result House SheetFault → Result (List Line) SheetFault
lines_made (Ok h) = Ok (lines_of h)
lines_made (Err f) = Err f
