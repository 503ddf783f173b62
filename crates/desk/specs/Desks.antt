-- What a desk means.
use Rattle.std.specs.Prelude.{List, []}
use Rattle.house.specs.declared.line.Line.{Line}
use Rattle.house.specs.Houses.{lines_of}
use Rattle.bench.specs.Stands.{Stand, nothing, stand_of}
use Rattle.desk.specs.declared.desk.Desk.{Desk}

-- the lines of the house sheet, and what stands
pub record DeskMeaning : Type 0 where
  pub lines : List Line
  pub stand : Stand

abbrev pub desk_with : List Line → Stand → DeskMeaning
desk_with lines stand = record { lines = lines; stand = stand }

abbrev pub desk_of : Desk → DeskMeaning
desk_of d = desk_with (lines_of d.house) (stand_of d.bench)

-- no line, and nothing stands
abbrev pub new_desk : DeskMeaning
new_desk = desk_with [] nothing
