-- What each of the sheets means that a script can name.
use Rattle.std.specs.Prelude.{List}
use Rattle.sheet.specs.Tariff.{Tariff}
use Rattle.decree.specs.Decreed.{decree_tariff}
use Rattle.house.specs.declared.line.Line.{Line}
use Rattle.house.specs.Houses.{lines_of}
use Rattle.house.specs.Tariffs.{house_tariff}
use Rattle.protected.specs.Layer.{protected_over}
use Rattle.script.specs.declared.line.SheetName.{SheetName}
use Rattle.script.specs.declared.line.SheetName.TheVariants as name
use Rattle.sheets.specs.declared.any.AnySheet.{AnySheet}
use Rattle.sheets.specs.declared.any.AnySheet.TheVariants.{Decree, House, ProtectedDecree, ProtectedHouse}

-- each sheet means what it meant before it became one of four
abbrev pub tariff_of : AnySheet → Tariff
tariff_of (Decree s) = decree_tariff
tariff_of (House s) = house_tariff (lines_of s)
tariff_of (ProtectedDecree s) = protected_over decree_tariff
tariff_of (ProtectedHouse s) = protected_over (house_tariff (lines_of s.below))

-- the tariff of a name, where the house sheet has these lines
abbrev pub tariff_named : SheetName → List Line → Tariff
tariff_named name.Decree lines = decree_tariff
tariff_named name.House lines = house_tariff lines
tariff_named name.ProtectedDecree lines = protected_over decree_tariff
tariff_named name.ProtectedHouse lines = protected_over (house_tariff lines)
