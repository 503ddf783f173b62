-- The words by which the lines of a script name price sheets.
use Rattle.std.specs.Prelude.{ℕ, cond, List, Some, None, codes, Option}
use Rattle.words.specs.Words.{is_word}
use Rattle.script.specs.declared.line.SheetName.{SheetName}
use Rattle.script.specs.declared.line.SheetName.TheVariants as sheet

-- the word that names a sheet
abbrev pub sheet_name : SheetName → List ℕ
sheet_name sheet.Decree = codes "decree"
sheet_name sheet.House = codes "house"
sheet_name sheet.ProtectedDecree = codes "protected-decree"
sheet_name sheet.ProtectedHouse = codes "protected-house"

-- the sheet that a word names
abbrev pub sheet_at : List ℕ → Option SheetName
sheet_at word =
    cond (is_word word (codes "decree")) (Some sheet.Decree)
    (cond (is_word word (codes "house")) (Some sheet.House)
    (cond (is_word word (codes "protected-decree")) (Some sheet.ProtectedDecree)
    (cond (is_word word (codes "protected-house")) (Some sheet.ProtectedHouse) None)))
