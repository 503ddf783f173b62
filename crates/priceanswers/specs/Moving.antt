-- What an answer tells of the house sheet and of the memory that was found.
use Rattle.std.specs.Prelude.{◌≡◌, Bool, true, List, length, Some, None, Option, MatchOption}
use Rattle.house.specs.declared.line.Line.{Line}
use Rattle.house.specs.Lines.{SheetLines}
use Rattle.answers.specs.declared.answer.Answer.{Answer}
use Rattle.answers.specs.Tells.{had_memory, lines_read}

-- memory was found, or none was needed
abbrev pub found_memory : Option Answer → Bool
found_memory None = true
found_memory (Some a) = had_memory a

-- the house sheet is moved exactly where the answer says that N lines were read, and then N lines stand, within their limits
abbrev pub Moved : List Line → List Line → Answer → Type 0
Moved before after a = MatchOption (lines_read a) (after ≡ before) (λ n. (length after ≡ n) × SheetLines after)
