-- What the making of a board answers.
use Rattle.std.specs.Prelude.{ℕ, Bool, true, false, cond, Ok, Err, Result}
use Rattle.board.specs.declared.fault.BoardFault.{BoardFault}
use Rattle.board.specs.Meaning.{BoardMeaning, Row, empty}
use Rattle.table.specs.Slots.{table_check}
use Rattle.journal.specs.Entries.{journal_check}
use Rattle.boards.specs.declared.making.NotMade.{NotMade}
use Rattle.boards.specs.declared.making.NotMade.TheVariants.{Refused, NoMemory}

-- memory was found, or none was asked for
abbrev pub had_memory : NotMade → Bool
had_memory (Refused f) = true
had_memory NoMemory = false

abbrev pub found_memory : {X : Type 0} → Result X NotMade → Bool
found_memory (Ok x) = true
found_memory (Err e) = had_memory e

-- a new board without rows, where its check passed and memory was found; the check comes first
abbrev pub board_made : Bool → ℕ → ℕ → Result (Unit {0}) BoardFault → Result (BoardMeaning Row) NotMade
board_made memory c l (Err f) = Err (Refused f)
board_made memory c l (Ok u) = cond memory (Ok (empty c l)) (Err NoMemory)

-- a table's limit is its capacity
abbrev pub table_made : Bool → ℕ → ℕ → Result (BoardMeaning Row) NotMade
table_made memory c len = board_made memory c c (table_check c len)

abbrev pub journal_made : Bool → ℕ → ℕ → ℕ → Result (BoardMeaning Row) NotMade
journal_made memory c l len = board_made memory c l (journal_check c l len)
