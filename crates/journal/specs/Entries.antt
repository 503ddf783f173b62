-- The memory of a journal board: entries of 131 bytes, one behind the other.
use Rattle.std.specs.Prelude.{ℕ, ◌+◌, ◌*◌, ◌/◌, Bool, cond, ◌&&◌, List, map, drop, Some, None, Ok, Err, Option, Result, ◌==◌, nat_le, nat_lt, slice_index}
use Rattle.std.specs.List.{range_with_len}
use Rattle.board.specs.declared.fault.BoardFault.{BoardFault}
use Rattle.board.specs.declared.fault.BoardFault.TheVariants.{Unfit}
use Rattle.board.specs.Meaning.{Row, vacant}
use Rattle.blocks.specs.Blocks.{block}
use Rattle.blocks.specs.Marks.{held}
use Rattle.journal.specs.Replay.{Note, replayed}

-- the number that an entry speaks of, its high byte first
abbrev pub entry_number : List ℕ → ℕ
entry_number e = 256 * slice_index e 1 + slice_index e 2

-- a mark, a number and a row; any mark but 1 says that the row was cleared
abbrev pub note_of : List ℕ → Note
note_of e = (entry_number e, held (slice_index e 0) (drop 3 e))

-- what the first `used` entries say
abbrev pub notes : ℕ → List ℕ → List Note
notes used bytes = map (λ i. note_of (block 131 i bytes)) (range_with_len 0 used)

-- the rows of a board of `capacity` numbers, by its first `used` entries
abbrev pub entry_rows : ℕ → ℕ → List ℕ → List (Option Row)
entry_rows capacity used bytes = replayed (vacant capacity) (notes used bytes)

-- the number of the entry e at a place, if it is a number of the board and the index has no later entry of it
abbrev pub latest_number : ℕ → List ℕ → List ℕ → ℕ → Option ℕ
latest_number capacity index e place = cond (nat_lt (entry_number e) capacity && slice_index index (entry_number e) == place + 1) (Some (entry_number e)) None

-- a journal board takes 1 to 4,096 numbers, a limit of 1 to as many rows, and a memory of more entries than the limit and at most 65,535
abbrev pub journal_takes : ℕ → ℕ → ℕ → Bool
journal_takes c l len = nat_le 1 c && nat_le c 4096 && nat_le 1 l && nat_le l c && nat_lt l (len / 131) && nat_le (len / 131) 65535

abbrev pub journal_check : ℕ → ℕ → ℕ → Result (Unit {0}) BoardFault
journal_check c l len = cond (journal_takes c l len) (Ok tt) (Err (Unfit len))
