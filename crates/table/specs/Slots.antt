-- The memory of a table board: a slot of 129 bytes for each number.
use Rattle.std.specs.Prelude.{ℕ, ◌*◌, Bool, cond, ◌&&◌, List, map, drop, Ok, Err, Option, Result, nat_le, slice_index}
use Rattle.std.specs.List.{range_with_len}
use Rattle.board.specs.declared.fault.BoardFault.{BoardFault}
use Rattle.board.specs.declared.fault.BoardFault.TheVariants.{Unfit}
use Rattle.board.specs.Meaning.{Row}
use Rattle.blocks.specs.Blocks.{block}
use Rattle.blocks.specs.Marks.{held}

-- a mark and a row; any mark but 1 says that no row stands
abbrev pub slot_row : List ℕ → Option Row
slot_row s = held (slice_index s 0) (drop 1 s)

-- the rows of the first `capacity` slots
abbrev pub slot_rows : ℕ → List ℕ → List (Option Row)
slot_rows capacity bytes = map (λ i. slot_row (block 129 i bytes)) (range_with_len 0 capacity)

-- a table board takes 1 to 4,096 numbers and a memory with a slot for each, or more
abbrev pub table_takes : ℕ → ℕ → Bool
table_takes c len = nat_le 1 c && nat_le c 4096 && nat_le (129 * c) len

abbrev pub table_check : ℕ → ℕ → Result (Unit {0}) BoardFault
table_check c len = cond (table_takes c len) (Ok tt) (Err (Unfit len))
