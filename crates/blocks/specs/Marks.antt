-- The first byte of a block: whether it holds a row.
use Rattle.std.specs.Prelude.{ℕ, Bool, cond, List, Some, None, Option, ◌==◌}

-- the mark of a block that holds this row, or none
abbrev pub mark_byte : Option (List ℕ) → ℕ
mark_byte None = 0
mark_byte (Some row) = 1

-- a block with this first byte holds a row: any byte but that of a row says that it holds none
abbrev pub is_row : ℕ → Bool
is_row byte = byte == 1

-- what a block with this first byte holds
abbrev pub held : ℕ → List ℕ → Option (List ℕ)
held byte row = cond (is_row byte) (Some row) None
