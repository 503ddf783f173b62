-- What a board means, and what each call answers and leaves.
use Rattle.std.specs.Prelude.{◌≡◌, ℕ, ◌+◌, ◌<◌, ◌≤◌, Bool, cond, not, ◌&&◌, List, [], ◌∷◌, length, replicate, is_some, Some, None, Ok, Err, Option, Result, nat_le, nat_lt, slice_index, slice_index_or, slice_set}
use Rattle.std.specs.Option.{unwrap_or}
use Rattle.board.specs.declared.fault.BoardFault.{BoardFault}
use Rattle.board.specs.declared.fault.BoardFault.TheVariants.{Outside, Full}

-- a row as its bytes
abbrev pub Row : Type 0
Row = List ℕ

-- 128 values, each a byte
abbrev pub Whole : Row → Type 0
Whole row = (length row ≡ 128) × ((k : ℕ) → slice_index row k < 256)

-- What a board means: how many numbers it has, how many rows may stand, and for each number a row or none.
-- Rows are of any kind X, so that a layer which reads them as something else has the same words.
pub record BoardMeaning (X : Type 0) : Type 0 where
  pub capacity : ℕ
  pub limit : ℕ
  pub rows : List (Option X)

abbrev pub holding : {X : Type 0} → ℕ → ℕ → List (Option X) → BoardMeaning X
holding c l rs = record { capacity = c; limit = l; rows = rs }

-- no row under any of `capacity` numbers
abbrev pub vacant : {X : Type 0} → ℕ → List (Option X)
vacant capacity = replicate capacity None

-- a new board
abbrev pub empty : {X : Type 0} → ℕ → ℕ → BoardMeaning X
empty c l = holding c l (vacant c)

abbrev pub one : {X : Type 0} → Option X → ℕ
one None = 0
one (Some row) = 1

-- how many rows stand
abbrev pub standing : {X : Type 0} → List (Option X) → ℕ
standing [] = 0
standing (r ∷ rows) = one r + standing rows

-- the row of n, if one stands
abbrev pub row_at : {X : Type 0} → BoardMeaning X → ℕ → Option X
row_at m n = slice_index_or m.rows n None

-- n is a number of the board
abbrev pub inside : {X : Type 0} → BoardMeaning X → ℕ → Bool
inside m n = nat_lt n m.capacity

-- no room for a row at n: it has none, and as many as may stand do
abbrev pub full : {X : Type 0} → BoardMeaning X → ℕ → Bool
full m n = not (is_some (row_at m n)) && nat_le m.limit (standing m.rows)

-- the board with r at n and every other row as it was
abbrev pub with_row : {X : Type 0} → BoardMeaning X → ℕ → Option X → BoardMeaning X
with_row m n r = holding m.capacity m.limit (slice_set m.rows n r)

abbrev pub read_answer : {X : Type 0} → BoardMeaning X → ℕ → Result Bool BoardFault
read_answer m n = cond (inside m n) (Ok (is_some (row_at m n))) (Err (Outside n))

-- what the caller's place holds after a reading
abbrev pub read_place : {X : Type 0} → BoardMeaning X → ℕ → X → X
read_place m n place = cond (inside m n) (unwrap_or (row_at m n) place) place

-- reading moves nothing
abbrev pub read_after : {X : Type 0} → BoardMeaning X → ℕ → BoardMeaning X
read_after m n = m

abbrev pub store_answer : {X : Type 0} → BoardMeaning X → ℕ → Result (Unit {0}) BoardFault
store_answer m n = cond (inside m n) (cond (full m n) (Err (Full n)) (Ok tt)) (Err (Outside n))

abbrev pub stored : {X : Type 0} → BoardMeaning X → ℕ → X → BoardMeaning X
stored m n row = cond (inside m n) (cond (full m n) m (with_row m n (Some row))) m

abbrev pub clear_answer : {X : Type 0} → BoardMeaning X → ℕ → Result (Unit {0}) BoardFault
clear_answer m n = cond (inside m n) (Ok tt) (Err (Outside n))

abbrev pub cleared : {X : Type 0} → BoardMeaning X → ℕ → BoardMeaning X
cleared m n = cond (inside m n) (with_row m n None) m

-- what holds of every board
pub record Lawful (m : BoardMeaning Row) : Type 0 where
  pub some : 1 ≤ m.limit
  pub within : m.limit ≤ m.capacity
  pub most : m.capacity ≤ 4096
  pub long : length m.rows ≡ m.capacity
  pub bounded : standing m.rows ≤ m.limit
  pub whole : (n : ℕ) (row : Row) → row_at m n ≡ Some row → Whole row
