-- What a journal means: its notes in order, the latest for a number deciding.
use Rattle.std.specs.Prelude.{◌≡◌, ℕ, ◌+◌, ◌<◌, List, [], ◌∷◌, replicate, fold, Option, slice_index, slice_set}
use Rattle.board.specs.Meaning.{Row}

-- what one entry says: a number, and the row that stands there from then on, or none
abbrev pub Note : Type 0
Note = ℕ × Option Row

abbrev pub noted : List (Option Row) → Note → List (Option Row)
noted rows e = slice_set rows e.0 e.1

-- the rows after the notes es, where `rows` stood before
abbrev pub replayed : List (Option Row) → List Note → List (Option Row)
replayed rows es = fold noted rows es

-- for each number, one more than the place of the latest note of it, or 0: k notes stand before es
abbrev pub indexed_from : ℕ → List ℕ → List Note → List ℕ
indexed_from k index [] = index
indexed_from k index (e ∷ es) = indexed_from (k + 1) (slice_set index e.0 (k + 1)) es

-- the same for `capacity` numbers, from the first note on
abbrev pub indexed : ℕ → List Note → List ℕ
indexed capacity es = indexed_from 0 (replicate capacity 0) es

-- the index leads to the latest note of each number
abbrev pub Leads : ℕ → List ℕ → List Note → Type 0
Leads capacity index es = (n : ℕ) → n < capacity → slice_index index n ≡ slice_index (indexed capacity es) n
