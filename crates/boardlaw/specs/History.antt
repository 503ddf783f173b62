-- What was asked of a board and what it answered, and what follows for its rows.
use Rattle.std.specs.Prelude.{◌≡◌, ℕ, ◌≤◌, cond, not, ◌&&◌, List, [], ◌∷◌, map, length, is_some, is_ok, None, Ok, Err, Option, ◌==◌, nat_lt}
use Rattle.std.specs.List.{range_with_len}
use Rattle.board.specs.declared.fault.BoardFault.TheVariants.{Outside, Full}
use Rattle.board.specs.Meaning.{BoardMeaning, Row, row_at, standing, empty}
use Rattle.boardlaw.specs.declared.change.Change.{Change}
use Rattle.boardlaw.specs.declared.change.Change.TheVariants.{Store, Clear}
use Rattle.boardlaw.specs.Changes.{Answer, change_number, change_row, answers_of, changed_all}

-- the changes asked of a board since its making, each with its answer, the newest first
abbrev pub History : Type 0
History = List (Change × Answer)

-- the history after these changes and answers
abbrev pub told : History → List Change → List Answer → History
told t [] ys = t
told t (x ∷ xs) [] = t
told t (x ∷ xs) (y ∷ ys) = told ((x, y) ∷ t) xs ys

-- the row last stored at n with no clearing of n after it, among the changes that were accepted; none if there is none
abbrev pub last_stored : ℕ → History → Option Row
last_stored n [] = None
last_stored n (e ∷ t) = cond (is_ok e.1 && change_number e.0 == n) (change_row e.0) (last_stored n t)

-- how many of the numbers below c have such a row
abbrev pub rows_left : ℕ → History → ℕ
rows_left c t = standing (map (λ n. last_stored n t) (range_with_len 0 c))

-- what a board of capacity c and limit l owes for a change after the history t: outside exactly if the number is c or more,
-- full exactly if that number has no row and l rows stand
abbrev pub fair_answer : ℕ → ℕ → History → Change → Answer
fair_answer c l t (Store n row) = cond (nat_lt n c) (cond (not (is_some (last_stored n t)) && rows_left c t == l) (Err (Full n)) (Ok tt)) (Err (Outside n))
fair_answer c l t (Clear n) = cond (nat_lt n c) (Ok tt) (Err (Outside n))

-- every answer was the one owed after what came before, and never did more than l rows stand
abbrev pub Fair : ℕ → ℕ → History → Type 0
Fair c l [] = Unit {0}
Fair c l (e ∷ t) = (e.1 ≡ fair_answer c l t e.0) × (rows_left c t ≤ l) × Fair c l t

-- the law of a board of capacity c and limit l with the history t
pub record BoardLaw (c l : ℕ) (t : History) (m : BoardMeaning Row) : Type 0 where
  pub capacity : m.capacity ≡ c
  pub limit : m.limit ≡ l
  pub long : length m.rows ≡ c
  pub rows : (n : ℕ) → row_at m n ≡ last_stored n t
  pub bounded : rows_left c t ≤ l
  pub answers : Fair c l t

-- a new board keeps the law over every list of changes
abbrev pub LawStands : Type 0
LawStands = (c l : ℕ) (changes : List Change) → BoardLaw c l (told [] changes (answers_of (empty c l) changes)) (changed_all (empty c l) changes)
