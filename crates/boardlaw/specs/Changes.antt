-- Stores and clearings one after the other.
use Rattle.std.specs.Prelude.{ℕ, cond, List, [], ◌∷◌, ◌++◌, length, drop, Some, None, Option, Result, nat_le}
use Rattle.board.specs.declared.fault.BoardFault.{BoardFault}
use Rattle.board.specs.Meaning.{BoardMeaning, Row, store_answer, stored, clear_answer, cleared}
use Rattle.boardlaw.specs.declared.change.Change.{Change}
use Rattle.boardlaw.specs.declared.change.Change.TheVariants.{Store, Clear}

-- done, or refused
abbrev pub Answer : Type 0
Answer = Result (Unit {0}) BoardFault

-- the number that a change is about
abbrev pub change_number : Change → ℕ
change_number (Store n row) = n
change_number (Clear n) = n

-- what stands there once the change is accepted
abbrev pub change_row : Change → Option Row
change_row (Store n row) = Some row
change_row (Clear n) = None

abbrev pub change_answer : BoardMeaning Row → Change → Answer
change_answer m (Store n row) = store_answer m n
change_answer m (Clear n) = clear_answer m n

abbrev pub changed : BoardMeaning Row → Change → BoardMeaning Row
changed m (Store n row) = stored m n row
changed m (Clear n) = cleared m n

-- the answers to a list of changes, each after the changes before it
abbrev pub answers_of : BoardMeaning Row → List Change → List Answer
answers_of m [] = []
answers_of m (x ∷ xs) = change_answer m x ∷ answers_of (changed m x) xs

abbrev pub changed_all : BoardMeaning Row → List Change → BoardMeaning Row
changed_all m [] = m
changed_all m (x ∷ xs) = changed_all (changed m x) xs

-- what a place for the answers holds after the changes: the answers, and behind them what it held; as it was, if it is too short
abbrev pub placed : BoardMeaning Row → List Change → List Answer → List Answer
placed m changes place = cond (nat_le (length changes) (length place)) (answers_of m changes ++ drop (length changes) place) place

-- the board after the changes, if there is a place for their answers
abbrev pub applied : BoardMeaning Row → List Change → List Answer → BoardMeaning Row
applied m changes place = cond (nat_le (length changes) (length place)) (changed_all m changes) m
