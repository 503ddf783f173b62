-- The room that a line's numbers have.
use Rattle.std.specs.Prelude.{ℕ, Bool, cond, List, [], ◌∷◌, ◌++◌, length, nat_lt}

-- 26 numbers are the most
abbrev pub has_room : List ℕ → Bool
has_room ns = nat_lt (length ns) 26

abbrev pub pushed : List ℕ → ℕ → List ℕ
pushed ns n = cond (has_room ns) (ns ++ n ∷ []) ns
