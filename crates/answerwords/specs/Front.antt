-- The numbers at the front of a text.
use Rattle.std.specs.Prelude.{ℕ, zero, suc, cond, List, [], ◌∷◌, Some, None, Option}
use Rattle.std.specs.Borrow.{Bor}
use Rattle.std.specs.Option.{option_map}
use Rattle.words.specs.Words.{word_of, rest_of}
use Rattle.words.specs.Numbers.{is_end, number_of}

-- a value goes on, none stays
abbrev pub bound : {X Y : Type 0} → Option X → (X → Option Y) → Option Y
bound None f = None
bound (Some x) f = f x

-- numbers with one more before them, and what stands behind them
abbrev pub before : ℕ → List ℕ × List ℕ → List ℕ × List ℕ
before n front = (n ∷ front.0, front.1)

-- the first n words as numbers, and what stands behind them
unfoldable pub front_of : ℕ → List ℕ → Option (List ℕ × List ℕ)
front_of zero text = Some ([], text)
front_of (suc n) text = bound (number_of (word_of text)) (λ x. option_map (before x) (front_of n (rest_of text)))

-- what was read, and what stands behind it, which is lent
abbrev pub seen : {X : Type 0} → X × Bor (List ℕ) → X × List ℕ
seen front = (front.0, front.1.now)

-- a value, where no word is left
abbrev pub ended : {X : Type 0} → List ℕ → X → Option X
ended rest x = cond (is_end rest) (Some x) None

-- the numbers of a text that has n numbers and nothing else
abbrev pub exactly : ℕ → List ℕ → Option (List ℕ)
exactly n text = bound (front_of n text) (λ front. ended front.1 front.0)
