-- How many rows stand.
use Rattle.std.proofs.Common.{◌≡◌, ℕ, zero, suc, ◌+◌, ◌<◌, ◌≤◌, false, List, [], ◌∷◌, length, get_or, set, is_some, Some, None, Option, refl, ap, arith}
use mir.Val.{bool_byte}
use Rattle.std.specs.Option.{option_map}
use Rattle.board.specs.Meaning.{one, standing, vacant}

module _ {X : Type 0} where
  pub standing-set : (rows : List (Option X)) (n : ℕ) (r : Option X) → n < length rows → standing (set rows n r) + one (get_or rows n None) ≡ standing rows + one r
  standing-set [] n r h = absurd (omega arith)
  standing-set (s ∷ rows) zero r h = omega arith
  standing-set (s ∷ rows) (suc n) r h = omega (arith, standing-set rows n r (omega arith))

  pub standing-le : (rows : List (Option X)) → standing rows ≤ length rows
  standing-le [] = omega arith
  standing-le (None ∷ rows) = omega (arith, standing-le rows)
  standing-le (Some row ∷ rows) = omega (arith, standing-le rows)

  -- a number without a row leaves room
  pub standing-lt : (rows : List (Option X)) (n : ℕ) → n < length rows → get_or rows n None ≡ None → standing rows < length rows
  standing-lt [] n h e = absurd (omega arith)
  standing-lt (s ∷ rows) zero h e = let none : one s ≡ 0 = ap one e in omega (arith, standing-le rows)
  standing-lt (None ∷ rows) (suc n) h e = omega (arith, standing-lt rows n (omega arith) e)
  standing-lt (Some row ∷ rows) (suc n) h e = omega (arith, standing-lt rows n (omega arith) e)

  pub none_from : (r : Option X) → is_some r ≡ false → r ≡ None
  none_from None e = refl
  none_from (Some row) e = let z : ◌≡◌ {A = ℕ} 0 1 = cc in absurd (omega arith)

  pub byte_one : (r : Option X) → bool_byte (is_some r) ≡ one r
  byte_one None = refl
  byte_one (Some row) = refl

  pub is_some-mapped : {Y : Type 0} (f : Y → X) (o : Option Y) → is_some (option_map f o) ≡ is_some o
  is_some-mapped f None = refl
  is_some-mapped f (Some x) = refl

pub standing-vacant : (X : Type 0) (n : ℕ) → standing {X = X} (vacant n) ≡ 0
standing-vacant X zero = refl
standing-vacant X (suc n) = omega (arith, standing-vacant X n)
