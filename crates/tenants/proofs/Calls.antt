-- What an array holds that was made by a closure which leaves what it captured.
use Rattle.std.proofs.Common.{◌≡◌, ℕ, zero, suc, ◌+◌, ◌<◌, ◌≤◌, List, slice_index_or, subst, ◌∙◌, arith}
use Rattle.std.proofs.Math.Nat.{eq-or-lt_of_le}
use mathlib.Core.Logic.{⊎_elim}
use Rattle.std.specs.Fn.{Called}
use Rattle.std.specs.Array.{IsFromFnResultFrom}
use denote.Param.Members.{Mut}

module _ {F B : Type 0} (g : Mut F (ℕ × Unit {0}) B) (f : F) (t : ℕ → B) (gives : (i : ℕ) (y : B) (q : F) → Called g f (i, tt) y q → (y ≡ t i) × (q ≡ f)) (d : B) (ys : List B) where
  pub from-at : (n i : ℕ) (p : F) → p ≡ f → IsFromFnResultFrom g p ys i n → (k : ℕ) → i ≤ k → k < i + n → slice_index_or ys k d ≡ t k
  from-at zero i p at f k low high = absurd (omega (arith, low, high))
  from-at (suc n) i p is each k low high =
      let q = each.0 in
      let y = each.1 in
      let said = gives i y q (subst (λ s. Called g s (i, tt) y q) is each.3) in
      ⊎_elim
      (λ same. subst (λ j. slice_index_or ys j d ≡ t j) same (each.2.1 d ∙ said.0))
      (λ more. from-at n (i + 1) q said.1 each.4 k (omega (arith, more)) (omega (arith, high)))
      (eq-or-lt_of_le low)
