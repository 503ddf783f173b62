-- Comparing bytes decides whether they are the same.
use Rattle.std.proofs.Common.{◌≡◌, ℕ, true, false, Bool, eqb, ◌&&◌, List, [], ◌∷◌, refl, ap, sym, ◌∙◌}
use lib.Pointwise.{pointwise, bytes_decides}
use Rattle.row.specs.Rows.{same_bytes}

-- arrays are compared by this test
pub same-compared : (xs ys : List ℕ) → pointwise eqb xs ys ≡ same_bytes xs ys
same-compared [] [] = refl
same-compared [] (y ∷ ys) = refl
same-compared (x ∷ xs) [] = refl
same-compared (x ∷ xs) (y ∷ ys) = ap (λ b. eqb x y && b) (same-compared xs ys)

pub same_refl : (xs : List ℕ) → same_bytes xs xs ≡ true
same_refl xs = sym (same-compared xs xs) ∙ (bytes_decides xs xs).1 refl

pub same-is : (xs ys : List ℕ) → same_bytes xs ys ≡ true → xs ≡ ys
same-is xs ys h = (bytes_decides xs ys).0 (same-compared xs ys ∙ h)

-- bytes that are not the same differ
pub not-from-apart : (xs ys : List ℕ) → (xs ≡ ys → ⊥) → same_bytes xs ys ≡ false
not-from-apart xs ys d =
    elim (same_bytes xs ys) as (λ b. (b ≡ true → xs ≡ ys) → b ≡ false) [ true ↦ (λ w. absurd (d (w refl))) | false ↦ (λ w. refl) ] (same-is xs ys)
