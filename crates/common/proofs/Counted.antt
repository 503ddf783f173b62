-- Sums and tests over the numbers below a count, one number more.
use Rattle.std.proofs.Common.{◌≡◌, ℕ, zero, suc, ◌+◌, ◌<◌, Bool, true, false, ◌&&◌, ◌||◌, sym, refl, ◌∙◌, add-one, arith}
use Rattle.std.proofs.lemmas.Bool.Decides.{Decides-below_and, Decides-below_or}
use Rattle.common.specs.Counts.{sum_to, all_to, any_to}

pub sum_to-more : (f : ℕ → ℕ) (n : ℕ) → sum_to f (n + 1) ≡ sum_to f n + f n
sum_to-more f n = rw add-one refl

pub all_to-more : (p : ℕ → Bool) (n : ℕ) → all_to p (n + 1) ≡ (p n && all_to p n)
all_to-more p n = rw add-one refl

pub any_to-more : (p : ℕ → Bool) (n : ℕ) → any_to p (n + 1) ≡ (p n || any_to p n)
any_to-more p n = rw add-one refl

-- what holds of all holds of each
pub all_to-at : (p : ℕ → Bool) (n : ℕ) → all_to p n ≡ true → (k : ℕ) → k < n → p k ≡ true
all_to-at p n t = (Decides-below_and p (λ k. p k ≡ true) (all_to p) (λ k. (λ e. e, λ e. e)) refl (λ m. refl) n).0 t

-- and what holds of each holds of all
pub all_to-from : (p : ℕ → Bool) (n : ℕ) → ((k : ℕ) → k < n → p k ≡ true) → all_to p n ≡ true
all_to-from p n t = (Decides-below_and p (λ k. p k ≡ true) (all_to p) (λ k. (λ e. e, λ e. e)) refl (λ m. refl) n).1 t

-- one that fails is enough
pub all_to-not : (p : ℕ → Bool) (n k : ℕ) → k < n → p k ≡ false → all_to p n ≡ false
all_to-not p n k h f =
    elim (all_to p n) as (λ b. (b ≡ true → (k : ℕ) → k < n → p k ≡ true) → b ≡ false)
    [ true ↦ (λ w. let a : p k ≡ true = w refl k h in let z : true ≡ false = sym a ∙ f in sym (sym z)) | false ↦ (λ w. refl) ] (all_to-at p n)

-- some number has what one number has
pub any_to-from : (p : ℕ → Bool) (n k : ℕ) → k < n → p k ≡ true → any_to p n ≡ true
any_to-from p n k h t = (Decides-below_or p (λ k. p k ≡ true) (any_to p) (λ k. (λ e. e, λ e. e)) refl (λ m. refl) n).1 (k, h, t)

-- what some number has is found
pub any_to-at : (p : ℕ → Bool) (n : ℕ) → any_to p n ≡ true → (k : ℕ) × (k < n) × (p k ≡ true)
any_to-at p n t = (Decides-below_or p (λ k. p k ≡ true) (any_to p) (λ k. (λ e. e, λ e. e)) refl (λ m. refl) n).0 t

-- what no number has, none is found to have
pub any_to-none : (p : ℕ → Bool) (n : ℕ) → ((k : ℕ) → k < n → p k ≡ false) → any_to p n ≡ false
any_to-none p zero f = refl
any_to-none p (suc n) f = rw (f n (omega arith)) (any_to-none p n (λ k h. f k (omega arith)))
