-- Twelve numbers, one a register, and sums over the circuits.
use Rattle.std.proofs.Common.{◌≡◌, ℕ, zero, suc, ◌+◌, ◌<◌, get_or, refl, ◌∙◌, arith}
use Rattle.std.proofs.lemmas.List.FromFn.{length-map-range_with_len, get_or-map-range_with_len, fill_by_all}
use Rattle.common.specs.Counts.{sum_to}
use Rattle.account.specs.Registers.{twelve}

pub at-twelve : (f : ℕ → ℕ) (i : ℕ) → i < 12 → get_or (twelve f) i 0 ≡ f i
at-twelve f i h = get_or-map-range_with_len f 0 12 i i 0 h (omega arith)

pub twelve-same : (f g : ℕ → ℕ) → ((i : ℕ) → i < 12 → f i ≡ g i) → twelve f ≡ twelve g
twelve-same f g e = fill_by_all g (twelve f) 12 0 (length-map-range_with_len f 0 12) (λ k h. at-twelve f k h ∙ e k h)

pub sum_same : (f g : ℕ → ℕ) (n : ℕ) → ((i : ℕ) → i < n → f i ≡ g i) → sum_to f n ≡ sum_to g n
sum_same f g zero e = refl
sum_same f g (suc n) e =
    let a = sum_same f g n (λ i h. e i (omega arith)) in
    let b = e n (omega arith) in
    omega arith

pub sum_both : (f g : ℕ → ℕ) (n : ℕ) → sum_to (λ i. f i + g i) n ≡ sum_to f n + sum_to g n
sum_both f g zero = refl
sum_both f g (suc n) = let a = sum_both f g n in omega arith
