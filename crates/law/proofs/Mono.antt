-- A lower price is never rounded to more.
use Rattle.std.proofs.Common.{◌≡◌, ℕ, ◌+◌, ◌*◌, ◌/◌, ◌%◌, ◌<◌, ◌≤◌, true, false, ltb, ◌⊎◌, ap, ◌∙◌, ⊎_elim, add-mul, arith}
use Rattle.std.proofs.lemmas.Nat.{div-add-mod', mod_below, mul-le}
use Rattle.std.proofs.lemmas.Bool.Decides.{nat_tests}
use Rattle.std.proofs.lemmas.Bool.{cases_Bool, cases_lt}
use Rattle.figures.specs.Rounding.{rounded}

-- a quotient with its rest, rounded up where over half is left
up : (a b : ℕ) → ltb b (2 * (a % b)) ≡ true → 0 < b → rounded a b ≡ a / b + 1
up a b h p = grind (arith, nat_tests)

down : (a b : ℕ) → ltb b (2 * (a % b)) ≡ false → 0 < b → rounded a b ≡ a / b
down a b h p = grind (arith, nat_tests)

-- twice the rounded quotient lies within half a divisor of twice the dividend
within : (a b : ℕ) → 0 < b → (2 * a ≤ 2 * (rounded a b * b) + b) × (2 * (rounded a b * b) < 2 * a + b)
within a b p =
    let e = div-add-mod' a b in
    let m = mod_below a b p in
    ⊎_elim
    (λ h.
    let u = up a b h p in
    let half : b < 2 * (a % b) = grind (arith, nat_tests) in
    let t : rounded a b * b ≡ a / b * b + 1 * b = ap (λ r. r * b) u ∙ add-mul (a / b) 1 b in
    (omega (arith, e, m, half, t), omega (arith, e, m, half, t)))
    (λ h.
    let d = down a b h p in
    let half : 2 * (a % b) ≤ b = grind (arith, nat_tests) in
    let t : rounded a b * b ≡ a / b * b = ap (λ r. r * b) d in
    (omega (arith, e, m, half, t), omega (arith, e, m, half, t)))
    (cases_Bool (ltb b (2 * (a % b))))

apart : (r s b a c : ℕ) → s + 1 ≤ r → a ≤ c → 2 * (r * b) < 2 * a + b → 2 * c ≤ 2 * (s * b) + b → ⊥
apart r s b a c g l x y =
    let m : (s + 1) * b ≤ r * b = mul-le (s + 1) b r b g (omega arith) in
    let t : (s + 1) * b ≡ s * b + 1 * b = add-mul s 1 b in
    omega (arith, m, t, x, y, l)

pub rounded-mono : (a c b : ℕ) → 0 < b → a ≤ c → rounded a b ≤ rounded c b
rounded-mono a c b p l =
    let x = within a b p in
    let y = within c b p in
    ⊎_elim (λ (h : rounded c b < rounded a b). absurd (apart (rounded a b) (rounded c b) b a c (omega arith) l x.1 y.0)) (λ (h : rounded a b ≤ rounded c b). h)
    (cases_lt (rounded c b) (rounded a b))
