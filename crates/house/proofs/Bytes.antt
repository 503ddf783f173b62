-- Numbers in bytes, and back.
use Rattle.std.proofs.Common.{◌≡◌, ℕ, zero, suc, ◌+◌, ◌*◌, ◌/◌, ◌%◌, ◌<◌, ◌≤◌, List, [], ◌∷◌, ◌++◌, length, get_or, drop, sym, ap, ◌∙◌, add-zero, mod-eq_of_lt, add-one, arith}
use native.Mathlib.Nat.{div-div-eq-div-mul}
use Rattle.std.proofs.lemmas.Nat.{div-add-mod', div_below}
use Rattle.std.proofs.lemmas.List.{drop_more}
use Rattle.house.specs.Fields.{be16, be32}

-- each number of the list is a byte
abbrev pub Bytes : List ℕ → Type 0
Bytes bs = (i : ℕ) → get_or bs i 0 < 256

pub join16 : (x : ℕ) → x < 65536 → x / 256 % 256 * 256 + x % 256 ≡ x
join16 x h = omega arith

-- one byte more of x
level : (x m : ℕ) → x / (m * 256) * 256 + x / m % 256 ≡ x / m
level x m = ap (λ q. q * 256 + x / m % 256) (sym (div-div-eq-div-mul x m 256)) ∙ div-add-mod' (x / m) 256

glue : (x q1 q2 q3 r0 r1 r2 : ℕ) → q1 * 256 + r0 ≡ x → q2 * 256 + r1 ≡ q1 → q3 * 256 + r2 ≡ q2 → q3 * 16777216 + r2 * 65536 + r1 * 256 + r0 ≡ x
glue x q1 q2 q3 r0 r1 r2 a b c = omega arith

pub join32 : (x : ℕ) → x < 4294967296 → x / 16777216 % 256 * 16777216 + x / 65536 % 256 * 65536 + x / 256 % 256 * 256 + x % 256 ≡ x
join32 x h =
    let t : x / 16777216 < 256 = div_below x 16777216 256 (omega arith) (omega arith) in
    rw (mod-eq_of_lt t)
    (glue x (x / 256) (x / 65536) (x / 16777216) (x % 256) (x / 256 % 256) (x / 65536 % 256) (div-add-mod' x 256) (level x 256) (level x 65536))

-- two bytes, read and written again
pub pair16 : (h l : ℕ) (xs ys : List ℕ) → h < 256 → l < 256 → xs ≡ ys → be16 (h * 256 + l) ++ xs ≡ h ∷ l ∷ ys
pair16 h l xs ys a b e =
    let p : (h * 256 + l) / 256 % 256 ≡ h = omega arith in
    let q : (h * 256 + l) % 256 ≡ l = omega arith in
    cc

-- four bytes
pub quad32 : (a b c d : ℕ) (xs ys : List ℕ) → a < 256 → b < 256 → c < 256 → d < 256 → xs ≡ ys
    → be32 (a * 16777216 + b * 65536 + c * 256 + d) ++ xs ≡ a ∷ b ∷ c ∷ d ∷ ys
quad32 a b c d xs ys ha hb hc hd e =
    let p : (a * 16777216 + b * 65536 + c * 256 + d) / 16777216 % 256 ≡ a = omega arith in
    let q : (a * 16777216 + b * 65536 + c * 256 + d) / 65536 % 256 ≡ b = omega arith in
    let r : (a * 16777216 + b * 65536 + c * 256 + d) / 256 % 256 ≡ c = omega arith in
    let s : (a * 16777216 + b * 65536 + c * 256 + d) % 256 ≡ d = omega arith in
    cc

-- n bytes from the place k on, one by one
abbrev pub each : ℕ → ℕ → List ℕ → List ℕ
each k zero bs = []
each k (suc n) bs = get_or bs k 0 ∷ each (suc k) n bs

pub front : (k n : ℕ) (bs : List ℕ) → k + n ≤ length bs → drop k bs ≡ each k n bs ++ drop (k + n) bs
front k zero bs h = ap (λ i. drop i bs) (sym (add-zero k))
front k (suc n) bs h =
    let e : suc k + n ≡ k + suc n = omega arith in
    drop_more bs k 0 (omega arith) ∙ ap (λ i. get_or bs k 0 ∷ drop i bs) (add-one k)
    ∙ ap (λ t. get_or bs k 0 ∷ t) (front (suc k) n bs (omega arith) ∙ ap (λ i. each (suc k) n bs ++ drop i bs) e)
