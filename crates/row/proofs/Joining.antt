-- Bytes joined give the number that they were made of, wherever they stand.
use Rattle.std.proofs.Common.{◌≡◌, ℕ, zero, suc, ◌+◌, ◌*◌, ◌/◌, ◌%◌, ◌^◌, ◌<◌, List, [], ◌∷◌, ◌++◌, length, get_or, sym, ap, ◌∙◌, le_of_suc-le-suc, not-suc-le-zero, mod-eq_of_lt, arith}
use native.Mathlib.Nat.{div-div-eq-div-mul}
use Rattle.std.proofs.lemmas.List.{get_or-append-add}
use Rattle.std.proofs.lemmas.Nat.{div-add-mod', div_below}
use Rattle.std.specs.List.{flat_map}
use Rattle.row.specs.Bytes.{be32, be64, at32, at64}

pub join16 : (x : ℕ) → x < 2 ^ 16 → x / 256 % 256 * 256 + x % 256 ≡ x
join16 x h = omega arith

-- one byte more of x
level : (x m : ℕ) → x / (m * 256) * 256 + x / m % 256 ≡ x / m
level x m = ap (λ q. q * 256 + x / m % 256) (sym (div-div-eq-div-mul x m 256)) ∙ div-add-mod' (x / m) 256

glue32 : (x q1 q2 q3 r0 r1 r2 : ℕ) → q1 * 256 + r0 ≡ x → q2 * 256 + r1 ≡ q1 → q3 * 256 + r2 ≡ q2 → q3 * 16777216 + r2 * 65536 + r1 * 256 + r0 ≡ x
glue32 x q1 q2 q3 r0 r1 r2 a b c = omega arith

pub join32 : (x : ℕ) → x < 2 ^ 32 → x / 16777216 % 256 * 16777216 + x / 65536 % 256 * 65536 + x / 256 % 256 * 256 + x % 256 ≡ x
join32 x h =
    let t : x / 16777216 < 256 = div_below x 16777216 256 (omega arith) (omega arith) in
    rw (mod-eq_of_lt t)
    (glue32 x (x / 256) (x / 65536) (x / 16777216) (x % 256) (x / 256 % 256) (x / 65536 % 256) (div-add-mod' x 256) (level x 256) (level x 65536))

glue64 : (x q1 q2 q3 q4 q5 q6 q7 r0 r1 r2 r3 r4 r5 r6 : ℕ) → q1 * 256 + r0 ≡ x → q2 * 256 + r1 ≡ q1 → q3 * 256 + r2 ≡ q2 → q4 * 256 + r3 ≡ q3 → q5 * 256 + r4 ≡ q4 → q6 * 256 + r5 ≡ q5 → q7 * 256 + r6 ≡ q6
    → q7 * 72057594037927936 + r6 * 281474976710656 + r5 * 1099511627776 + r4 * 4294967296 + r3 * 16777216 + r2 * 65536 + r1 * 256 + r0 ≡ x
glue64 x q1 q2 q3 q4 q5 q6 q7 r0 r1 r2 r3 r4 r5 r6 a b c d e f g = omega arith

pub join64 : (x : ℕ) → x < 2 ^ 64 → at64 (be64 x) 0 ≡ x
join64 x h =
    let t : x / 72057594037927936 < 256 = div_below x 72057594037927936 256 (omega arith) (omega arith) in
    rw (mod-eq_of_lt t)
    (glue64 x (x / 256) (x / 65536) (x / 16777216) (x / 4294967296) (x / 1099511627776) (x / 281474976710656) (x / 72057594037927936)
    (x % 256) (x / 256 % 256) (x / 65536 % 256) (x / 16777216 % 256) (x / 4294967296 % 256) (x / 1099511627776 % 256) (x / 281474976710656 % 256)
    (div-add-mod' x 256) (level x 256) (level x 65536) (level x 16777216) (level x 4294967296) (level x 1099511627776) (level x 281474976710656))

-- a place behind a front
pub behind : (pre t : List ℕ) (p q : ℕ) → q ≡ length pre + p → get_or (pre ++ t) q 0 ≡ get_or t p 0
behind pre t p q e = ap (λ n. get_or (pre ++ t) n 0) e ∙ get_or-append-add pre t p 0

pub behind32 : (pre t : List ℕ) (p q : ℕ) → q ≡ length pre + p → at32 (pre ++ t) q ≡ at32 t p
behind32 pre t p q e =
    let a = behind pre t p q e in
    let b = behind pre t (p + 1) (q + 1) (omega arith) in
    let c = behind pre t (p + 2) (q + 2) (omega arith) in
    let d = behind pre t (p + 3) (q + 3) (omega arith) in
    omega arith

-- word k of many, one behind the other
pub word : (xs t : List ℕ) (k : ℕ) → k < length xs → get_or xs k 0 < 2 ^ 32 → at32 (flat_map be32 xs ++ t) (4 * k) ≡ get_or xs k 0
word [] t k h b = absurd (not-suc-le-zero h)
word (x ∷ xs) t zero h b = join32 x b
word (x ∷ xs) t (suc k) h b =
    behind32 (be32 x) (flat_map be32 xs ++ t) (4 * k) (4 * suc k) (omega arith) ∙ word xs t k (le_of_suc-le-suc h) b
