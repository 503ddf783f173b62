-- The bytes of pairs of digits.
use Rattle.std.proofs.Common.{◌≡◌, ℕ, zero, suc, ◌+◌, ◌*◌, ◌≤◌, List, [], ◌∷◌, map, length, get_or, slice_index, refl, ap, ◌∙◌, sym, arith}
use Rattle.std.specs.Simd.{first_chunks}
use Rattle.std.specs.List.{range_with_len}
use Rattle.words.specs.Hex.{byte_of, byte_at}

-- two digits more at the front
shifted : (high low : ℕ) (text : List ℕ) (j k : ℕ) → map (byte_at (high ∷ low ∷ text)) (range_with_len (j + 1) k) ≡ map (byte_at text) (range_with_len j k)
shifted high low text j zero = refl
shifted high low text j (suc k) =
    let all : List ℕ = high ∷ low ∷ text in
    let even : 2 * (j + 1) ≡ suc (suc (2 * j)) = omega arith in
    let odd : 2 * (j + 1) + 1 ≡ suc (suc (2 * j + 1)) = omega arith in
    λ i. byte_of (get_or all (even i) 0) (get_or all (odd i) 0) ∷ shifted high low text (j + 1) k i

-- the first k pairs of a text
pub bytes_of_pairs : (k : ℕ) (text : List ℕ) → 2 * k ≤ length text
    → map (λ (p : List ℕ). byte_of (slice_index p 0) (slice_index p 1)) (first_chunks 2 k text) ≡ map (byte_at text) (range_with_len 0 k)
bytes_of_pairs zero text h = refl
bytes_of_pairs (suc k) [] h = absurd (omega arith)
bytes_of_pairs (suc k) (high ∷ []) h = absurd (omega arith)
bytes_of_pairs (suc k) (high ∷ low ∷ text) h = ap (λ (bs : List ℕ). byte_of high low ∷ bs) (bytes_of_pairs k text (omega arith) ∙ sym (shifted high low text 0 k))
