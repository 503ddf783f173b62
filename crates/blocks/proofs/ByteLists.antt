-- Lists of bytes cut and joined are lists of bytes.
use Rattle.std.proofs.Common.{◌≡◌, ℕ, ◌+◌, ◌-◌, ◌*◌, ◌<◌, ◌≤◌, List, ◌++◌, length, get_or, take, drop, replicate, refl, ⊎_elim, arith}
use Rattle.std.proofs.lemmas.List.{get_or-take, get_or-drop, get_or_past, get_or_append_left, get_or-append_right, get_or-replicate, length-take, length-replicate}
use Rattle.std.proofs.lemmas.Bool.{cases_lt}
use Rattle.blocks.specs.Blocks.{Bytes, block, with_bytes}

pub bytes-append : (xs ys : List ℕ) → Bytes xs → Bytes ys → Bytes (xs ++ ys)
bytes-append xs ys p q k =
    ⊎_elim
    (λ (h : k < length xs). omega (arith, get_or_append_left xs ys 0 k h, p k))
    (λ (h : length xs ≤ k). let e : get_or (xs ++ ys) k 0 ≡ get_or ys (k - length xs) 0 = get_or-append_right xs ys (length xs) k 0 refl h in omega (arith, q (k - length xs)))
    (cases_lt k (length xs))

pub bytes_take : (n : ℕ) (xs : List ℕ) → Bytes xs → Bytes (take n xs)
bytes_take n xs p k =
    ⊎_elim
    (λ (h : k < n). omega (arith, get_or-take n xs k 0 h, p k))
    (λ (h : n ≤ k). omega (arith, get_or_past (take n xs) k 0 (simp length-take (omega arith))))
    (cases_lt k n)

pub bytes_drop : (n : ℕ) (xs : List ℕ) → Bytes xs → Bytes (drop n xs)
bytes_drop n xs p k = omega (arith, get_or-drop n xs k 0, p (n + k))

pub bytes-with : (start w : ℕ) (e bytes : List ℕ) → Bytes e → Bytes bytes → Bytes (with_bytes start w e bytes)
bytes-with start w e bytes p q =
    bytes-append (take start bytes) (e ++ drop (start + w) bytes) (bytes_take start bytes q)
    (bytes-append e (drop (start + w) bytes) p (bytes_drop (start + w) bytes q))

pub bytes-block : (w i : ℕ) (bytes : List ℕ) → Bytes bytes → Bytes (block w i bytes)
bytes-block w i bytes q = bytes_take w (drop (w * i) bytes) (bytes_drop (w * i) bytes q)

pub get_d-zeros : (n k : ℕ) → ◌≡◌ {A = ℕ} (get_or (replicate n 0) k 0) 0
get_d-zeros n k =
    ⊎_elim (λ (h : k < n). get_or-replicate n k 0 0 h) (λ (h : n ≤ k). get_or_past (replicate n 0) k 0 (simp length-replicate h)) (cases_lt k n)

pub bytes-zeros : (n : ℕ) → Bytes (replicate n 0)
bytes-zeros n k = omega (arith, get_d-zeros n k)
