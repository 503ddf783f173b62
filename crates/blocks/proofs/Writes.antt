-- What a write of one block leaves.
use Rattle.std.proofs.Common.{◌≡◌, ℕ, ◌+◌, ◌-◌, ◌*◌, ◌<◌, ◌≤◌, List, ◌++◌, map, length, get_or, take, drop, Vec, sym, ap, ◌∙◌, ⊎_elim, mul-le-mul_left, mul-one, mul-add, arith}
use lib.Seq.{paste}
use borrow.Rule.Slice.PartMut.{put_mid}
use Rattle.std.specs.List.{range_with_len}
use Rattle.std.specs.Vec.{with_items}
use Rattle.std.specs.declared.alloc.Global.{Global}
use Rattle.std.proofs.lemmas.List.{with_items_is, drop-drop, same_lists, get_or-take, get_or-drop, get_or_append_left, get_or-append_right, length-take-le, length-take, length-drop, length-append, take_at, drop_at, append_assoc}
use Rattle.std.proofs.lemmas.List.FromFn.{length-map-range_with_len, get_or-map-range_with_len}
use Rattle.std.proofs.lemmas.Bool.{cases_lt}
use Rattle.blocks.specs.Blocks.{bytes_at, with_bytes, block, with_block}

-- a later block begins behind an earlier one
pub apart : (w i j : ℕ) → i < j → w * i + w ≤ w * j
apart w i j h =
    let m : w * (i + 1) ≤ w * j = mul-le-mul_left w (omega arith) in
    omega (arith, m, mul-add w i 1, mul-one w)

-- the block e of width w is written at i
module _ (w i : ℕ) (e bytes : List ℕ) (fits : w * i + w ≤ length bytes) (long : length e ≡ w) where
  front : length (take (w * i) bytes) ≡ w * i
  front = length-take-le (w * i) bytes (omega arith)

  pub length-with_block : length (with_block w i e bytes) ≡ length bytes
  length-with_block = simp (length-append, length-take, length-drop) (omega arith)

  pub block_here : block w i (with_block w i e bytes) ≡ e
  block_here = ap (take w) (drop_at (take (w * i) bytes) (e ++ drop (w * i + w) bytes) (w * i) front) ∙ take_at e (drop (w * i + w) bytes) w long

  below : (k d : ℕ) → k < w * i → get_or (with_block w i e bytes) k d ≡ get_or bytes k d
  below k d h = get_or_append_left (take (w * i) bytes) (e ++ drop (w * i + w) bytes) d k (omega (arith, front)) ∙ get_or-take (w * i) bytes k d h

  above : (k d : ℕ) → w * i + w ≤ k → get_or (with_block w i e bytes) k d ≡ get_or bytes k d
  above k d h =
      get_or-append_right (take (w * i) bytes) (e ++ drop (w * i + w) bytes) (w * i) k d front (omega arith)
      ∙ get_or-append_right e (drop (w * i + w) bytes) w (k - w * i) d long (omega arith)
      ∙ get_or-drop (w * i + w) bytes (k - w * i - w) d
      ∙ ap (λ m. get_or bytes m d) (omega arith)

  pub block-other : (j : ℕ) → (j ≡ i → ⊥) → w * j + w ≤ length bytes → block w j (with_block w i e bytes) ≡ block w j bytes
  block-other j ne fits' =
      same_lists _ _
      (simp (length-take, length-drop, length-append) (omega arith))
      (λ k d h.
      let kw : k < w = omega (arith, simp (length-take, length-drop) at h) in
      get_or-take w (drop (w * j) (with_block w i e bytes)) k d kw ∙ get_or-drop (w * j) (with_block w i e bytes) k d
      ∙ ⊎_elim
      (λ (lt : j < i). below (w * j + k) d (omega (arith, apart w j i lt)))
      (λ (ge : i ≤ j). above (w * j + k) d (omega (arith, apart w i j (omega (arith, ne)))))
      (cases_lt j i)
      ∙ sym (get_or-take w (drop (w * j) bytes) k d kw ∙ get_or-drop (w * j) bytes k d))

-- lists made from the same value at each index are the same
pub mapped-same : {X : Type 0} (f g : ℕ → X) (n : ℕ) → ((i : ℕ) → i < n → f i ≡ g i) → map f (range_with_len 0 n) ≡ map g (range_with_len 0 n)
mapped-same f g n h =
    same_lists _ _
    (length-map-range_with_len f 0 n ∙ sym (length-map-range_with_len g 0 n))
    (λ k d lt.
    let kn : k < n = omega (arith, length-map-range_with_len f 0 n) in
    get_or-map-range_with_len f 0 n k k d kn (omega arith) ∙ h k kn ∙ sym (get_or-map-range_with_len g 0 n k k d kn (omega arith)))

-- `memory.as_mut_slice()[start..end].copy_from_slice(e)` as the checker reads it
pub put-bytes : (v : Vec ℕ Global) (start k : ℕ) (xs ys e : List ℕ) → start + length e ≤ v.len → xs ≡ v.items → ys ≡ e → k ≡ length e
    → (with_items v (put_mid start k xs ys)).items ≡ with_bytes start (length e) e v.items
put-bytes v start k xs ys e fits p q r =
    let d : drop k (drop start xs) ≡ drop (start + k) xs = drop-drop k start xs in
    let is : put_mid start k xs ys ≡ with_bytes start (length e) e v.items = cc in
    let l : length (with_bytes start (length e) e v.items) ≡ length v.items = simp (length-append, length-take, length-drop) (omega (arith, v.ok.0)) in
    with_items_is v (put_mid start k xs ys) (ap length is ∙ l ∙ sym v.ok.0) ∙ is

-- a body written behind a head
pub written_both : (start : ℕ) (head body bytes : List ℕ) → start + length head ≤ length bytes
    → with_bytes (start + length head) (length body) body (with_bytes start (length head) head bytes) ≡ with_bytes start (length head + length body) (head ++ body) bytes
written_both start head body bytes fits =
    let a = take start bytes in
    let once = with_bytes start (length head) head bytes in
    let rest = drop (start + length head) bytes in
    let last = drop (start + (length head + length body)) bytes in
    let whole : with_bytes start (length head) head bytes ≡ (a ++ head) ++ rest = sym (append_assoc a head rest) in
    let long : length (a ++ head) ≡ start + length head = length-append a head ∙ ap (λ n. n + length head) (length-take-le start bytes (omega arith)) in
    let front : take (start + length head) once ≡ a ++ head = ap (take (start + length head)) whole ∙ take_at (a ++ head) rest (start + length head) long in
    let back : drop (start + length head + length body) once ≡ last =
    sym (drop-drop (length body) (start + length head) once)
    ∙ ap (drop (length body)) (ap (drop (start + length head)) whole ∙ drop_at (a ++ head) rest (start + length head) long)
    ∙ drop-drop (length body) (start + length head) bytes
    ∙ ap (λ n. drop n bytes) (omega arith) in
    ap (λ x. x ++ (body ++ drop (start + length head + length body) once)) front
    ∙ ap (λ x. (a ++ head) ++ (body ++ x)) back
    ∙ append_assoc a head (body ++ last)
    ∙ ap (λ x. a ++ x) (sym (append_assoc head body last))

-- `memory.copy_within(from..from + w, to)` as its contract has it
pub pasted-bytes : (w from to n : ℕ) (bytes : List ℕ) → n ≡ w → paste bytes to (drop from bytes) n ≡ with_bytes to w (bytes_at from w bytes) bytes
pasted-bytes w from to n bytes e = ap (paste bytes to (drop from bytes)) e ∙ append_assoc (take to bytes) (bytes_at from w bytes) (drop (to + w) bytes)
