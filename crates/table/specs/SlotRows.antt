-- What the slots of a memory hold, and what a write of one leaves.
use Rattle.std.specs.Prelude.{◌≡◌, ℕ, ◌+◌, ◌*◌, ◌<◌, ◌≤◌, Bool, true, false, cond, List, length, get_or, take, drop, replicate, Some, None, Option, slice_index, slice_index_or, slice_set}
use Rattle.std.proofs.Common.{sym, ap, subst, ◌∙◌, ⊎_elim, arith}
use Rattle.std.proofs.lemmas.List.{take_all, length-take, length-drop, length-set, get_or-take, get_or-drop, get_or-set_same, get_or-set_other, get_or-replicate, get_or_past, length-replicate, same_lists}
use Rattle.std.proofs.lemmas.Bool.{cases_eq, cases_lt}
use Rattle.std.proofs.lemmas.List.FromFn.{length-map-range_with_len, get_or-map-range_with_len}
use Rattle.board.specs.Meaning.{Row, Whole, vacant}
use Rattle.blocks.specs.Blocks.{block, with_block, Bytes}
use Rattle.blocks.specs.Marks.{is_row}
use Rattle.blocks.proofs.ByteLists.{bytes-block, bytes_drop, get_d-zeros}
use Rattle.blocks.proofs.Writes.{block_here, block-other}
use Rattle.table.specs.Slots.{slot_row, slot_rows}

pub length-slot_rows : (capacity : ℕ) (bytes : List ℕ) → length (slot_rows capacity bytes) ≡ capacity
length-slot_rows capacity bytes = length-map-range_with_len (λ i. slot_row (block 129 i bytes)) 0 capacity

-- what a slot that is read says
module _ (capacity n : ℕ) (bytes s : List ℕ) (inside : n < capacity) (read : s ≡ block 129 n bytes) where
  at : get_or (slot_rows capacity bytes) n None ≡ slot_row s
  at = get_or-map-range_with_len (λ i. slot_row (block 129 i bytes)) 0 capacity n n None inside (omega arith) ∙ ap slot_row (sym read)

  pub slot-none : false ≡ is_row (slice_index s 0) → slice_index_or (slot_rows capacity bytes) n None ≡ None
  slot-none no_row = at ∙ ap (λ b. cond b (Some (drop 1 s)) None) (sym no_row)

  pub slot-some : true ≡ is_row (slice_index s 0) → length s ≡ 129 → slice_index_or (slot_rows capacity bytes) n None ≡ Some (take 128 (drop 1 s))
  slot-some row long = at ∙ ap (λ b. cond b (Some (drop 1 s)) None) (sym row) ∙ ap Some (sym (take_all 128 (drop 1 s) (rw (length-drop, long) (omega arith))))

-- a slot written at i
pub slot_rows-put : (capacity i : ℕ) (s bytes : List ℕ) → i < capacity → 129 * capacity ≤ length bytes → length s ≡ 129
    → slot_rows capacity (with_block 129 i s bytes) ≡ slice_set (slot_rows capacity bytes) i (slot_row s)
slot_rows-put capacity i s bytes h fits long =
    let f : ℕ → Option Row = λ j. slot_row (block 129 j bytes) in
    let g : ℕ → Option Row = λ j. slot_row (block 129 j (with_block 129 i s bytes)) in
    let fl = length-map-range_with_len f 0 capacity in
    let gl = length-map-range_with_len g 0 capacity in
    let fit : 129 * i + 129 ≤ length bytes = omega arith in
    same_lists _ _
    (gl ∙ sym (length-set (slot_rows capacity bytes) i (slot_row s) ∙ fl))
    (λ k d lt.
    let kn : k < capacity = omega (arith, gl) in
    get_or-map-range_with_len g 0 capacity k k d kn (omega arith)
    ∙ ⊎_elim
    (λ (q : k ≡ i). rw q (ap slot_row (block_here 129 i s bytes fit long) ∙ sym (get_or-set_same (slot_rows capacity bytes) i (slot_row s) d (omega (arith, fl)))))
    (λ (q : k ≡ i → ⊥). ap slot_row (block-other 129 i s bytes fit long k q (omega arith)) ∙ sym (get_or-set_other (slot_rows capacity bytes) i k (slot_row s) d q ∙ get_or-map-range_with_len f 0 capacity k k d kn (omega arith)))
    (cases_eq k i))

-- a memory of zeros has no row
pub slot_rows-zeros : (capacity n : ℕ) → slot_rows capacity (replicate n 0) ≡ vacant capacity
slot_rows-zeros capacity n =
    let f : ℕ → Option Row = λ i. slot_row (block 129 i (replicate n 0)) in
    same_lists _ _
    (length-map-range_with_len f 0 capacity ∙ sym (length-replicate capacity None))
    (λ k d h.
    let kn : k < capacity = omega (arith, length-map-range_with_len f 0 capacity) in
    let mark : get_or (block 129 k (replicate n 0)) 0 0 ≡ 0 = get_or-take 129 (drop (129 * k) (replicate n 0)) 0 0 (omega arith) ∙ get_or-drop (129 * k) (replicate n 0) 0 0 ∙ get_d-zeros n (129 * k + 0) in
    get_or-map-range_with_len f 0 capacity k k d kn (omega arith) ∙ rw mark (sym (get_or-replicate capacity k None d kn)))

row-whole : (s : List ℕ) (row : Row) → length s ≡ 129 → Bytes s → slot_row s ≡ Some row → Whole row
row-whole s row long bytes e =
    let by : (b : Bool) → cond b (Some (drop 1 s)) None ≡ Some row → Whole row = λ b. elim b as (λ v. cond v (Some (drop 1 s)) None ≡ Some row → Whole row) [
      | true ↦ λ f. let g : drop 1 s ≡ row = cc in (omega (arith, ap length g, length-drop 1 s), subst Bytes g (bytes_drop 1 s bytes))
      | false ↦ λ f. let z : ◌≡◌ {A = ℕ} 0 1 = cc in absurd (omega arith)
    ] in
    by (is_row (slice_index s 0)) e

-- every row has 128 bytes
pub slot_rows-whole : (capacity : ℕ) (bytes : List ℕ) → 129 * capacity ≤ length bytes → Bytes bytes → (n : ℕ) (row : Row) → slice_index_or (slot_rows capacity bytes) n None ≡ Some row → Whole row
slot_rows-whole capacity bytes fits small n row e =
    ⊎_elim
    (λ (h : n < capacity).
    row-whole (block 129 n bytes) row (simp (length-take, length-drop) (omega arith)) (bytes-block 129 n bytes small) (sym (get_or-map-range_with_len (λ i. slot_row (block 129 i bytes)) 0 capacity n n None h (omega arith)) ∙ e))
    (λ (h : capacity ≤ n).
    let past : get_or (slot_rows capacity bytes) n None ≡ None = get_or_past (slot_rows capacity bytes) n None (omega (arith, length-slot_rows capacity bytes)) in
    let z : ◌≡◌ {A = ℕ} 0 1 = cc in absurd (omega arith))
    (cases_lt n capacity)
