-- What the index of a journal leads to, and what one entry more does.
use Rattle.std.specs.Prelude.{◌≡◌, ℕ, ◌+◌, ◌-◌, ◌*◌, ◌<◌, ◌≤◌, true, false, cond, List, [], ◌∷◌, ◌++◌, length, get_or, take, drop, set, replicate, Some, None, slice_index, slice_index_or, slice_set, Option, refl}
use Rattle.std.proofs.Common.{sym, ap, ◌∙◌, ⊎_elim, arith}
use Rattle.std.proofs.lemmas.List.{get_or-set_same, get_or-set_other, take_all, length-take, length-drop, length-replicate, get_or_past}
use Rattle.std.proofs.lemmas.Bool.{cases_eq, cases_lt, ne_eqb}
use Rattle.std.proofs.lemmas.List.FromFn.{get_or-map-range_with_len}
use Rattle.board.specs.Meaning.{Row, Whole, vacant}
use Rattle.blocks.specs.Blocks.{block, with_block, Bytes}
use Rattle.blocks.specs.Marks.{is_row}
use Rattle.blocks.proofs.ByteLists.{bytes-block}
use Rattle.journal.specs.Replay.{Note, replayed, indexed, Leads}
use Rattle.journal.specs.Entries.{note_of, notes, entry_rows}
use Rattle.journal.specs.Replaying.{note_at, latest-decides, replayed-push, indexed-push, indexed-below, length-indexed, rows_long}
use Rattle.journal.specs.Noting.{length-notes, notes-push, note-whole}

-- the index is read at n, and gives `place`
module _ (capacity n used : ℕ) (bytes : List ℕ) (place : ℕ) (inside : n < capacity) (there : place ≡ slice_index (indexed capacity (notes used bytes)) n) where
  pub place-within : place ≤ used
  place-within = omega (arith, there, indexed-below capacity n (notes used bytes) inside, length-notes used bytes)

  decides : get_or (entry_rows capacity used bytes) n None ≡ note_at (notes used bytes) place
  decides = latest-decides capacity n (notes used bytes) inside ∙ ap (note_at (notes used bytes)) (sym there)

  pub row-none : place ≡ 0 → slice_index_or (entry_rows capacity used bytes) n None ≡ None
  row-none z = decides ∙ ap (note_at (notes used bytes)) z

  -- the row of n is that of the entry at this place
  pub row-there : (at : ℕ) → place ≡ at + 1 → slice_index_or (entry_rows capacity used bytes) n None ≡ (note_of (block 131 at bytes)).1
  row-there at e =
      let before : place - 1 ≡ at = omega arith in
      decides ∙ rw (ne_eqb place 0 (λ z. omega arith))
      (ap (λ (x : Note). x.1) (get_or-map-range_with_len (λ i. note_of (block 131 i bytes)) 0 used (place - 1) (place - 1) (0, None) (omega (arith, place-within)) (omega arith)))
      ∙ ap (λ i. (note_of (block 131 i bytes)).1) before

  -- the entry e is read there
  module _ (e : List ℕ) (read : e ≡ block 131 (place - 1) bytes) (ne : place ≡ 0 → ⊥) where
    row-read : slice_index_or (entry_rows capacity used bytes) n None ≡ (note_of e).1
    row-read = row-there (place - 1) (omega (arith, ne)) ∙ ap (λ (x : List ℕ). (note_of x).1) (sym read)

    pub row-cleared : false ≡ is_row (slice_index e 0) → slice_index_or (entry_rows capacity used bytes) n None ≡ None
    row-cleared no_row = row-read ∙ ap (λ b. cond b (Some (drop 3 e)) None) (sym no_row)

    pub row-found : true ≡ is_row (slice_index e 0) → length e ≡ 131 → slice_index_or (entry_rows capacity used bytes) n None ≡ Some (take 128 (drop 3 e))
    row-found row long = row-read ∙ ap (λ b. cond b (Some (drop 3 e)) None) (sym row) ∙ ap Some (sym (take_all 128 (drop 3 e) (rw (length-drop, long) (omega arith))))

-- every row has 128 bytes
pub rows_whole : (capacity used : ℕ) (bytes : List ℕ) → 131 * used ≤ length bytes → Bytes bytes → (n : ℕ) (row : Row) → slice_index_or (entry_rows capacity used bytes) n None ≡ Some row → Whole row
rows_whole capacity used bytes fits small n row e =
    let place = get_or (indexed capacity (notes used bytes)) n 0 in
    let none : get_or (entry_rows capacity used bytes) n None ≡ None → Whole row = λ h. let z : ◌≡◌ {A = ℕ} 0 1 = cc in absurd (omega arith) in
    ⊎_elim
    (λ (h : n < capacity).
    ⊎_elim
    (λ (z : place ≡ 0). none (row-none capacity n used bytes place h refl z))
    (λ (ne : place ≡ 0 → ⊥).
    let within : place ≤ used = place-within capacity n used bytes place h refl in
    note-whole (block 131 (place - 1) bytes) row (simp (length-take, length-drop) (omega (arith, ne))) (bytes-block 131 (place - 1) bytes small) (sym (row-there capacity n used bytes place h refl (place - 1) (omega (arith, ne))) ∙ e))
    (cases_eq place 0))
    (λ (h : capacity ≤ n). none (get_or_past (entry_rows capacity used bytes) n None (rw (rows_long capacity (notes used bytes)) h)))
    (cases_lt n capacity)

-- one entry more, which says that n has this row, or none
module _ (capacity n used : ℕ) (row : Option Row) (bytes later : List ℕ) (fits : 131 * used + 131 ≤ length bytes) (room : 131 * used + 131 ≤ length later) (says : note_of (block 131 used later) ≡ (n, row))
    (is : later ≡ with_block 131 used (block 131 used later) bytes) where
  push : notes (used + 1) later ≡ notes used bytes ++ (n, row) ∷ []
  push =
      ap (notes (used + 1)) is ∙ notes-push used (block 131 used later) bytes fits (simp (length-take, length-drop) (omega (arith, room))) ∙ ap (λ x. notes used bytes ++ x ∷ []) says

  pub rows-after : entry_rows capacity (used + 1) later ≡ slice_set (entry_rows capacity used bytes) n row
  rows-after = ap (replayed (vacant capacity)) push ∙ replayed-push (vacant capacity) (notes used bytes) (n, row)

  pub index-after : (index : List ℕ) → capacity ≤ length index → Leads capacity index (notes used bytes) → Leads capacity (slice_set index n (used + 1)) (notes (used + 1) later)
  index-after index wide leads k h =
      let was = indexed capacity (notes used bytes) in
      let long : length was ≡ capacity = length-indexed (notes used bytes) 0 (replicate capacity 0) ∙ length-replicate capacity 0 in
      let is : indexed capacity (notes (used + 1) later) ≡ set was n (0 + length (notes used bytes) + 1) = ap (indexed capacity) push ∙ indexed-push (notes used bytes) 0 (replicate capacity 0) (n, row) in
      ⊎_elim
      (λ (q : k ≡ n).
      let here : get_or (slice_set index n (used + 1)) n 0 ≡ used + 1 = get_or-set_same index n (used + 1) 0 (omega arith) in
      let there : get_or (indexed capacity (notes (used + 1) later)) n 0 ≡ 0 + length (notes used bytes) + 1 = ap (λ (x : List ℕ). slice_index x n) is ∙ get_or-set_same was n (0 + length (notes used bytes) + 1) 0 (omega arith) in
      rw q (omega (arith, here, there, length-notes used bytes)))
      (λ (q : k ≡ n → ⊥). get_or-set_other index n k (used + 1) 0 q ∙ leads k h ∙ sym (ap (λ (x : List ℕ). slice_index x k) is ∙ get_or-set_other was n k (0 + length (notes used bytes) + 1) 0 q))
      (cases_eq k n)
