-- Dropping stale entries in place: the steps of the loop over the memory.
use Rattle.std.proofs.Common.{◌≡◌, ℕ, ◌+◌, ◌*◌, ◌<◌, ◌≤◌, Bool, true, false, cond, ◌&&◌, eqb, ltb, List, [], ◌∷◌, ◌++◌, length, get_or, drop, set, Some, None, sym, refl, ap, ◌∙◌, subst, ⊎_elim, arith}
use Rattle.std.proofs.lemmas.List.{length-take, length-drop}
use Rattle.std.proofs.lemmas.Bool.{and_parts, and_cases, ltb-true, ltb-false, eqb-true, eqb-false, cases_lt}
use Rattle.std.proofs.lemmas.List.FromFn.{get_or-map-range_with_len}
use Rattle.board.specs.Meaning.{standing}
use Rattle.blocks.specs.Blocks.{block, with_block}
use Rattle.blocks.specs.Marks.{is_row}
use Rattle.blocks.proofs.Writes.{block-other, length-with_block}
use Rattle.journal.specs.Replay.{Note, Leads}
use Rattle.journal.specs.Entries.{entry_number, note_of, notes, entry_rows, latest_number}
use Rattle.journal.specs.Noting.{length-notes, notes-push}
use Rattle.journal.proofs.Packing.{Packing, packing-none, packing-all, packing-keep, packing-outside, packing-stale, packing-cleared}

-- `bytes` held `used` entries; `held` and `index` are the memory and the index now: the first `place` are passed, and the first `kept` are what is left of them
pub record Sweeping (capacity used : ℕ) (bytes held index : List ℕ) (kept place : ℕ) : Type 0 where
  pub behind : kept ≤ place
  pub long : length held ≡ length bytes
  pub packing : Packing capacity (notes used bytes) (notes kept held) index place
  pub rest : (i : ℕ) → place ≤ i → i < used → block 131 i held ≡ block 131 i bytes

pub sweeping-none : (capacity used : ℕ) (bytes index : List ℕ) → capacity ≤ length index → Leads capacity index (notes used bytes) → Sweeping capacity used bytes bytes index 0 0
sweeping-none capacity used bytes index wide leads =
    record { behind = omega arith; long = refl; packing = packing-none capacity (notes used bytes) index wide leads; rest = λ i h j. refl }

pub sweeping-all : (capacity used : ℕ) (bytes held index : List ℕ) (kept place : ℕ) → Sweeping capacity used bytes held index kept place → used ≤ place
    → (entry_rows capacity kept held ≡ entry_rows capacity used bytes) × (kept ≡ standing (entry_rows capacity used bytes)) × Leads capacity index (notes kept held)
sweeping-all capacity used bytes held index kept place s h =
    let all = packing-all capacity (notes used bytes) (notes kept held) index place s.packing (omega (arith, length-notes used bytes)) in
    (all.0, sym (length-notes kept held) ∙ all.1, all.2)

-- the entry at `place` comes next
module _ (capacity used : ℕ) (bytes held index : List ℕ) (kept place : ℕ) (fits : 131 * used ≤ length bytes) (within : place < used) (s : Sweeping capacity used bytes held index kept place) where
  read : note_of (block 131 place held) ≡ get_or (notes used bytes) place (0, None)
  read = ap note_of (s.rest place (omega arith) within) ∙ sym (get_or-map-range_with_len (λ i. note_of (block 131 i bytes)) 0 used place place (0, None) within (omega arith))

  block-long : length (block 131 place held) ≡ 131
  block-long = simp (length-take, length-drop) (omega (arith, s.long))

  ahead : place < length (notes used bytes)
  ahead = omega (arith, length-notes used bytes)

  -- it is dropped, and the index is `index'` then
  passed : (index' : List ℕ) → Packing capacity (notes used bytes) (notes kept held) index' (place + 1) → Sweeping capacity used bytes held index' kept (place + 1)
  passed index' packing = record { behind = omega (arith, s.behind); long = s.long; packing = packing; rest = λ i h j. s.rest i (omega arith) j }

  -- it is the latest of its number, and holds a row or not
  sweeping-latest : (row : Bool) → is_row (get_or (block 131 place held) 0 0) ≡ row → entry_number (block 131 place held) < capacity → get_or index (entry_number (block 131 place held)) 0 ≡ place + 1
      → Sweeping capacity used bytes (cond row (with_block 131 kept (block 131 place held) held) held) (set index (entry_number (block 131 place held)) (cond row (kept + 1) 0)) (cond row (kept + 1) kept) (place + 1)
  sweeping-latest false no_row inside latest =
      let e = block 131 place held in
      passed (set index (entry_number e) 0) (packing-cleared capacity (notes used bytes) place ahead (note_of e) read (notes kept held) index s.packing inside latest (ap (λ b. cond b (Some (drop 3 e)) None) no_row))
  sweeping-latest true row inside latest =
      let e = block 131 place held in
      let fit : 131 * kept + 131 ≤ length held = omega (arith, s.behind, s.long) in
      let P : List Note → Type 0 = λ x. Packing capacity (notes used bytes) x (set index (entry_number e) (kept + 1)) (place + 1) in
      let Q : ℕ → Type 0 = λ x. Packing capacity (notes used bytes) (notes kept held ++ note_of e ∷ []) (set index (entry_number e) (x + 1)) (place + 1) in
      record {
        behind = omega (arith, s.behind);
        long = length-with_block 131 kept e held fit block-long ∙ s.long;
        packing =
            subst P (sym (notes-push kept e held fit block-long))
            (subst Q (length-notes kept held) (packing-keep capacity (notes used bytes) place ahead (note_of e) read (notes kept held) index s.packing (drop 3 e) inside latest (ap (λ b. cond b (Some (drop 3 e)) None) row)));
        rest = λ i h j. block-other 131 kept e held fit block-long i (λ q. omega (arith, s.behind)) (omega (arith, s.long)) ∙ s.rest i (omega arith) j;
      }

  -- a turn of the loop, over the values that it leaves
  module _ (later index' : List ℕ) (after : ℕ) where
    pub turn-latest : (number : ℕ) → Some number ≡ latest_number capacity index (block 131 place held) place
        → later ≡ cond (is_row (get_or (block 131 place held) 0 0)) (with_block 131 kept (block 131 place held) held) held
        → index' ≡ set index number (cond (is_row (get_or (block 131 place held) 0 0)) (kept + 1) 0)
        → after ≡ cond (is_row (get_or (block 131 place held) 0 0)) (kept + 1) kept
        → Sweeping capacity used bytes later index' after (place + 1)
    turn-latest number is l i a =
        let e = block 131 place held in
        let row = is_row (get_or e 0 0) in
        let by : (t : Bool) → (ltb (entry_number e) capacity && eqb (get_or index (entry_number e) 0) (place + 1)) ≡ t → Some number ≡ cond t (Some (entry_number e)) None → Sweeping capacity used bytes later index' after (place + 1) =
        λ t. elim t as (λ v. (ltb (entry_number e) capacity && eqb (get_or index (entry_number e) 0) (place + 1)) ≡ v → Some number ≡ cond v (Some (entry_number e)) None → Sweeping capacity used bytes later index' after (place + 1)) [
          | true ↦ λ both same.
              let parts = and_parts (ltb (entry_number e) capacity) (eqb (get_or index (entry_number e) 0) (place + 1)) both in
              let own : number ≡ entry_number e = cc in
              let r = sweeping-latest row refl (ltb-true (entry_number e) capacity parts.0) (eqb-true (get_or index (entry_number e) 0) (place + 1) parts.1) in
              let P : List ℕ → Type 0 = λ x. Sweeping capacity used bytes x (set index (entry_number e) (cond row (kept + 1) 0)) (cond row (kept + 1) kept) (place + 1) in
              let Q : List ℕ → Type 0 = λ x. Sweeping capacity used bytes later x (cond row (kept + 1) kept) (place + 1) in
              let R : ℕ → Type 0 = λ x. Sweeping capacity used bytes later index' x (place + 1) in
              subst R (sym a) (subst Q (sym (i ∙ ap (λ n. set index n (cond row (kept + 1) 0)) own)) (subst P (sym l) r))
          | false ↦ λ both same. let z : ◌≡◌ {A = ℕ} 0 1 = cc in absurd (omega arith)
        ] in
        by (ltb (entry_number e) capacity && eqb (get_or index (entry_number e) 0) (place + 1)) refl is

    pub turn-stale : None ≡ latest_number capacity index (block 131 place held) place → later ≡ held → index' ≡ index → after ≡ kept → Sweeping capacity used bytes later index' after (place + 1)
    turn-stale is l i a =
        let e = block 131 place held in
        let packed : (t : Bool) → (ltb (entry_number e) capacity && eqb (get_or index (entry_number e) 0) (place + 1)) ≡ t → None ≡ cond t (Some (entry_number e)) None → Packing capacity (notes used bytes) (notes kept held) index (place + 1) =
        λ t. elim t as (λ v. (ltb (entry_number e) capacity && eqb (get_or index (entry_number e) 0) (place + 1)) ≡ v → None ≡ cond v (Some (entry_number e)) None → Packing capacity (notes used bytes) (notes kept held) index (place + 1)) [
          | true ↦ λ both same. let z : ◌≡◌ {A = ℕ} 0 1 = cc in absurd (omega arith)
          | false ↦ λ one same.
              ⊎_elim
              (λ (h : entry_number e < capacity).
              packing-stale capacity (notes used bytes) place ahead (note_of e) read (notes kept held) index s.packing h
              (λ eq. ⊎_elim
              (λ (f : ltb (entry_number e) capacity ≡ false). omega (arith, ltb-false (entry_number e) capacity f))
              (λ (f : eqb (get_or index (entry_number e) 0) (place + 1) ≡ false). eqb-false (get_or index (entry_number e) 0) (place + 1) f eq)
              (and_cases (ltb (entry_number e) capacity) (eqb (get_or index (entry_number e) 0) (place + 1)) one)))
              (λ (h : capacity ≤ entry_number e). packing-outside capacity (notes used bytes) place ahead (note_of e) read (notes kept held) index s.packing h)
              (cases_lt (entry_number e) capacity)
        ] in
        let r = passed index (packed (ltb (entry_number e) capacity && eqb (get_or index (entry_number e) 0) (place + 1)) refl is) in
        let P : List ℕ → Type 0 = λ x. Sweeping capacity used bytes x index kept (place + 1) in
        let Q : List ℕ → Type 0 = λ x. Sweeping capacity used bytes later x kept (place + 1) in
        let R : ℕ → Type 0 = λ x. Sweeping capacity used bytes later index' x (place + 1) in
        subst R (sym a) (subst Q (sym i) (subst P (sym l) r))
