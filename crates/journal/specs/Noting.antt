-- What the entries of a memory say after a write, and that their rows are whole.
use Rattle.std.specs.Prelude.{◌≡◌, ℕ, ◌+◌, ◌*◌, ◌≤◌, Bool, true, false, cond, List, [], ◌∷◌, ◌++◌, map, length, drop, Some, None, slice_index}
use Rattle.std.proofs.Common.{ap, subst, ◌∙◌, arith}
use Rattle.std.specs.List.{range_with_len}
use Rattle.std.proofs.lemmas.List.{length-drop}
use Rattle.std.proofs.lemmas.List.FromFn.{length-map-range_with_len, map-range_with_len_more}
use Rattle.board.specs.Meaning.{Row, Whole}
use Rattle.blocks.specs.Blocks.{block, with_block, Bytes}
use Rattle.blocks.specs.Marks.{is_row}
use Rattle.blocks.proofs.Writes.{block_here, block-other, mapped-same}
use Rattle.blocks.proofs.ByteLists.{bytes_drop}
use Rattle.journal.specs.Replay.{Note}
use Rattle.journal.specs.Entries.{note_of, notes}

pub length-notes : (used : ℕ) (bytes : List ℕ) → length (notes used bytes) ≡ used
length-notes used bytes = length-map-range_with_len (λ i. note_of (block 131 i bytes)) 0 used

-- an entry written behind the first k
pub notes-push : (k : ℕ) (e bytes : List ℕ) → 131 * k + 131 ≤ length bytes → length e ≡ 131 → notes (k + 1) (with_block 131 k e bytes) ≡ notes k bytes ++ note_of e ∷ []
notes-push k e bytes fits long =
    let f : ℕ → Note = λ i. note_of (block 131 i bytes) in
    let g : ℕ → Note = λ i. note_of (block 131 i (with_block 131 k e bytes)) in
    let front : map g (range_with_len 0 k) ≡ map f (range_with_len 0 k) = mapped-same g f k (λ i h. ap note_of (block-other 131 k e bytes fits long i (λ p. omega arith) (omega arith))) in
    let last : g k ≡ note_of e = ap note_of (block_here 131 k e bytes fits long) in
    map-range_with_len_more g 0 k k (omega arith) ∙ ap (λ x. map g (range_with_len 0 k) ++ x ∷ []) last ∙ ap (λ r. r ++ note_of e ∷ []) front

pub note-whole : (e : List ℕ) (row : Row) → length e ≡ 131 → Bytes e → (note_of e).1 ≡ Some row → Whole row
note-whole e row long bytes is =
    let by : (b : Bool) → cond b (Some (drop 3 e)) None ≡ Some row → Whole row = λ b. elim b as (λ v. cond v (Some (drop 3 e)) None ≡ Some row → Whole row) [
      | true ↦ λ f. let g : drop 3 e ≡ row = cc in (omega (arith, ap length g, length-drop 3 e), subst Bytes g (bytes_drop 3 e bytes))
      | false ↦ λ f. let z : ◌≡◌ {A = ℕ} 0 1 = cc in absurd (omega arith)
    ] in
    by (is_row (slice_index e 0)) is
