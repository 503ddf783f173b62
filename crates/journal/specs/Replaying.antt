-- Replaying notes: what a later note hides, what the index tells, and what one note more does.
use Rattle.std.specs.Prelude.{◌≡◌, ℕ, ◌+◌, ◌-◌, ◌<◌, ◌≤◌, Bool, true, false, cond, ◌||◌, ◌⊎◌, List, [], ◌∷◌, ◌++◌, length, get_or, set, replicate, None, Option, ◌==◌, slice_index, slice_index_or, slice_set, refl}
use Rattle.std.proofs.Common.{sym, ap, ◌∙◌, inl, inr, ⊎_elim, add-zero, arith}
use Rattle.std.proofs.lemmas.List.Sums.{fold_push}
use Rattle.std.proofs.lemmas.List.{set-set, set_comm, get_or-set_same, get_or-set_other, length-set, get_or-replicate, length-replicate, append_assoc, length_push, get_or_at}
use Rattle.std.proofs.lemmas.Bool.{cases_eq, eq-eqb, ne_eqb, or_parts, or_cases, or_left, or_right, or_from, eqb-true, eqb-false}
use Rattle.board.specs.Meaning.{Row, vacant}
use Rattle.journal.specs.Replay.{Note, noted, replayed, indexed_from, indexed}

-- some note speaks of n
abbrev pub speaks : ℕ → List Note → Bool
speaks n [] = false
speaks n (e ∷ es) = e.0 == n || speaks n es

-- what the note at one less than `place` says, and none at 0
abbrev pub note_at : List Note → ℕ → Option Row
note_at es place = cond (place == 0) None (slice_index_or es (place - 1) (0, None)).1

-- a write at n does not show through a later note of n
pub shadowed : (n : ℕ) (x : Option Row) (es : List Note) (rows : List (Option Row)) → speaks n es ≡ true → replayed (slice_set rows n x) es ≡ replayed rows es
shadowed n x [] rows h = let z : ◌≡◌ {A = ℕ} 0 1 = cc in absurd (omega arith)
shadowed n x (e ∷ es) rows h =
    ⊎_elim
    (λ (q : e.0 ≡ n). let same : set (slice_set rows n x) e.0 e.1 ≡ set rows e.0 e.1 = rw q (set-set rows n x e.1) in ap (λ r. replayed r es) same)
    (λ (q : e.0 ≡ n → ⊥).
    let swapped = set_comm rows n e.0 x e.1 (λ p. q (sym p)) in
    let later : speaks n es ≡ true = ⊎_elim (λ t. absurd (q (eqb-true e.0 n t))) (λ t. t) (or_cases (e.0 == n) (speaks n es) h) in
    ap (λ r. replayed r es) swapped ∙ shadowed n x es (slice_set rows e.0 e.1) later)
    (cases_eq e.0 n)

-- no note of n: what stood there stands
pub untouched : (n : ℕ) (es : List Note) (rows : List (Option Row)) → speaks n es ≡ false → slice_index_or (replayed rows es) n None ≡ slice_index_or rows n None
untouched n [] rows h = refl
untouched n (e ∷ es) rows h =
    let parts = or_parts (e.0 == n) (speaks n es) h in
    untouched n es (slice_set rows e.0 e.1) parts.1
    ∙ get_or-set_other rows e.0 n e.1 None (λ p. eqb-false e.0 n parts.0 (sym p))

-- what the index tells of the notes behind the k-th
pub index-tells : (n : ℕ) (es : List Note) (k : ℕ) (index : List ℕ) → n < length index
    → ((speaks n es ≡ false) × (slice_index (indexed_from k index es) n ≡ slice_index index n)) ⊎ ((speaks n es ≡ true) × (k < slice_index (indexed_from k index es) n))
index-tells n [] k index h = inl (refl, refl)
index-tells n (e ∷ es) k index h =
    let longer : n < length (slice_set index e.0 (k + 1)) = simp length-set (omega arith) in
    ⊎_elim
    (λ (t : (speaks n es ≡ false) × (slice_index (indexed_from (k + 1) (slice_set index e.0 (k + 1)) es) n ≡ slice_index (slice_set index e.0 (k + 1)) n)).
    ⊎_elim
    (λ (q : e.0 ≡ n).
    let here : get_or (slice_set index e.0 (k + 1)) n 0 ≡ k + 1 = rw q (get_or-set_same index n (k + 1) 0 h) in
    inr (or_left (e.0 == n) (speaks n es) (eq-eqb e.0 n q), omega (arith, here, t.1)))
    (λ (q : e.0 ≡ n → ⊥).
    inl (or_from (e.0 == n) (speaks n es) (ne_eqb e.0 n q) t.0, t.1 ∙ get_or-set_other index e.0 n (k + 1) 0 (λ p. q (sym p))))
    (cases_eq e.0 n))
    (λ (t : (speaks n es ≡ true) × (k + 1 < slice_index (indexed_from (k + 1) (slice_set index e.0 (k + 1)) es) n)).
    inr (or_right (e.0 == n) (speaks n es) t.0, omega (arith, t.1)))
    (index-tells n es (k + 1) (slice_set index e.0 (k + 1)) longer)

-- one more note
pub replayed-push : (rows : List (Option Row)) (es : List Note) (e : Note) → replayed rows (es ++ e ∷ []) ≡ noted (replayed rows es) e
replayed-push rows es e = fold_push noted rows es e

pub indexed-push : (es : List Note) (k : ℕ) (index : List ℕ) (e : Note) → indexed_from k index (es ++ e ∷ []) ≡ slice_set (indexed_from k index es) e.0 (k + length es + 1)
indexed-push [] k index e = ap (λ m. set index e.0 (m + 1)) (sym (add-zero k))
indexed-push (x ∷ es) k index e =
    indexed-push es (k + 1) (slice_set index x.0 (k + 1)) e
    ∙ ap (λ m. set (indexed_from (k + 1) (slice_set index x.0 (k + 1)) es) e.0 m) (omega arith)

pub length-replayed : (es : List Note) (rows : List (Option Row)) → length (replayed rows es) ≡ length rows
length-replayed [] rows = refl
length-replayed (e ∷ es) rows = length-replayed es (slice_set rows e.0 e.1) ∙ length-set rows e.0 e.1

pub length-indexed : (es : List Note) (k : ℕ) (index : List ℕ) → length (indexed_from k index es) ≡ length index
length-indexed [] k index = refl
length-indexed (e ∷ es) k index = length-indexed es (k + 1) (slice_set index e.0 (k + 1)) ∙ length-set index e.0 (k + 1)

-- the index leads to what stands: `past` are the notes before es
pub found : (n : ℕ) (es past : List Note) (rows : List (Option Row)) (index : List ℕ) → n < length rows → n < length index
    → slice_index_or rows n None ≡ note_at (past ++ es) (slice_index index n)
    → slice_index_or (replayed rows es) n None ≡ note_at (past ++ es) (slice_index (indexed_from (length past) index es) n)
found n [] past rows index h i was = was
found n (e ∷ es) past rows index h i was =
    let k = length past in
    let joins : (past ++ e ∷ []) ++ es ≡ past ++ e ∷ es = append_assoc past (e ∷ []) es in
    let long : length (past ++ e ∷ []) ≡ length past + 1 = length_push past e in
    let rows' = set rows e.0 e.1 in
    let index' = set index e.0 (length past + 1) in
    let h' : n < length rows' = simp length-set (omega arith) in
    let i' : n < length index' = simp length-set (omega arith) in
    let here : get_or rows' n None ≡ note_at (past ++ e ∷ es) (slice_index index' n) =
    ⊎_elim
    (λ (q : e.0 ≡ n).
    let a : get_or rows' n None ≡ e.1 = rw q (get_or-set_same rows n e.1 None h) in
    let b : get_or index' n 0 ≡ length past + 1 = rw q (get_or-set_same index n (length past + 1) 0 i) in
    let d : note_at (past ++ e ∷ es) (length past + 1) ≡ e.1 =
    rw (ne_eqb (length past + 1) 0 (λ z. omega arith))
    (ap (λ (m : ℕ). (slice_index_or (past ++ e ∷ es) m (0, None)).1) (omega arith) ∙ ap (λ (x : Note). x.1) (get_or_at past e es (0, None) (length past) refl)) in
    a ∙ sym (ap (note_at (past ++ e ∷ es)) b ∙ d))
    (λ (q : e.0 ≡ n → ⊥).
    get_or-set_other rows e.0 n e.1 None (λ p. q (sym p)) ∙ was
    ∙ ap (note_at (past ++ e ∷ es)) (sym (get_or-set_other index e.0 n (length past + 1) 0 (λ p. q (sym p)))))
    (cases_eq e.0 n) in
    let ih = found n es (past ++ e ∷ []) rows' index' h' i' (rw joins here) in
    rw (joins, long) at ih

-- reading by the index is reading what stands
pub latest-decides : (capacity n : ℕ) (es : List Note) → n < capacity → slice_index_or (replayed (vacant capacity) es) n None ≡ note_at es (slice_index (indexed capacity es) n)
latest-decides capacity n es h =
    let z : ◌≡◌ {A = ℕ} (slice_index (replicate capacity 0) n) 0 = get_or-replicate capacity n 0 0 h in
    let start : get_or (vacant capacity) n None ≡ note_at es (slice_index (replicate capacity 0) n) = get_or-replicate capacity n None None h ∙ sym (ap (note_at es) z) in
    found n es [] (vacant capacity) (replicate capacity 0) (simp length-replicate h) (simp length-replicate h) start

pub indexed-append : (xs ys : List Note) (k : ℕ) (index : List ℕ) → indexed_from k index (xs ++ ys) ≡ indexed_from (k + length xs) (indexed_from k index xs) ys
indexed-append [] ys k index = ap (λ m. indexed_from m index ys) (sym (add-zero k))
indexed-append (x ∷ xs) ys k index =
    indexed-append xs ys (k + 1) (slice_set index x.0 (k + 1))
    ∙ ap (λ m. indexed_from m (indexed_from (k + 1) (slice_set index x.0 (k + 1)) xs) ys) (omega arith)

pub rows_long : (capacity : ℕ) (es : List Note) → length (replayed (vacant capacity) es) ≡ capacity
rows_long capacity es = length-replayed es (vacant capacity) ∙ length-replicate capacity None

-- the index leads to no place behind the notes
index_below : (n : ℕ) (es : List Note) (k : ℕ) (index : List ℕ) → n < length index → slice_index index n ≤ k → slice_index (indexed_from k index es) n ≤ k + length es
index_below n [] k index h b = omega arith
index_below n (e ∷ es) k index h b =
    let here : get_or (slice_set index e.0 (k + 1)) n 0 ≤ k + 1 =
    ⊎_elim
    (λ (q : e.0 ≡ n). let s : get_or (slice_set index e.0 (k + 1)) n 0 ≡ k + 1 = rw q (get_or-set_same index n (k + 1) 0 h) in omega arith)
    (λ (q : e.0 ≡ n → ⊥). omega (arith, get_or-set_other index e.0 n (k + 1) 0 (λ p. q (sym p))))
    (cases_eq e.0 n) in
    omega (arith, index_below n es (k + 1) (slice_set index e.0 (k + 1)) (simp length-set h) here)

pub indexed-below : (capacity n : ℕ) (es : List Note) → n < capacity → slice_index (indexed capacity es) n ≤ length es
indexed-below capacity n es h =
    let z : ◌≡◌ {A = ℕ} (slice_index (replicate capacity 0) n) 0 = get_or-replicate capacity n 0 0 h in
    omega (arith, index_below n es 0 (replicate capacity 0) (simp length-replicate h) (omega (arith, z)))

-- and to none, if no note speaks of the number
pub indexed-none : (capacity n : ℕ) (es : List Note) → n < capacity → speaks n es ≡ false → slice_index (indexed capacity es) n ≡ 0
indexed-none capacity n es h none =
    ⊎_elim
    (λ (t : (speaks n es ≡ false) × (slice_index (indexed capacity es) n ≡ slice_index (replicate capacity 0) n)). t.1 ∙ get_or-replicate capacity n 0 0 h)
    (λ (t : (speaks n es ≡ true) × (0 < slice_index (indexed capacity es) n)). let z : ◌≡◌ {A = ℕ} 0 1 = cc (t.0, none) in absurd (omega arith))
    (index-tells n es 0 (replicate capacity 0) (simp length-replicate h))
