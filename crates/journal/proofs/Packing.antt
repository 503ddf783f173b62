-- Dropping stale notes leaves what stands: the steps of a loop that passes over a journal from its front.
use Rattle.std.proofs.Common.{◌≡◌, ℕ, ◌+◌, ◌<◌, ◌≤◌, true, false, cond, eqb, ltb, ◌⊎◌, List, [], ◌∷◌, ◌++◌, length, get_or, take, drop, set, replicate, Some, None, sym, refl, ap, ◌∙◌, subst, inl, inr, ⊎_elim, zero-add, arith}
use Rattle.std.proofs.lemmas.List.{set_past, set-get_or, get_or-set_same, get_or-set_other, length-set, get_or-replicate, length-replicate, length_push, take-append-drop, drop_more, drop_all, length-take-le}
use Rattle.std.proofs.lemmas.Bool.{cases_eq, cases_lt, ne_eqb, lt-ltb, le-ltb, cond-true, cond-false, or_from, or_parts}
use Rattle.board.specs.Meaning.{Row, vacant, one, standing}
use Rattle.board.proofs.Standing.{standing-set, standing-vacant}
use Rattle.journal.specs.Replay.{Note, noted, replayed, indexed_from, indexed, Leads}
use Rattle.journal.specs.Replaying.{speaks, shadowed, untouched, index-tells, replayed-push, indexed-append, indexed-push, indexed-below, indexed-none, length-indexed, rows_long}

-- the first p of the notes es are passed, `kept` is what is left of them, and the index leads to the notes ahead and to those kept
pub record Packing (capacity : ℕ) (es kept : List Note) (index : List ℕ) (p : ℕ) : Type 0 where
  pub same : replayed (replayed (vacant capacity) kept) (drop p es) ≡ replayed (vacant capacity) es
  pub counted : standing (replayed (vacant capacity) kept) ≡ length kept
  pub fresh : (n : ℕ) → p < get_or (indexed capacity es) n 0 → speaks n kept ≡ false
  pub leads : (n : ℕ) → n < capacity → get_or index n 0 ≡ cond (ltb p (get_or (indexed capacity es) n 0)) (get_or (indexed capacity es) n 0) (get_or (indexed capacity kept) n 0)
  pub wide : capacity ≤ length index

pub packing-none : (capacity : ℕ) (es : List Note) (index : List ℕ) → capacity ≤ length index → Leads capacity index es → Packing capacity es [] index 0
packing-none capacity es index wide leads =
    record {
      same = refl;
      counted = standing-vacant Row capacity;
      fresh = λ n h. refl;
      leads = λ n h.
          let orig = get_or (indexed capacity es) n 0 in
          let none : get_or (indexed capacity []) n 0 ≡ 0 = get_or-replicate capacity n 0 0 h in
          leads n h
          ∙ ⊎_elim
          (λ (q : 0 < orig). sym (cond-true (ltb 0 orig) orig (get_or (indexed capacity []) n 0) (lt-ltb 0 orig q)))
          (λ (q : orig ≤ 0). let z : orig ≡ get_or (indexed capacity []) n 0 = omega (arith, none) in z ∙ sym (cond-false (ltb 0 orig) orig (get_or (indexed capacity []) n 0) (le-ltb 0 orig q)))
          (cases_lt 0 orig);
      wide = wide;
    }

pub packing-all : (capacity : ℕ) (es kept : List Note) (index : List ℕ) (p : ℕ) → Packing capacity es kept index p → length es ≤ p
    → (replayed (vacant capacity) kept ≡ replayed (vacant capacity) es) × (length kept ≡ standing (replayed (vacant capacity) es)) × Leads capacity index kept
packing-all capacity es kept index p k h =
    let e : replayed (vacant capacity) kept ≡ replayed (vacant capacity) es = ap (λ r. replayed (replayed (vacant capacity) kept) r) (sym (drop_all p es h)) ∙ k.same in (
      e,
      sym k.counted ∙ ap standing e,
      λ n lt.
          let orig = get_or (indexed capacity es) n 0 in
          k.leads n lt ∙ cond-false (ltb p orig) orig (get_or (indexed capacity kept) n 0) (le-ltb p orig (omega (arith, indexed-below capacity n es lt))),
    )

speaks-append : (n : ℕ) (xs ys : List Note) → speaks n xs ≡ false → speaks n ys ≡ false → speaks n (xs ++ ys) ≡ false
speaks-append n [] ys h i = i
speaks-append n (x ∷ xs) ys h i =
    let parts = or_parts (eqb x.0 n) (speaks n xs) h in
    or_from (eqb x.0 n) (speaks n (xs ++ ys)) parts.0 (speaks-append n xs ys parts.1 i)

-- the note e is at p
module _ (capacity : ℕ) (es : List Note) (p : ℕ) (within : p < length es) (e : Note) (read : e ≡ get_or es p (0, None)) where
  rest : drop p es ≡ e ∷ drop (p + 1) es
  rest = drop_more es p (0, None) within ∙ ap (λ x. x ∷ drop (p + 1) es) (sym read)

  front_long : length (indexed capacity (take p es)) ≡ capacity
  front_long = length-indexed (take p es) 0 (replicate capacity 0) ∙ length-replicate capacity 0

  whole : indexed capacity es ≡ indexed_from (p + 1) (set (indexed capacity (take p es)) e.0 (p + 1)) (drop (p + 1) es)
  whole =
      let split : es ≡ take p es ++ e ∷ drop (p + 1) es = sym (take-append-drop p es) ∙ ap (λ r. take p es ++ r) rest in
      let count : 0 + length (take p es) ≡ p = zero-add (length (take p es)) ∙ length-take-le p es (omega arith) in
      ap (indexed capacity) split ∙ indexed-append (take p es) (e ∷ drop (p + 1) es) 0 (replicate capacity 0)
      ∙ ap (λ m. indexed_from m (indexed capacity (take p es)) (e ∷ drop (p + 1) es)) count

  -- what the index says of a number m, by what it said once e was noted
  index-at : (m : ℕ) → m < capacity
      → ((speaks m (drop (p + 1) es) ≡ false) × (get_or (indexed capacity es) m 0 ≡ get_or (set (indexed capacity (take p es)) e.0 (p + 1)) m 0)) ⊎ ((speaks m (drop (p + 1) es) ≡ true) × (p + 1 < get_or (indexed capacity es) m 0))
  index-at m h =
      let noted-front = set (indexed capacity (take p es)) e.0 (p + 1) in
      let at : get_or (indexed capacity es) m 0 ≡ get_or (indexed_from (p + 1) noted-front (drop (p + 1) es)) m 0 = ap (λ (x : List ℕ). get_or x m 0) whole in
      ⊎_elim
      (λ (t : (speaks m (drop (p + 1) es) ≡ false) × (get_or (indexed_from (p + 1) noted-front (drop (p + 1) es)) m 0 ≡ get_or noted-front m 0)). inl (t.0, at ∙ t.1))
      (λ (t : (speaks m (drop (p + 1) es) ≡ true) × (p + 1 < get_or (indexed_from (p + 1) noted-front (drop (p + 1) es)) m 0)). inr (t.0, omega (arith, t.1, at)))
      (index-tells m (drop (p + 1) es) (p + 1) noted-front (simp length-set (omega (arith, front_long))))

  -- of its own number: e is the latest, or a later note speaks of it
  index-own : e.0 < capacity → (get_or (indexed capacity es) e.0 0 ≡ p + 1) ⊎ ((speaks e.0 (drop (p + 1) es) ≡ true) × (p + 1 < get_or (indexed capacity es) e.0 0))
  index-own h =
      ⊎_elim
      (λ (t : (speaks e.0 (drop (p + 1) es) ≡ false) × (get_or (indexed capacity es) e.0 0 ≡ get_or (set (indexed capacity (take p es)) e.0 (p + 1)) e.0 0)).
      inl (t.1 ∙ get_or-set_same (indexed capacity (take p es)) e.0 (p + 1) 0 (omega (arith, front_long))))
      (λ (t : (speaks e.0 (drop (p + 1) es) ≡ true) × (p + 1 < get_or (indexed capacity es) e.0 0)). inr t)
      (index-at e.0 h)

  -- of another number: e is not its latest note
  index-other : (m : ℕ) → m < capacity → (m ≡ e.0 → ⊥) → ltb (p + 1) (get_or (indexed capacity es) m 0) ≡ ltb p (get_or (indexed capacity es) m 0)
  index-other m h ne =
      let orig = get_or (indexed capacity es) m 0 in
      ⊎_elim
      (λ (t : (speaks m (drop (p + 1) es) ≡ false) × (orig ≡ get_or (set (indexed capacity (take p es)) e.0 (p + 1)) m 0)).
      let before : get_or (set (indexed capacity (take p es)) e.0 (p + 1)) m 0 ≡ get_or (indexed capacity (take p es)) m 0 = get_or-set_other (indexed capacity (take p es)) e.0 m (p + 1) 0 ne in
      let low : orig ≤ p = omega (arith, t.1, before, indexed-below capacity m (take p es) h, length-take-le p es (omega arith)) in
      le-ltb (p + 1) orig (omega arith) ∙ sym (le-ltb p orig low))
      (λ (t : (speaks m (drop (p + 1) es) ≡ true) × (p + 1 < orig)). lt-ltb (p + 1) orig t.1 ∙ sym (lt-ltb p orig (omega (arith, t.1))))
      (index-at m h)

  -- the notes before it are packed
  module _ (kept : List Note) (index : List ℕ) (k : Packing capacity es kept index p) where
    -- the index still leads to e or to a later note
    ahead : e.0 < capacity → p < get_or (indexed capacity es) e.0 0
    ahead h = ⊎_elim (λ (t : get_or (indexed capacity es) e.0 0 ≡ p + 1). omega arith) (λ (t : (speaks e.0 (drop (p + 1) es) ≡ true) × (p + 1 < get_or (indexed capacity es) e.0 0)). omega (arith, t.1)) (index-own h)

    index-here : e.0 < capacity → get_or index e.0 0 ≡ get_or (indexed capacity es) e.0 0
    index-here h =
        let orig = get_or (indexed capacity es) e.0 0 in
        k.leads e.0 h ∙ cond-true (ltb p orig) orig (get_or (indexed capacity kept) e.0 0) (lt-ltb p orig (ahead h))

    nothing-kept : e.0 < capacity → get_or (replayed (vacant capacity) kept) e.0 None ≡ None
    nothing-kept h = untouched e.0 kept (vacant capacity) (k.fresh e.0 (ahead h)) ∙ get_or-replicate capacity e.0 None None h

    -- where e is passed, the index of other numbers stays, and its own is given
    leads-on : (later : List Note) (index' : List ℕ)
        → ((m : ℕ) → m < capacity → (m ≡ e.0 → ⊥) → (get_or index' m 0 ≡ get_or index m 0) × (get_or (indexed capacity later) m 0 ≡ get_or (indexed capacity kept) m 0))
        → (e.0 < capacity → get_or index' e.0 0 ≡ cond (ltb (p + 1) (get_or (indexed capacity es) e.0 0)) (get_or (indexed capacity es) e.0 0) (get_or (indexed capacity later) e.0 0))
        → (m : ℕ) → m < capacity → get_or index' m 0 ≡ cond (ltb (p + 1) (get_or (indexed capacity es) m 0)) (get_or (indexed capacity es) m 0) (get_or (indexed capacity later) m 0)
    leads-on later index' others own m h =
        let orig = get_or (indexed capacity es) m 0 in
        ⊎_elim
        (λ (q : m ≡ e.0). let P : ℕ → Type 0 = λ n. n < capacity → get_or index' n 0 ≡ cond (ltb (p + 1) (get_or (indexed capacity es) n 0)) (get_or (indexed capacity es) n 0) (get_or (indexed capacity later) n 0) in subst P (sym q) own h)
        (λ (q : m ≡ e.0 → ⊥).
        (others m h q).0 ∙ k.leads m h
        ∙ ap (λ b. cond b orig (get_or (indexed capacity kept) m 0)) (sym (index-other m h q))
        ∙ ap (λ x. cond (ltb (p + 1) orig) orig x) (sym (others m h q).1))
        (cases_eq m e.0)

    -- the latest note of its number, with a row, is kept
    pub packing-keep : (row : Row) → e.0 < capacity → get_or index e.0 0 ≡ p + 1 → e.1 ≡ Some row → Packing capacity es (kept ++ e ∷ []) (set index e.0 (length kept + 1)) (p + 1)
    packing-keep row h i c =
        let r = replayed (vacant capacity) kept in
        let orig = get_or (indexed capacity es) e.0 0 in
        let latest : orig ≡ p + 1 = sym (index-here h) ∙ i in
        let push = replayed-push (vacant capacity) kept e in
        let pushed : indexed capacity (kept ++ e ∷ []) ≡ set (indexed capacity kept) e.0 (0 + length kept + 1) = indexed-push kept 0 (replicate capacity 0) e in
        let kept-long : length (indexed capacity kept) ≡ capacity = length-indexed kept 0 (replicate capacity 0) ∙ length-replicate capacity 0 in
        record {
          same = ap (λ x. replayed x (drop (p + 1) es)) push ∙ ap (replayed r) (sym rest) ∙ k.same;
          counted =
              let grows = standing-set r e.0 e.1 (rw (rows_long capacity kept) h) in
              let was : one (get_or r e.0 None) ≡ 0 = ap one (nothing-kept h) in
              let is : one e.1 ≡ 1 = ap one c in
              omega (arith, ap standing push, grows, was, is, k.counted, length_push kept e);
          fresh = λ m lt.
              let other : speaks m (e ∷ []) ≡ false = or_from (eqb e.0 m) false (ne_eqb e.0 m (λ q. let j : get_or (indexed capacity es) m 0 ≡ p + 1 = ap (λ (x : ℕ). get_or (indexed capacity es) x 0) (sym q) ∙ latest in omega arith)) refl in
              speaks-append m kept (e ∷ []) (k.fresh m (omega arith)) other;
          leads =
              leads-on (kept ++ e ∷ []) (set index e.0 (length kept + 1))
              (λ m lt ne. (get_or-set_other index e.0 m (length kept + 1) 0 ne, ap (λ (x : List ℕ). get_or x m 0) pushed ∙ get_or-set_other (indexed capacity kept) e.0 m (0 + length kept + 1) 0 ne))
              (λ lt.
              let new : get_or (indexed capacity (kept ++ e ∷ [])) e.0 0 ≡ length kept + 1 = ap (λ (x : List ℕ). get_or x e.0 0) pushed ∙ get_or-set_same (indexed capacity kept) e.0 (0 + length kept + 1) 0 (omega (arith, kept-long)) ∙ omega arith in
              get_or-set_same index e.0 (length kept + 1) 0 (omega (arith, k.wide)) ∙ sym new
              ∙ sym (cond-false (ltb (p + 1) orig) orig (get_or (indexed capacity (kept ++ e ∷ [])) e.0 0) (le-ltb (p + 1) orig (omega arith))));
          wide = simp length-set k.wide;
        }

    -- a note that is dropped changes nothing
    dropped : (index' : List ℕ) → replayed (noted (replayed (vacant capacity) kept) e) (drop (p + 1) es) ≡ replayed (replayed (vacant capacity) kept) (drop (p + 1) es)
        → ((m : ℕ) → m < capacity → (m ≡ e.0 → ⊥) → get_or index' m 0 ≡ get_or index m 0)
        → (e.0 < capacity → get_or index' e.0 0 ≡ cond (ltb (p + 1) (get_or (indexed capacity es) e.0 0)) (get_or (indexed capacity es) e.0 0) (get_or (indexed capacity kept) e.0 0))
        → capacity ≤ length index' → Packing capacity es kept index' (p + 1)
    dropped index' same' others own wide' =
        record {
          same = sym same' ∙ ap (replayed (replayed (vacant capacity) kept)) (sym rest) ∙ k.same;
          counted = k.counted;
          fresh = λ m lt. k.fresh m (omega arith);
          leads = leads-on kept index' (λ m lt ne. (others m lt ne, refl)) own;
          wide = wide';
        }

    -- of a number past the capacity
    pub packing-outside : capacity ≤ e.0 → Packing capacity es kept index (p + 1)
    packing-outside h =
        dropped index (ap (λ x. replayed x (drop (p + 1) es)) (set_past (replayed (vacant capacity) kept) e.0 e.1 (rw (rows_long capacity kept) h)))
        (λ m lt ne. refl) (λ lt. absurd (omega arith)) k.wide

    -- with a later note of the same number
    pub packing-stale : e.0 < capacity → (get_or index e.0 0 ≡ p + 1 → ⊥) → Packing capacity es kept index (p + 1)
    packing-stale h i =
        let orig = get_or (indexed capacity es) e.0 0 in
        ⊎_elim
        (λ (t : orig ≡ p + 1). absurd (i (index-here h ∙ t)))
        (λ (t : (speaks e.0 (drop (p + 1) es) ≡ true) × (p + 1 < orig)).
        dropped index (shadowed e.0 e.1 (drop (p + 1) es) (replayed (vacant capacity) kept) t.0)
        (λ m lt ne. refl) (λ lt. index-here h ∙ sym (cond-true (ltb (p + 1) orig) orig (get_or (indexed capacity kept) e.0 0) (lt-ltb (p + 1) orig t.1))) k.wide)
        (index-own h)

    -- the latest note of its number, of a row that was cleared: the index then leads nowhere
    pub packing-cleared : e.0 < capacity → get_or index e.0 0 ≡ p + 1 → e.1 ≡ None → Packing capacity es kept (set index e.0 0) (p + 1)
    packing-cleared h i c =
        let r = replayed (vacant capacity) kept in
        let orig = get_or (indexed capacity es) e.0 0 in
        let latest : orig ≡ p + 1 = sym (index-here h) ∙ i in
        let none : get_or (indexed capacity kept) e.0 0 ≡ 0 = indexed-none capacity e.0 kept h (k.fresh e.0 (ahead h)) in
        dropped (set index e.0 0) (ap (λ x. replayed x (drop (p + 1) es)) (ap (set r e.0) (c ∙ sym (nothing-kept h)) ∙ set-get_or r e.0 None))
        (λ m lt ne. get_or-set_other index e.0 m 0 0 ne)
        (λ lt. get_or-set_same index e.0 0 0 (omega (arith, k.wide)) ∙ sym none ∙ sym (cond-false (ltb (p + 1) orig) orig (get_or (indexed capacity kept) e.0 0) (le-ltb (p + 1) orig (omega arith))))
        (simp length-set k.wide)
