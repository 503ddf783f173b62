-- Every change keeps the law.
use Rattle.std.proofs.Common.{◌≡◌, ℕ, ◌<◌, ◌≤◌, Bool, true, false, cond, not, ◌&&◌, eqb, ltb, leb, List, [], ◌∷◌, length, get_or, set, is_some, is_ok, Some, None, Ok, Err, Option, sym, refl, ap, ◌∙◌, ⊎_elim, arith}
use Rattle.std.proofs.lemmas.List.{length-set, length-replicate, get_or-set_same, get_or-set_other, get_or-replicate, get_or_past}
use Rattle.std.proofs.lemmas.List.FromFn.{fill_by_all}
use Rattle.std.proofs.lemmas.Bool.{cases_eq, cases_lt, eq-eqb, ne_eqb, le-leb, lt-leb, ltb-true, cond-true, cond-false}
use Rattle.board.specs.declared.fault.BoardFault.TheVariants.{Outside, Full}
use Rattle.board.specs.Meaning.{BoardMeaning, Row, row_at, inside, full, with_row, standing, vacant, empty}
use Rattle.board.proofs.Standing.{standing-set, standing-vacant}
use Rattle.board.proofs.Rooms.{not_full}
use Rattle.boardlaw.specs.declared.change.Change.{Change}
use Rattle.boardlaw.specs.declared.change.Change.TheVariants.{Store, Clear}
use Rattle.boardlaw.specs.Changes.{Answer, change_number, change_row, change_answer, changed, answers_of, changed_all}
use Rattle.boardlaw.specs.History.{History, told, last_stored, rows_left, fair_answer, BoardLaw, LawStands}

-- the answers by whether the number is inside, and whether there is no room
abbrev store_reply : Bool → Bool → ℕ → Answer
store_reply i f n = cond i (cond f (Err (Full n)) (Ok tt)) (Err (Outside n))

abbrev clear_reply : Bool → ℕ → Answer
clear_reply i n = cond i (Ok tt) (Err (Outside n))

absurd-test : {A : Type 0} → false ≡ true → A
absurd-test e = let z : ◌≡◌ {A = ℕ} 0 1 = cc in absurd (omega arith)

store-accepted : (i f : Bool) (n : ℕ) → is_ok (store_reply i f n) ≡ true → (i ≡ true) × (f ≡ false)
store-accepted true true n e = absurd-test e
store-accepted true false n e = (refl, refl)
store-accepted false f n e = absurd-test e

clear-accepted : (i : Bool) (n : ℕ) → is_ok (clear_reply i n) ≡ true → i ≡ true
clear-accepted true n e = refl
clear-accepted false n e = absurd-test e

store-moves : (i f : Bool) (n : ℕ) (m w : BoardMeaning Row) → cond i (cond f m w) m ≡ cond (is_ok (store_reply i f n)) w m
store-moves true true n m w = refl
store-moves true false n m w = refl
store-moves false f n m w = refl

clear-moves : (i : Bool) (n : ℕ) (m w : BoardMeaning Row) → cond i w m ≡ cond (is_ok (clear_reply i n)) w m
clear-moves true n m w = refl
clear-moves false n m w = refl

-- an accepted change sets the row of its number, a refused one leaves the board
changed-is : (m : BoardMeaning Row) (x : Change) → changed m x ≡ cond (is_ok (change_answer m x)) (with_row m (change_number x) (change_row x)) m
changed-is m (Store n row) = store-moves (inside m n) (full m n) n m (with_row m n (Some row))
changed-is m (Clear n) = clear-moves (inside m n) n m (with_row m n None)

-- it is inside, and there is room
accepted-inside : (m : BoardMeaning Row) (x : Change) → is_ok (change_answer m x) ≡ true → change_number x < m.capacity
accepted-inside m (Store n row) e = ltb-true n m.capacity (store-accepted (inside m n) (full m n) n e).0
accepted-inside m (Clear n) e = ltb-true n m.capacity (clear-accepted (inside m n) n e)

accepted-room : (m : BoardMeaning Row) (x : Change) → is_ok (change_answer m x) ≡ true → change_number x < length m.rows → standing m.rows ≤ m.limit
    → standing (set m.rows (change_number x) (change_row x)) ≤ m.limit
accepted-room m (Store n row) e h b =
    omega (arith, standing-set m.rows n (Some row) h, not_full m.capacity m.limit m.rows n (store-accepted (inside m n) (full m n) n e).1 b)
accepted-room m (Clear n) e h b = omega (arith, standing-set m.rows n None h)

-- rows that are those last stored are as many
rows_left-is : (c : ℕ) (t : History) (rows : List (Option Row)) → length rows ≡ c → ((n : ℕ) → get_or rows n None ≡ last_stored n t) → standing rows ≡ rows_left c t
rows_left-is c t rows long each = ap standing (fill_by_all (λ n. last_stored n t) rows c None long (λ k h. each k))

limit-reached : (s l : ℕ) → s ≤ l → leb l s ≡ eqb s l
limit-reached s l h =
    ⊎_elim
    (λ (q : s ≡ l). le-leb l s (omega arith) ∙ sym (eq-eqb s l q))
    (λ (q : s ≡ l → ⊥). lt-leb l s (omega (arith, q)) ∙ sym (ne_eqb s l q))
    (cases_eq s l)

-- a board that keeps the law after the history t
module _ (c l : ℕ) (t : History) (m : BoardMeaning Row) (law : BoardLaw c l t m) where
  stand : standing m.rows ≡ rows_left c t
  stand = rows_left-is c t m.rows law.long law.rows

  answer-owed : (x : Change) → change_answer m x ≡ fair_answer c l t x
  answer-owed (Store n row) =
      let none = ap (λ (r : Option Row). not (is_some r) && leb m.limit (standing m.rows)) (law.rows n) in
      let most : leb m.limit (standing m.rows) ≡ eqb (rows_left c t) l =
      limit-reached (standing m.rows) m.limit (omega (arith, stand, law.limit, law.bounded)) ∙ ap (λ s. eqb s m.limit) stand ∙ ap (eqb (rows_left c t)) law.limit in
      ap (λ i. store_reply i (full m n) n) (ap (ltb n) law.capacity)
      ∙ ap (λ f. store_reply (ltb n c) f n) (none ∙ ap (λ b. not (is_some (last_stored n t)) && b) most)
  answer-owed (Clear n) = ap (λ i. clear_reply i n) (ap (ltb n) law.capacity)

  -- the change x is accepted or not
  module _ (x : Change) where
    row-after : (b : Bool) → is_ok (change_answer m x) ≡ b → (k : ℕ) → row_at (cond b (with_row m (change_number x) (change_row x)) m) k ≡ cond (b && eqb (change_number x) k) (change_row x) (last_stored k t)
    row-after false e k = law.rows k
    row-after true e k =
        let n = change_number x in
        let r = change_row x in
        let h : n < length m.rows = omega (arith, accepted-inside m x e, law.capacity, law.long) in
        ⊎_elim
        (λ (q : n ≡ k). ap (λ j. get_or (set m.rows n r) j None) (sym q) ∙ get_or-set_same m.rows n r None h ∙ sym (cond-true (eqb n k) r (last_stored k t) (eq-eqb n k q)))
        (λ (q : n ≡ k → ⊥). get_or-set_other m.rows n k r None (λ p. q (sym p)) ∙ law.rows k ∙ sym (cond-false (eqb n k) r (last_stored k t) (ne_eqb n k q)))
        (cases_eq n k)

    long_after : (b : Bool) → length (cond b (with_row m (change_number x) (change_row x)) m).rows ≡ c
    long_after false = law.long
    long_after true = length-set m.rows (change_number x) (change_row x) ∙ law.long

    capacity-after : (b : Bool) → (cond b (with_row m (change_number x) (change_row x)) m).capacity ≡ c
    capacity-after false = law.capacity
    capacity-after true = law.capacity

    limit-after : (b : Bool) → (cond b (with_row m (change_number x) (change_row x)) m).limit ≡ l
    limit-after false = law.limit
    limit-after true = law.limit

    standing-after : (b : Bool) → is_ok (change_answer m x) ≡ b → standing (cond b (with_row m (change_number x) (change_row x)) m).rows ≤ l
    standing-after false e = omega (arith, stand, law.bounded)
    standing-after true e =
        omega (arith, law.limit, accepted-room m x e (omega (arith, accepted-inside m x e, law.capacity, law.long)) (omega (arith, stand, law.limit, law.bounded)))

    pub law-step : BoardLaw c l ((x, change_answer m x) ∷ t) (changed m x)
    law-step =
        let ok = is_ok (change_answer m x) in
        let is = changed-is m x in
        let rows : (k : ℕ) → row_at (changed m x) k ≡ last_stored k ((x, change_answer m x) ∷ t) = λ k. ap (λ (y : BoardMeaning Row). row_at y k) is ∙ row-after ok refl k in
        let long : length (changed m x).rows ≡ c = ap (λ (y : BoardMeaning Row). length y.rows) is ∙ long_after ok in
        record {
          capacity = ap (λ (y : BoardMeaning Row). y.capacity) is ∙ capacity-after ok;
          limit = ap (λ (y : BoardMeaning Row). y.limit) is ∙ limit-after ok;
          long = long;
          rows = rows;
          bounded = omega (arith, standing-after ok refl, ap (λ (y : BoardMeaning Row). standing y.rows) is, rows_left-is c ((x, change_answer m x) ∷ t) (changed m x).rows long rows);
          answers = (answer-owed x, law.bounded, law.answers);
        }

pub law-all : (c l : ℕ) (changes : List Change) (t : History) (m : BoardMeaning Row) → BoardLaw c l t m → BoardLaw c l (told t changes (answers_of m changes)) (changed_all m changes)
law-all c l [] t m law = law
law-all c l (x ∷ changes) t m law = law-all c l changes ((x, change_answer m x) ∷ t) (changed m x) (law-step c l t m law x)

-- a new board, before any change
pub law-new : (c l : ℕ) → BoardLaw c l [] (empty c l)
law-new c l =
    let rows : (n : ℕ) → get_or {A = Option Row} (vacant c) n None ≡ None = λ n.
    ⊎_elim (λ (h : n < c). get_or-replicate c n None None h) (λ (h : c ≤ n). get_or_past (vacant c) n None (simp length-replicate h)) (cases_lt n c) in
    record {
      capacity = refl;
      limit = refl;
      long = length-replicate c None;
      rows = rows;
      bounded = omega (arith, standing-vacant Row c, rows_left-is c [] (vacant c) (length-replicate c None) rows);
      answers = tt;
    }

pub law-stands : LawStands
law-stands c l changes = law-all c l changes [] (empty c l) (law-new c l)
