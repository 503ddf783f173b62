-- A list of changes made one after the other, with the answers in their place.
use Rattle.std.proofs.Common.{◌≡◌, ℕ, ◌+◌, ◌<◌, ◌≤◌, List, [], ◌∷◌, ◌++◌, length, get_or, take, drop, set, sym, refl, ap, ◌∙◌, subst, arith}
use Rattle.std.proofs.lemmas.List.{append_assoc, take-append-drop, take_more_set, drop-drop, drop-set-lt, length-set, at_drop_more, at_drop_all, append-nil}
use Rattle.board.specs.Meaning.{BoardMeaning, Row}
use Rattle.boardlaw.specs.declared.change.Change.{Change}
use Rattle.boardlaw.specs.Changes.{Answer, change_answer, changed, answers_of, changed_all}
use Rattle.boardlaw.specs.History.{History, told, BoardLaw}
use Rattle.boardlaw.proofs.Keeping.{law-all}

-- the first i changes are made: the board was `first` and is m, the place held `before` and holds `answers`
pub record Applying (first m : BoardMeaning Row) (changes : List Change) (before answers : List Answer) (i : ℕ) : Type 0 where
  pub after : changed_all m (drop i changes) ≡ changed_all first changes
  pub given : take i answers ++ answers_of m (drop i changes) ≡ answers_of first changes
  pub rest : drop i answers ≡ drop i before
  pub long : length answers ≡ length before

pub applying-none : (first : BoardMeaning Row) (changes : List Change) (before : List Answer) → Applying first first changes before before 0
applying-none first changes before = record { after = refl; given = refl; rest = refl; long = refl }

pub applying-more : (first m later : BoardMeaning Row) (changes : List Change) (before answers : List Answer) (i : ℕ) (x : Change) (y : Answer) → Applying first m changes before answers i
    → i < length changes → length changes ≤ length before → y ≡ change_answer m (get_or changes i x) → later ≡ changed m (get_or changes i x)
    → Applying first later changes before (set answers i y) (i + 1)
applying-more first m later changes before answers i x y a h room p q =
    let here = get_or changes i x in
    let left = drop (i + 1) changes in
    record {
      after = ap (λ (b : BoardMeaning Row). changed_all b left) q ∙ sym (at_drop_more (changed_all m) changes i x h) ∙ a.after;
      given =
          ap (λ (ys : List Answer). ys ++ answers_of later left) (take_more_set answers i y (omega (arith, a.long)))
          ∙ append_assoc (take i answers) (y ∷ []) (answers_of later left)
          ∙ ap (λ (z : Answer). take i answers ++ z ∷ answers_of later left) p
          ∙ ap (λ (b : BoardMeaning Row). take i answers ++ change_answer m here ∷ answers_of b left) q
          ∙ ap (λ (ys : List Answer). take i answers ++ ys) (sym (at_drop_more (answers_of m) changes i x h))
          ∙ a.given;
      rest = drop-set-lt (i + 1) answers i y (omega arith) ∙ sym (drop-drop 1 i answers) ∙ ap (drop 1) a.rest ∙ drop-drop 1 i before;
      long = length-set answers i y ∙ a.long;
    }

-- what stands behind the answers is no answer
told-front : (t : History) (m : BoardMeaning Row) (changes : List Change) (rest : List Answer) → told t changes (answers_of m changes ++ rest) ≡ told t changes (answers_of m changes)
told-front t m [] rest = refl
told-front t m (x ∷ changes) rest = told-front ((x, change_answer m x) ∷ t) (changed m x) changes rest

-- all are made
module _ (first m : BoardMeaning Row) (changes : List Change) (before answers : List Answer) (i : ℕ) (a : Applying first m changes before answers i) (end : i ≡ length changes) (room : length changes ≤ length before) where
  pub answers-are : answers ≡ answers_of first changes ++ drop (length changes) before
  answers-are =
      let front : take i answers ≡ answers_of first changes =
      sym (append-nil (take i answers)) ∙ ap (λ (ys : List Answer). take i answers ++ ys) (sym (at_drop_all (answers_of m) changes i (omega arith))) ∙ a.given in
      sym (take-append-drop i answers) ∙ ap (λ (ys : List Answer). ys ++ drop i answers) front ∙ ap (λ (ys : List Answer). answers_of first changes ++ ys) (a.rest ∙ ap (λ n. drop n before) end)

  pub board-is : m ≡ changed_all first changes
  board-is = sym (at_drop_all (changed_all m) changes i (omega arith)) ∙ a.after

  pub law-after : (c l : ℕ) (t : History) → BoardLaw c l t first → BoardLaw c l (told t changes answers) m
  law-after c l t law =
      let P : BoardMeaning Row → Type 0 = λ b. BoardLaw c l (told t changes answers) b in
      let Q : History → Type 0 = λ u. BoardLaw c l u (changed_all first changes) in
      subst P (sym board-is) (subst Q (sym (ap (told t changes) answers-are ∙ told-front t first changes (drop (length changes) before))) (law-all c l changes t first law))
