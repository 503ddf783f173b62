-- One entry more: refused, or a change of one number.
use Rattle.std.proofs.Common.{◌≡◌, ℕ, ◌<◌, Bool, true, cond, ◌⊎◌, List, [], ◌∷◌, ◌++◌, length, Some, None, Option, sym, refl, ap, ◌∙◌, subst, ⊎_elim, append-nil}
use Rattle.std.proofs.lemmas.List.{get_or-set_same, get_or-set_other, length-set}
use Rattle.std.proofs.lemmas.Bool.{cases_eq}
use Rattle.std.specs.Option.{option_map}
use Rattle.refusal.specs.declared.Refusal.{Refusal}
use Rattle.board.specs.Meaning.{Row, row_at, with_row}
use Rattle.row.specs.Rows.{row_of}
use Rattle.cabinet.specs.Books.{Books, books_with}
use Rattle.law.specs.Transcript.{Call, posting, opening, reading, settling, paying, closing, showing, Reply, refusal, accepted, Transcript}
use Rattle.law.specs.History.{History, since, moved, months_in, posted_by, account_since}
use Rattle.law.specs.Law.{Fair, Showed, Law}

-- the law, with as many rows as the capacity
pub record Standing (t : Transcript) (b : Books) : Type 0 where
  pub law : Law t b
  pub long : length b.board.rows ≡ b.board.capacity

abbrev pub FairAt : Option History → Type 0
FairAt None = Unit {0}
FairAt (Some h) = Fair h.opened h.deeds

pub fair-at : (t : Transcript) (b : Books) → Law t b → (n : ℕ) → FairAt (since n t)
fair-at t b l n = at (since n t) refl
  where
    at : (o : Option History) → since n t ≡ o → FairAt o
    at None e = tt
    at (Some h) e = l.fair n h e

-- a refused posting posts nothing, nor does any other refused call
refused-posts : (c : Call) (r : Refusal) → posted_by c (refusal r) ≡ []
refused-posts (posting s mx nc) r = refl
refused-posts (opening n form) r = refl
refused-posts (reading n indices) r = refl
refused-posts (settling n e sheet) r = refl
refused-posts (paying n cents) r = refl
refused-posts (closing n) r = refl
refused-posts (showing n) r = refl

no-month : (t : Transcript) (c : Call) (r : Reply) → posted_by c r ≡ [] → months_in t ≡ months_in t ++ posted_by c r
no-month t c r e = sym (append-nil (months_in t)) ∙ ap (λ (xs : List (ℕ × ℕ)). months_in t ++ xs) (sym e)

pub refused-step : (c : Call) (r : Refusal) (t : Transcript) (b : Books) → Showed c (refusal r) t → Standing t b → Standing ((c, refusal r) ∷ t) b
refused-step c r t b shows s = record {
  law = record {
    months = s.law.months ∙ no-month t c (refusal r) (refused-posts c r);
    rows = s.law.rows;
    fair = s.law.fair;
    showings = (shows, s.law.showings);
  };
  long = s.long;
}

-- the row that an open account is written as
abbrev pub writing : History → Row
writing h = row_of (account_since h)

module _ (c : Call) (r : Reply) (t : Transcript) (b : Books) (n : ℕ) (s : Standing t b) (yes : accepted r ≡ true) (quiet : posted_by c r ≡ []) (shows : Showed c r t) (within : n < length b.board.rows)
    (others : (k : ℕ) → (k ≡ n → ⊥) → moved k c r (months_in t) (since k t) ≡ since k t) (h : Option History) (here : moved n c r (months_in t) (since n t) ≡ h) (fair : FairAt h) where
  since-here : since n ((c, r) ∷ t) ≡ h
  since-here = ap (λ (a : Bool). cond a (moved n c r (months_in t) (since n t)) (since n t)) yes ∙ here

  since-other : (k : ℕ) → (k ≡ n → ⊥) → since k ((c, r) ∷ t) ≡ since k t
  since-other k ne = ap (λ (a : Bool). cond a (moved k c r (months_in t) (since k t)) (since k t)) yes ∙ others k ne

  row_same : (k : ℕ) → k ≡ n → row_at (with_row b.board n (option_map writing h)) k ≡ option_map writing (since k ((c, r) ∷ t))
  row_same k e =
      subst (λ (j : ℕ). row_at (with_row b.board n (option_map writing h)) j ≡ option_map writing (since j ((c, r) ∷ t))) (sym e)
      (get_or-set_same b.board.rows n (option_map writing h) None within ∙ ap (option_map writing) (sym since-here))

  row_other : (k : ℕ) → (k ≡ n → ⊥) → row_at (with_row b.board n (option_map writing h)) k ≡ option_map writing (since k ((c, r) ∷ t))
  row_other k ne = get_or-set_other b.board.rows n k (option_map writing h) None ne ∙ s.law.rows k ∙ ap (option_map writing) (sym (since-other k ne))

  fair-same : (k : ℕ) (g : History) → since k ((c, r) ∷ t) ≡ Some g → k ≡ n → Fair g.opened g.deeds
  fair-same k g e q =
      let now : since n ((c, r) ∷ t) ≡ Some g = subst (λ (j : ℕ). since j ((c, r) ∷ t) ≡ Some g) q e in
      subst FairAt (sym since-here ∙ now) fair

  -- an accepted call on n sets its row alone
  pub changed-step : Standing ((c, r) ∷ t) (books_with b.months (with_row b.board n (option_map writing h)))
  changed-step = record {
    law = record {
      months = s.law.months ∙ no-month t c r quiet;
      rows = λ k. ⊎_elim (row_same k) (row_other k) (cases_eq k n);
      fair = λ k g e. ⊎_elim (fair-same k g e) (λ ne. s.law.fair k g (sym (since-other k ne) ∙ e)) (cases_eq k n);
      showings = (shows, s.law.showings);
    };
    long = length-set b.board.rows n (option_map writing h) ∙ s.long;
  }

-- the same entry and books by other names
pub standing-as : (c : Call) (t : Transcript) (r q : Reply) (b d : Books) → r ≡ q → b ≡ d → Standing ((c, q) ∷ t) d → Standing ((c, r) ∷ t) b
standing-as c t r q b d e f s = subst (λ (x : Reply). Standing ((c, x) ∷ t) b) (sym e) (subst (Standing ((c, q) ∷ t)) (sym f) s)
