-- What stands at a number of a board, and what a call on it leaves.
use Rattle.std.proofs.Common.{◌≡◌, ℕ, Bool, true, false, cond, ◌⊎◌, Some, None, Ok, Err, Option, Result, sym, refl, ap, ◌∙◌, inl, inr, ⊎_elim}
use Rattle.std.proofs.lemmas.Bool.{cases_Bool}
use Rattle.std.specs.Option.{option_map}
use Rattle.common.proofs.Outcomes.{err-not-ok}
use Rattle.facts.specs.Forms.{made}
use Rattle.board.specs.declared.fault.BoardFault.TheVariants.{Outside, Full}
use Rattle.board.specs.Meaning.{BoardMeaning, Row, inside, full, row_at, with_row, store_answer, stored}
use Rattle.account.specs.declared.fault.AccountFault.{AccountFault}
use Rattle.account.specs.Tenancy.{Tenancy}
use Rattle.row.specs.Rows.{row_of, account_of}
use Rattle.ledger.specs.declared.fault.LedgerFault.{LedgerFault}
use Rattle.ledger.specs.declared.fault.LedgerFault.TheVariants.{Board}
use Rattle.ledger.specs.Calls.{raised, named, load_answer, keep_answer, keep_after}

pub named_ok : {X : Type 0} (n : ℕ) (r : Result X AccountFault) (x : X) → named n r ≡ Ok x → r ≡ Ok x
named_ok n (Ok y) x h = cc
named_ok n (Err e) x h = err-not-ok _ x h

pub made_ok : {X Y E : Type 0} (f : X → Y) (r : Result X E) (y : Y) → made f r ≡ Ok y → (x : X) × (r ≡ Ok x) × (f x ≡ y)
made_ok f (Ok x) y h = (x, refl, cc)
made_ok f (Err e) y h = err-not-ok e y h

module _ (m : BoardMeaning Row) (n : ℕ) where
  pub load-outside : inside m n ≡ false → load_answer m n ≡ Err (Board (Outside n))
  load-outside h = rw h refl

  pub load-none : inside m n ≡ true → row_at m n ≡ None → load_answer m n ≡ Ok None
  load-none h e = rw (h, e) refl

  pub load-some : (row : Row) (t : Tenancy) → inside m n ≡ true → row_at m n ≡ Some row → account_of row ≡ Ok t → load_answer m n ≡ Ok (Some t)
  load-some row t h e a = rw (h, e, a) refl

  -- what was read stands inside
  pub load_inside : (o : Option Tenancy) → load_answer m n ≡ Ok o → inside m n ≡ true
  load_inside o h = ⊎_elim (λ t. t) (λ f. err-not-ok (Board (Outside n)) o (sym (load-outside f) ∙ h)) (cases_Bool (inside m n))

  -- keeping an account is refused and moves nothing, or sets its row alone
  abbrev pub Kept-or-not : Option Tenancy → Type 0
  Kept-or-not o =
      ((f : LedgerFault) × (keep_answer m n o ≡ Err f) × (keep_after m n o ≡ m))
      ⊎ ((keep_answer m n o ≡ Ok tt) × (keep_after m n o ≡ with_row m n (option_map row_of o)))

  stored_answer : (f : Bool) → inside m n ≡ true → full m n ≡ f → raised (store_answer m n) ≡ raised (cond f (Err (Full n)) (Ok tt))
  stored_answer f h e =
      ap (λ (i : Bool). raised (cond i (cond (full m n) (Err (Full n)) (Ok tt)) (Err (Outside n)))) h ∙ ap (λ (g : Bool). raised (cond g (Err (Full n)) (Ok tt))) e

  stored-after : (f : Bool) (row : Row) → inside m n ≡ true → full m n ≡ f → stored m n row ≡ cond f m (with_row m n (Some row))
  stored-after f row h e = ap (λ (i : Bool). cond i (cond (full m n) m (with_row m n (Some row))) m) h ∙ ap (λ (g : Bool). cond g m (with_row m n (Some row))) e

  pub keep-cases : (o : Option Tenancy) → inside m n ≡ true → Kept-or-not o
  keep-cases None h = inr (rw h refl, rw h refl)
  keep-cases (Some t) h =
      ⊎_elim (λ f. inl (Board (Full n), stored_answer true h f, stored-after true (row_of t) h f)) (λ f. inr (stored_answer false h f, stored-after false (row_of t) h f)) (cases_Bool (full m n))
