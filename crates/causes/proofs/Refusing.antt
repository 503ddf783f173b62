-- What a call on a number is refused by, where its history is known.
use Rattle.std.proofs.Common.{◌≡◌, ℕ, true, false, cond, leb, ◌⊎◌, List, ◌∷◌, Some, None, Ok, Err, Option, Result, sym, refl, ap, ◌∙◌, subst, inl, inr, ⊎_elim, arith}
use Rattle.std.proofs.lemmas.Bool.{cases_Bool, ltb-true, ltb-false}
use Rattle.std.specs.Option.{option_map}
use Rattle.refusal.specs.declared.Refusal.{Refusal}
use Rattle.refusal.specs.declared.Layer.TheVariants.{Board as OfBoard, Ledger as OfLedger}
use Rattle.refusal.specs.Refusals.{refused}
use Rattle.common.specs.Outcomes.{chained}
use Rattle.facts.specs.Forms.{made}
use Rattle.board.specs.declared.fault.BoardFault.TheVariants.{Full}
use Rattle.board.specs.Meaning.{BoardMeaning, Row, inside, row_at, standing}
use Rattle.account.specs.declared.event.Event.{Event}
use Rattle.account.specs.declared.fault.AccountFault.{AccountFault}
use Rattle.account.specs.Faults.{fault_number}
use Rattle.account.specs.Tenancy.{Tenancy}
use Rattle.account.specs.Steps.{stepped, found}
use Rattle.ledger.specs.declared.fault.LedgerFault.{LedgerFault}
use Rattle.ledger.specs.Calls.{raised as raised_board, named, keep_answer}
use Rattle.cabinet.specs.Books.{Books, raised, done_answer}
use Rattle.law.specs.Transcript.{done_reply, Transcript}
use Rattle.law.specs.History.{History, since, account_since}
use Rattle.law.proofs.Calling.{loaded}
use Rattle.law.proofs.Loading.{load-outside}
use Rattle.law.proofs.Stepping.{Standing, writing}
use Rattle.causes.specs.Causes.{Cause, because, number_outside}
use Rattle.causes.specs.Caused.{refusal_in, ByFirst}
use Rattle.causes.proofs.Firsts.{some-not-none}

-- an account's fault at n
abbrev pub fault_in : {X : Type 0} → ℕ → Result X AccountFault → Option Refusal
fault_in n (Ok x) = None
fault_in n (Err f) = Some (refused (fault_number f) OfLedger n)

-- what an event that makes r of what stood at n is refused by
abbrev pub event_refusal : BoardMeaning Row → ℕ → Result (Option Tenancy) AccountFault → Option Refusal
event_refusal m n r = refusal_in (done_reply (raised (chained (named n r) (keep_answer m n))))

-- a row that stands may always be kept again
pub keep-stands : (m : BoardMeaning Row) (n : ℕ) (row : Row) (o : Option Tenancy) → inside m n ≡ true → row_at m n ≡ Some row → keep_answer m n o ≡ Ok tt
keep-stands m n row None i e = rw i refl
keep-stands m n row (Some t) i e = rw (i, e) refl

-- a new one needs room
pub keep-new : (m : BoardMeaning Row) (n : ℕ) (t : Tenancy) → inside m n ≡ true → row_at m n ≡ None → keep_answer m n (Some t) ≡ raised_board (cond (leb m.limit (standing m.rows)) (Err (Full n)) (Ok tt))
keep-new m n t i e = rw (i, e) refl

module _ (t : Transcript) (b : Books) (s : Standing t b) (n : ℕ) where
  -- the number first
  pub number-first : (rest : List Cause) (o : Option Refusal) → (inside b.board n ≡ false → o ≡ Some (refused 3 OfBoard n)) → (inside b.board n ≡ true → ByFirst rest o) → ByFirst (number_outside b.board.capacity n ∷ rest) o
  number-first rest o out on =
      ⊎_elim (λ (h : inside b.board n ≡ true). inr ((λ w. let l = ltb-true n b.board.capacity h in omega (arith, w, l)), on h))
      (λ (h : inside b.board n ≡ false). inl (ltb-false n b.board.capacity h, out h)) (cases_Bool (inside b.board n))

  pub row-none : since n t ≡ None → row_at b.board n ≡ None
  row-none e = s.law.rows n ∙ ap (option_map writing) e

  pub row-some : (g : History) → since n t ≡ Some g → row_at b.board n ≡ Some (writing g)
  row-some g e = s.law.rows n ∙ ap (option_map writing) e

  -- an event: outside the capacity, and on what the history makes
  pub event-first : (e : Event) (rest : Option History → List Cause)
      → ((h : Option History) → since n t ≡ h → inside b.board n ≡ true → ByFirst (rest h) (event_refusal b.board n (stepped e (option_map account_since h))))
      → ByFirst (number_outside b.board.capacity n ∷ rest (since n t)) (refusal_in (done_reply (done_answer b n e)))
  event-first e rest f =
      let by : Result (Option Tenancy) LedgerFault → Option Refusal = λ l. refusal_in (done_reply (raised (chained (chained l (λ o. named n (stepped e o))) (keep_answer b.board n)))) in
      number-first (rest (since n t)) (refusal_in (done_reply (done_answer b n e))) (λ h. ap by (load-outside b.board n h)) (λ h. subst (ByFirst (rest (since n t))) (sym (ap by (loaded t b s n h))) (f (since n t) refl h))

  -- an event on an open account is refused by the account's fault alone
  step-refusal : {X : Type 0} (g : History) → since n t ≡ Some g → inside b.board n ≡ true → (f : X → Option Tenancy) (r : Result X AccountFault) → event_refusal b.board n (made f r) ≡ fault_in n r
  step-refusal g e i f (Ok x) = ap (λ (k : Result (Unit {0}) LedgerFault). refusal_in (done_reply (raised k))) (keep-stands b.board n (writing g) (f x) i (row-some g e))
  step-refusal g e i f (Err q) = refl

  -- a reading, a payment, a closing
  pub account-first : {X : Type 0} (e : Event) (f : X → Option Tenancy) (step : Tenancy → Result X AccountFault) (rest : Option History → List Cause) → ((o : Option Tenancy) → stepped e o ≡ made f (chained (found o) step))
      → ((g : History) → ByFirst (rest (Some g)) (fault_in n (step (account_since g))))
      → ByFirst (number_outside b.board.capacity n ∷ because (since n t ≡ None) (refused 7 OfLedger n) ∷ rest (since n t)) (refusal_in (done_reply (done_answer b n e)))
  account-first e f step rest is each = event-first e (λ h. because (h ≡ None) (refused 7 OfLedger n) ∷ rest h) by
    where
      by : (h : Option History) → since n t ≡ h → inside b.board n ≡ true → ByFirst (because (h ≡ None) (refused 7 OfLedger n) ∷ rest h) (event_refusal b.board n (stepped e (option_map account_since h)))
      by None q i = inl (refl, ap (event_refusal b.board n) (is None))
      by (Some g) q i =
          let same : event_refusal b.board n (stepped e (Some (account_since g))) ≡ fault_in n (step (account_since g)) = ap (event_refusal b.board n) (is (Some (account_since g))) ∙ step-refusal g q i f (step (account_since g)) in
          inr (some-not-none g, subst (ByFirst (rest (Some g))) (sym same) (each g))
