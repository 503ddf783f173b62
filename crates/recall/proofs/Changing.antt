-- A call on a number: refused with nothing moved, or accepted with that number's row set.
use Rattle.std.proofs.Common.{◌≡◌, ℕ, true, ◌⊎◌, Ok, Err, Option, Result, refl, ap, ◌∙◌, ⊎_elim}
use Rattle.std.specs.Option.{option_map}
use Rattle.common.specs.Outcomes.{chained}
use Rattle.common.proofs.Outcomes.{chained-ok}
use Rattle.facts.specs.Forms.{made}
use Rattle.sheet.specs.Tariff.{Tariff}
use Rattle.board.specs.Meaning.{inside, with_row}
use Rattle.account.specs.declared.event.Event.{Event}
use Rattle.account.specs.Tenancy.{Tenancy}
use Rattle.account.specs.Steps.{stepped}
use Rattle.row.specs.Rows.{row_of}
use Rattle.ledger.specs.declared.fault.LedgerFault.{LedgerFault}
use Rattle.ledger.specs.Calls.{named, load_answer, next_at, keep_answer, kept_after, due_at, due_answer}
use Rattle.cabinet.specs.declared.bill.Bill.{Bill}
use Rattle.cabinet.specs.declared.fault.CabinetFault.{CabinetFault}
use Rattle.cabinet.specs.declared.fault.CabinetFault.TheVariants.{Ledger}
use Rattle.cabinet.specs.Books.{Books, books_with, raised, done_answer, done_after, settle_next, bill_answer, bill_after, settled_at, settle_answer, settle_after}
use Rattle.law.proofs.Loading.{load_inside, keep-cases}
use Rattle.law.proofs.Standings.{raised-ok}

-- refused by f with the books as they were, or answered x with o kept at n
pub data Outcome {X : Type 0} (b : Books) (n : ℕ) (left : Option Tenancy → X → Type 0) (r : Result X CabinetFault) (d : Books) : Type 0 where
  refusing : (f : CabinetFault) → r ≡ Err f → d ≡ b → Outcome b n left r d
  keeping : (x : X) (o : Option Tenancy) → left o x → inside b.board n ≡ true → r ≡ Ok x → d ≡ books_with b.months (with_row b.board n (option_map row_of o)) → Outcome b n left r d

module _ (b : Books) (n : ℕ) (e : Event) where
  done-by : (r : Result (Option Tenancy) LedgerFault) → next_at b.board n (stepped e) ≡ r → Outcome b n (λ o x. next_at b.board n (stepped e) ≡ Ok o) (done_answer b n e) (done_after b n e)
  done-by (Err f) q =
      refusing (Ledger f) (ap (λ (x : Result (Option Tenancy) LedgerFault). raised (chained x (keep_answer b.board n))) q) (ap (λ (x : Result (Option Tenancy) LedgerFault). books_with b.months (kept_after b.board n x)) q)
  done-by (Ok o) q =
      let l = chained-ok (load_answer b.board n) (λ x. named n (stepped e x)) o q in
      let i = load_inside b.board n l.0 l.1 in
      let answer : done_answer b n e ≡ raised (keep_answer b.board n o) = ap (λ (x : Result (Option Tenancy) LedgerFault). raised (chained x (keep_answer b.board n))) q in
      let after : done_after b n e ≡ books_with b.months (kept_after b.board n (Ok o)) = ap (λ (x : Result (Option Tenancy) LedgerFault). books_with b.months (kept_after b.board n x)) q in
      ⊎_elim (λ k. refusing (Ledger k.0) (answer ∙ ap raised k.1) (after ∙ ap (books_with b.months) k.2)) (λ k. keeping tt o q i (answer ∙ ap raised k.0) (after ∙ ap (books_with b.months) k.1))
      (keep-cases b.board n o i)

  -- an opening, a reading, a payment, a closing
  pub done-outcome : Outcome b n (λ o x. next_at b.board n (stepped e) ≡ Ok o) (done_answer b n e) (done_after b n e)
  done-outcome = done-by (next_at b.board n (stepped e)) refl

module _ (b : Books) (n e : ℕ) (sheet : Tariff) where
  settle-by : (r : Result (Option Tenancy × Bill) CabinetFault) → settled_at b n e sheet ≡ r → Outcome b n (λ o x. settled_at b n e sheet ≡ Ok (o, x)) (settle_answer b n e sheet) (settle_after b n e sheet)
  settle-by (Err f) q = refusing f (ap (bill_answer b n) q) (ap (bill_after b n) q)
  settle-by (Ok x) q =
      let c = chained-ok (raised (due_answer b.board n e)) (settle_next b.months n e sheet) x q in
      let l = chained-ok (load_answer b.board n) (due_at n e) c.0 (raised-ok (due_answer b.board n e) c.0 c.1) in
      let i = load_inside b.board n l.0 l.1 in
      let answer : settle_answer b n e sheet ≡ made (λ _. x.1) (raised (keep_answer b.board n x.0)) = ap (bill_answer b n) q in
      let after : settle_after b n e sheet ≡ bill_after b n (Ok x) = ap (bill_after b n) q in
      ⊎_elim
      (λ k. refusing (Ledger k.0) (answer ∙ ap (λ (r : Result (Unit {0}) LedgerFault). made (λ _. x.1) (raised r)) k.1) (after ∙ ap (books_with b.months) k.2))
      (λ k. keeping x.1 x.0 q i (answer ∙ ap (λ (r : Result (Unit {0}) LedgerFault). made (λ _. x.1) (raised r)) k.0) (after ∙ ap (books_with b.months) k.1))
      (keep-cases b.board n x.0 i)

  pub settle-outcome : Outcome b n (λ o x. settled_at b n e sheet ≡ Ok (o, x)) (settle_answer b n e sheet) (settle_after b n e sheet)
  settle-outcome = settle-by (settled_at b n e sheet) refl
