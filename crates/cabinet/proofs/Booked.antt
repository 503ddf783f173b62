-- Booking a bill: what the ledger answers and leaves, as the cabinet's.
use Rattle.std.proofs.Common.{◌≡◌, ℕ, Ok, Err, Option, Result, refl}
use Rattle.common.specs.Outcomes.{chained}
use Rattle.facts.specs.Forms.{made}
use Rattle.account.specs.Tenancy.{Tenancy}
use Rattle.ledger.specs.declared.fault.LedgerFault.{LedgerFault}
use Rattle.ledger.specs.Calls.{keep_answer, kept_after}
use Rattle.cabinet.specs.declared.bill.Bill.{Bill}
use Rattle.cabinet.specs.Books.{Books, books_with, raised, bill_answer, bill_after}

module _ (b : Books) (n : ℕ) (bill : Bill) where
  pub bill-answered : (r : Result (Option Tenancy) LedgerFault)
      → bill_answer b n (made (λ next. (next, bill)) (raised r)) ≡ made (λ _. bill) (raised (chained r (keep_answer b.board n)))
  bill-answered (Ok o) = refl
  bill-answered (Err f) = refl

  pub bill-kept : (r : Result (Option Tenancy) LedgerFault)
      → bill_after b n (made (λ next. (next, bill)) (raised r)) ≡ books_with b.months (kept_after b.board n r)
  bill-kept (Ok o) = refl
  bill-kept (Err f) = refl
