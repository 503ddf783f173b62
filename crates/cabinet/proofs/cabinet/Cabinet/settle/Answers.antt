use Rattle.std.proofs.Common.{◌≡◌, ℕ, Ok, Result, sym, ap, ◌∙◌, rules}
use Rattle.common.specs.Outcomes.{chained}
use Rattle.sheet.specs.declared.plan.Plan.{Plan}
use Rattle.sheet.specs.Tariff.{Tariff}
use Rattle.account.specs.Tenancy.{Tenancy}
use Rattle.ledger.specs.declared.fault.LedgerFault.{LedgerFault}
use Rattle.ledger.specs.Calls.{due_answer, due_of}
use Rattle.cabinet.specs.declared.bill.Bill.{Bill}
use Rattle.cabinet.specs.declared.fault.CabinetFault.{CabinetFault}
use Rattle.cabinet.specs.Books.{Books, books_of, books_with, raised, priced, billed, settle_next, settled_at, shown_after, bill_answer, bill_after, settle_answer, settle_after}
use Rattle.cabinet.proofs.cabinet.Cabinet.settle.Goals as goal

-- the period of number n up to e, which is due there and priced
same : (b : Books) (n e : ℕ) (sheet : Tariff) (d : Tenancy × ℕ) (p : Plan) → Ok d ≡ due_answer b.board n e → Ok p ≡ priced b.months n e sheet d → settled_at b n e sheet ≡ billed n e d p
same b n e sheet d p due plan =
    ap (λ (x : Result (Tenancy × ℕ) LedgerFault). chained (raised x) (settle_next b.months n e sheet)) (sym due)
    ∙ ap (λ (x : Result Plan CabinetFault). chained x (billed n e d)) (sym plan)

-- what billing a period that is due answers and leaves is what settling does
settled : (b read new : Books) (n m e f : ℕ) (sheet : Tariff) (d : Tenancy × ℕ) (p : Plan) (r : Result Bill CabinetFault) → m ≡ n → f ≡ e → Ok d ≡ due_answer b.board n e → Ok p ≡ priced b.months m f sheet d → read ≡ shown_after b n → r ≡ bill_answer read m (billed m f d p) → new ≡ bill_after read m (billed m f d p) → record { answer : r ≡ settle_answer b n e sheet; after : new ≡ settle_after b n e sheet }
settled b read new n m e f sheet d p r hm hf due plan hr answer after =
    let q : Ok p ≡ priced b.months n e sheet d = plan ∙ ap (λ k. priced b.months k f sheet d) hm ∙ ap (λ k. priced b.months n k sheet d) hf in
    let s : settled_at b n e sheet ≡ billed n e d p = same b n e sheet d p due q in
    let t : billed m f d p ≡ settled_at b n e sheet = ap (λ k. billed k f d p) hm ∙ ap (λ k. billed n k d p) hf ∙ sym s in
    record {
      answer = answer ∙ ap (λ (x : Books). bill_answer x m (billed m f d p)) hr ∙ ap (λ k. bill_answer (shown_after b n) k (billed m f d p)) hm ∙ ap (bill_answer (shown_after b n) n) t;
      after = after ∙ ap (λ (x : Books). bill_after x m (billed m f d p)) hr ∙ ap (λ k. bill_after (shown_after b n) k (billed m f d p)) hm ∙ ap (bill_after (shown_after b n) n) t;
    }

pub returns : goal.returns
returns g c =
    let b = books_of g.B.Board.meaning c.args.self.now in
    let due = c.in_ok-due.due in
    let m : due.number ≡ c.args.number = search rules in
    let f : due.end ≡ c.args.end = search rules in
    settled b (books_with b.months (g.B.Board.meaning c.due.new.self.board)) (books_of g.B.Board.meaning c.bill.new.self) c.args.number due.number c.args.end due.end (g.S.Sheet.tariff c.args.sheet.now) (due_of due) c.in_ok-plan.plan c.bill.result m f c.in_ok-due.ensures.answer c.in_ok-plan.ensures (ap (books_with b.months) c.due.ensures.after) c.bill.ensures.answer c.bill.ensures.after
