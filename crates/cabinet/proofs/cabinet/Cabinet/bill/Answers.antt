use Rattle.std.proofs.Common.{Err, sym, ap, ◌∙◌}
use Rattle.std.proofs.lemmas.Result.{err_from_is_err_and}
use Rattle.facts.specs.Forms.{made}
use Rattle.account.specs.Tenancy.{tenancy_of}
use Rattle.ledger.specs.Calls.{booked_at}
use Rattle.cabinet.specs.Settling.{bill_of}
use Rattle.cabinet.specs.Books.{books_of, books_with, raised}
use Rattle.cabinet.proofs.Booked.{bill-answered, bill-kept}
use Rattle.cabinet.proofs.cabinet.Cabinet.bill.Goals as goal

pub returns-in_err-book : goal.returns-in_err-book
returns-in_err-book g c =
    let b = books_of g.B.Board.meaning c.args.self.now in
    let d = c.args.due.now in
    let bill = bill_of (tenancy_of d.account) d.months c.args.plan in
    let r = booked_at d.number d.end c.args.plan.cents (tenancy_of d.account) in
    let p = err_from_is_err_and c.from_residual.result c.from_residual.ensures.1 in
    record {
      answer = p.1 ∙ ap Err p.2 ∙ ap (λ x. made (λ _. bill) (raised x)) (sym c.in_err-book.was ∙ c.book.ensures.answer) ∙ sym (bill-answered b d.number bill r);
      after = ap (books_with b.months) c.book.ensures.after ∙ sym (bill-kept b d.number bill r);
    }
