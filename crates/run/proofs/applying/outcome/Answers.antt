use Rattle.std.proofs.Common.{◌≡◌, sym, ap, ◌∙◌, rules}
use Rattle.cabinet.specs.Books.{books_of}
use Rattle.law.specs.Transcript.{reading, reply_of}
use Rattle.run.specs.Asked.{asked, told_by}
use Rattle.run.proofs.applying.outcome.Goals as goal

pub returns-in_err-read-in-Read-clause-answer : goal.returns-in_err-read-in-Read-clause-answer
returns-in_err-read-in-Read-clause-answer g c =
    let b = books_of g.B.Board.meaning c.args.cabinet.now in
    let told : told_by c.from_residual-in_err-read-in-Read.result ≡ reply_of b (reading c.in-Read.number c.in-Read.indices) = search rules in
    told ∙ ap (λ x. reply_of b (asked g.S.Sheet.tariff x)) (sym c.in-Read.is)

pub returns-in-Pay-clause-answer : goal.returns-in-Pay-clause-answer
returns-in-Pay-clause-answer g c =
    let b = books_of g.B.Board.meaning c.args.cabinet.now in
    c.pay.ensures.answer ∙ ap (λ x. reply_of b (asked g.S.Sheet.tariff x)) (sym c.in-Pay.is)
