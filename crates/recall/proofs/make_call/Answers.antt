use Rattle.cabinet.specs.Books.{books_of}
use Rattle.run.specs.Asked.{asked, told}
use Rattle.recall.proofs.Recalling.{recalled-as}
use Rattle.recall.proofs.make_call.Goals as goal

pub returns : goal.returns
returns g c =
    let m = g.B.Board.meaning in
    let kept = c.apply.ensures in
    record {
      answer = kept.answer;
      after = kept.after;
      recalled = recalled-as (books_of m c.args.cabinet.now) (asked g.S.Sheet.tariff c.args.call.now) (told c.apply.result) (books_of m c.apply.new.cabinet)
          (g.met.B.Board.lawful c.args.cabinet.now.ledger.board) kept.answer kept.after;
    }
