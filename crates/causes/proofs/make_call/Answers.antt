use Rattle.cabinet.specs.Books.{books_of}
use Rattle.run.specs.Asked.{asked, told}
use Rattle.causes.proofs.Causing.{caused-as}
use Rattle.causes.proofs.make_call.Goals as goal

pub returns : goal.returns
returns g c =
    let kept = c.make_call.ensures in
    record {
      answer = kept.answer;
      after = kept.after;
      recalled = kept.recalled;
      caused = caused-as (books_of g.B.Board.meaning c.args.cabinet.now) (asked g.S.Sheet.tariff c.args.call.now) (told c.make_call.result) kept.answer;
    }
