use Rattle.std.proofs.Common.{◌≡◌, ℕ, true, List, [], Ok, Result, sym, ap, ◌∙◌, subst}
use Rattle.facts.specs.Forms.{made}
use Rattle.board.specs.Meaning.{BoardMeaning, Row}
use Rattle.boards.specs.declared.making.NotMade.{NotMade}
use Rattle.boards.specs.Boards.{board_meaning}
use Rattle.boards.specs.Lawfulness.{board-lawful}
use Rattle.months.specs.Posted.{posted_of}
use Rattle.cabinet.specs.Books.{books_with}
use Rattle.law.specs.Transcript.{Reached}
use Rattle.bench.specs.Stands.{board, stand_of}
use Rattle.bench.specs.Makings.{form_made, figures_of, made_after}
use Rattle.bench.proofs.Starting.{starts-new}
use Rattle.bench.proofs.standing.Bench.make.Goals as goal

pub returns : goal.returns
returns c =
    let m = board_meaning c.in_ok-board.board in
    let is : Ok m ≡ form_made true c.args.form = c.in_ok-board.ensures in
    let none : posted_of c.in-Ok-Ok.months ≡ [] = c.in-Ok-Ok.ensures in
    let P : List (ℕ × ℕ) → Type 0 = λ months. Reached [] (books_with months m) in
    record {
      answer =
          ap (λ (x : ℕ). Ok (x, c.limit.result)) c.capacity.ensures
          ∙ ap (λ (x : ℕ). Ok (m.capacity, x)) c.limit.ensures
          ∙ ap (made figures_of) is;
      after = ap (λ (months : List (ℕ × ℕ)). board (books_with months m)) none ∙ ap (λ (x : Result (BoardMeaning Row) NotMade). made_after x (stand_of c.args.self.now)) is;
      starts = subst P (sym none) (starts-new true c.args.form m (sym is) (board-lawful c.in_ok-board.board));
    }
