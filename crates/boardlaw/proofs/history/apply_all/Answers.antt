use Rattle.std.proofs.Common.{◌≡◌, length, arith}
use Rattle.boardlaw.proofs.Applying.{applying-none, applying-more, answers-are, board-is, law-after}
use Rattle.boardlaw.proofs.history.apply_all.Goals as goal

pub loop-i-init : goal.loop-i-init
loop-i-init g c = applying-none (g.B.Board.meaning c.args.board.now) c.args.changes.now c.args.answers.now

pub loop-i-preserved : goal.loop-i-preserved
loop-i-preserved g c =
    applying-more (g.B.Board.meaning c.args.board.now) (g.B.Board.meaning c.loop-i.board) (g.B.Board.meaning c.make_change.new.board)
    c.args.changes.now c.args.answers.now c.loop-i.answers c.loop-i.i _ c.make_change.result
    c.loop-i.invariant c.loop-i-test.true c.requires c.make_change.ensures.answer c.make_change.ensures.after

pub returns : goal.returns
returns g c =
    let first = g.B.Board.meaning c.args.board.now in
    let m = g.B.Board.meaning c.loop-i.board in
    let changes = c.args.changes.now in
    let end : c.loop-i.i ≡ length changes = omega (arith, c.loop-i-test.false, c.loop-i.auto.i-end) in
    record {
      place = answers-are first m changes c.args.answers.now c.loop-i.answers c.loop-i.i c.loop-i.invariant end c.requires;
      after = board-is first m changes c.args.answers.now c.loop-i.answers c.loop-i.i c.loop-i.invariant end c.requires;
      lawful = law-after first m changes c.args.answers.now c.loop-i.answers c.loop-i.i c.loop-i.invariant end c.requires;
    }
