use Rattle.boardlaw.proofs.Applying.{Applying}
use Rattle.boardlaw.proofs.history.apply_all.Given as goal

abbrev pub invariant-loop-i : goal.invariant-loop-i
invariant-loop-i g l = Applying (g.B.Board.meaning l.initial.board) (g.B.Board.meaning l.board) l.changes l.initial.answers l.answers l.i
