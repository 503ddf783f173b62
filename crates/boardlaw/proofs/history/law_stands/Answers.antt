use Rattle.boardlaw.proofs.Keeping.{law-stands}
use Rattle.boardlaw.proofs.history.law_stands.Goals as goal

pub returns : goal.returns
returns c = law-stands
