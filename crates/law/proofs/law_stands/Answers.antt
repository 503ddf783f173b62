use Rattle.law.proofs.Standings.{stands}
use Rattle.law.proofs.law_stands.Goals as goal

pub returns : goal.returns
returns c = stands
