use Rattle.recall.proofs.Recalling.{recalls}
use Rattle.recall.proofs.recall_stands.Goals as goal

pub returns : goal.returns
returns c = recalls
