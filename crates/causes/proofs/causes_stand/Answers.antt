use Rattle.causes.proofs.Causing.{causes-stand}
use Rattle.causes.proofs.causes_stand.Goals as goal

pub returns : goal.returns
returns c = causes-stand
