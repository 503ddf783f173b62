use borrow.Author.Rules.{rules}
use Rattle.chance.specs.Drawn.{mixed}
use Rattle.chance.proofs.generator.mix.Goals as goal

pub returns : goal.returns
unfolding mixed
returns c = search rules
