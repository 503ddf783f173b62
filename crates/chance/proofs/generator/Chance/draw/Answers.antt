use borrow.Author.Rules.{rules}
use Rattle.chance.specs.Drawn.{drawn}
use Rattle.chance.proofs.generator.Chance.draw.Goals as goal

pub returns : goal.returns
unfolding drawn
returns c = search rules
