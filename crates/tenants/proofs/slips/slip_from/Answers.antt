use Rattle.std.proofs.Common.{◌∙◌}
use Rattle.chance.specs.Drawn.{drawn_below}
use Rattle.tenants.specs.declared.slips.Slip.TheVariants.{PostsNothing}
use Rattle.tenants.proofs.Picks.{slip-picked}
use Rattle.tenants.proofs.slips.slip_from.Goals as goal

pub returns : goal.returns
returns c = c.pick.ensures PostsNothing ∙ slip-picked (drawn_below c.args.lot.seed 1 10)
