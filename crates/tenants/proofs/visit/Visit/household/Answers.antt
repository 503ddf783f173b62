use Rattle.std.proofs.Common.{ap, ◌∙◌}
use Rattle.chance.specs.Drawn.{drawn_below}
use Rattle.tenants.specs.declared.household.Household.TheVariants.{Workshop}
use Rattle.tenants.specs.Households.{household_at}
use Rattle.tenants.proofs.Picks.{household-picked}
use Rattle.tenants.proofs.visit.Visit.household.Goals as goal

pub returns : goal.returns
returns c = c.pick.ensures Workshop ∙ household-picked (drawn_below c.tenant.result.seed 0 8) ∙ ap (λ s. household_at (drawn_below s 0 8)) c.tenant.ensures
