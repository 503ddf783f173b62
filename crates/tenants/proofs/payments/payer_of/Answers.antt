use Rattle.std.proofs.Common.{ap, ◌∙◌}
use Rattle.chance.specs.Drawn.{drawn_below}
use Rattle.tenants.specs.declared.payments.Payer.TheVariants.{InAdvance}
use Rattle.tenants.specs.Payments.{payer_at}
use Rattle.tenants.proofs.Picks.{payer-picked}
use Rattle.tenants.proofs.payments.payer_of.Goals as goal

pub returns : goal.returns
returns c = c.pick.ensures InAdvance ∙ payer-picked (drawn_below c.tenant.result.seed 4 3) ∙ ap (λ s. payer_at (drawn_below s 4 3)) c.tenant.ensures
