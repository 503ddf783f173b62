use Rattle.std.proofs.Common.{ap, ◌∙◌}
use Rattle.chance.specs.Drawn.{drawn_below}
use Rattle.script.specs.declared.line.SheetName.TheVariants.{ProtectedHouse}
use Rattle.tenants.specs.Rounds.{sheet_at}
use Rattle.tenants.proofs.Picks.{sheet-picked}
use Rattle.tenants.proofs.rounds.sheet_of.Goals as goal

pub returns : goal.returns
returns c = c.pick.ensures ProtectedHouse ∙ sheet-picked (drawn_below c.lot.result.seed 5 4) ∙ ap (λ s. sheet_at (drawn_below s 5 4)) c.lot.ensures
