-- The refusal of facts outside their limits.
use Rattle.refusal.specs.declared.Refusal.{Refusal}
use Rattle.refusal.specs.declared.Layer.TheVariants.{Ledger}
use Rattle.refusal.specs.Refusals.{refused}
use Rattle.facts.specs.declared.form.FactsFault.{FactsFault}
use Rattle.facts.specs.declared.form.FactsFault.TheVariants.{OutsideLimits}

-- number, layer and place
abbrev pub facts_refusal : FactsFault → Refusal
facts_refusal OutsideLimits = refused 5 Ledger 0
