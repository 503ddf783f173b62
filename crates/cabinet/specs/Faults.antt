-- The refusals of the cabinet.
use Rattle.refusal.specs.declared.Refusal.{Refusal}
use Rattle.refusal.specs.declared.Layer.TheVariants.{Cabinet}
use Rattle.refusal.specs.Refusals.{refused}
use Rattle.ledger.specs.Faults.{ledger_refusal}
use Rattle.months.specs.Faults.{post_refusal}
use Rattle.cabinet.specs.declared.fault.CabinetFault.{CabinetFault}
use Rattle.cabinet.specs.declared.fault.CabinetFault.TheVariants.{Ledger, Post, NotPosted, NoPlan}

-- the ledger's refusal comes up whole
abbrev pub cabinet_refusal : CabinetFault → Refusal
cabinet_refusal (Ledger f) = ledger_refusal f
cabinet_refusal (Post f) = post_refusal f
cabinet_refusal (NotPosted n) = refused 12 Cabinet n
cabinet_refusal (NoPlan n) = refused 13 Cabinet n
