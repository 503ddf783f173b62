-- The refusals of posting.
use Rattle.refusal.specs.declared.Refusal.{Refusal}
use Rattle.refusal.specs.declared.Layer.TheVariants.{Cabinet}
use Rattle.refusal.specs.Refusals.{refused}
use Rattle.months.specs.declared.fault.PostFault.{PostFault}
use Rattle.months.specs.declared.fault.PostFault.TheVariants.{AllPosted, OutsideLimits}

-- number, layer and place
abbrev pub post_refusal : PostFault → Refusal
post_refusal (AllPosted due) = refused 1 Cabinet due
post_refusal (OutsideLimits due) = refused 2 Cabinet due
