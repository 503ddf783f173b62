-- The plan that is found, or why there is none: the sheet is looked at first, then the facts, then what is permitted.
use Rattle.std.specs.Prelude.{ℕ, Some, None, Ok, Err, Option, Result}
use Rattle.facts.specs.declared.form.FactsFault.{FactsFault}
use Rattle.facts.specs.Usage.{Usage}
use Rattle.sheet.specs.declared.plan.Plan.{Plan}
use Rattle.sheet.specs.Tariff.{Tariff, price_answer}
use Rattle.sheet.specs.Choice.{chosen}
use Rattle.exports.specs.declared.fault.Fault.{Fault}
use Rattle.exports.specs.declared.fault.Fault.TheVariants.{Facts, NotPermitted}

abbrev pub permitted_plan : Option Plan → Result Plan Fault
permitted_plan (Some plan) = Ok plan
permitted_plan None = Err NotPermitted

-- the plan of a code
abbrev pub priced : Result Tariff Fault → ℕ → Result Usage FactsFault → Result Plan Fault
priced (Err f) code facts = Err f
priced (Ok t) code (Err f) = Err (Facts f)
priced (Ok t) code (Ok u) = permitted_plan (price_answer t u code)

-- the cheapest plan
abbrev pub cheapest_plan : Result Tariff Fault → Result Usage FactsFault → Result Plan Fault
cheapest_plan (Err f) facts = Err f
cheapest_plan (Ok t) (Err f) = Err (Facts f)
cheapest_plan (Ok t) (Ok u) = permitted_plan (chosen t u)
