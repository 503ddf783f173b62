-- What a call answers of a plan that was looked for, and the caller's place after it.
use Rattle.std.specs.Prelude.{ℕ, Ok, Err, Result}
use Rattle.facts.specs.Refusals.{facts_refusal}
use Rattle.house.specs.Refusals.{sheet_refusal}
use Rattle.sheet.specs.declared.plan.Plan.{Plan}
use Rattle.exports.specs.declared.fault.Fault.{Fault}
use Rattle.exports.specs.declared.fault.Fault.TheVariants.{UnknownSheet, Sheet, Facts, NotPermitted}
use Rattle.exports.specs.declared.crossing.PricedPlan.{PricedPlan}
use Rattle.exports.specs.Crossing.{priced_plan}

-- the refusal's number, 13 where nothing is permitted; a number that is no sheet's is no refusal and has 100
abbrev pub fault_status : Fault → ℕ
fault_status UnknownSheet = 100
fault_status (Sheet f) = (sheet_refusal f).number
fault_status (Facts f) = (facts_refusal f).number
fault_status NotPermitted = 13

abbrev pub plan_status : Result Plan Fault → ℕ
plan_status (Ok plan) = 0
plan_status (Err f) = fault_status f

-- the plan; without one the place is left
abbrev pub plan_place : Result Plan Fault → PricedPlan → PricedPlan
plan_place (Ok plan) before = priced_plan plan
plan_place (Err f) before = before
