-- The answer to a choice tells the cheapest plan.
use Rattle.std.proofs.Common.{◌≡◌, ℕ, Some, None, Ok, Err, Option, Result, sym, subst}
use Rattle.std.specs.Option.{option_map}
use Rattle.facts.specs.declared.form.FactsFault.{FactsFault}
use Rattle.facts.specs.Usage.{Usage}
use Rattle.sheet.specs.Tariff.{Tariff, prices_of, plan_of}
use Rattle.sheet.specs.Choice.{Cheapest, cheapest_of}
use Rattle.sheet.proofs.Bests.{best-is}
use Rattle.exports.specs.declared.fault.Fault.{Fault}
use Rattle.exports.specs.declared.crossing.PricedPlan.{PricedPlan}
use Rattle.exports.specs.Prices.{permitted_plan, cheapest_plan}
use Rattle.exports.specs.Statuses.{plan_status, plan_place}
use Rattle.exports.specs.Chosen.{code_told, TellsCheapest}

-- the code of a plan that is handed back is told
code-told : (t : Tariff) (u : Usage) (o : Option ℕ) (before : PricedPlan) → Cheapest (prices_of t u) o
    → Cheapest (prices_of t u) (code_told (plan_status (permitted_plan (option_map (plan_of t u) o))) (plan_place (permitted_plan (option_map (plan_of t u) o)) before))
code-told t u None before h = h
code-told t u (Some code) before h = h

cheapest-told : (t : Result Tariff Fault) (u : Result Usage FactsFault) (before : PricedPlan)
    → TellsCheapest t u (plan_status (cheapest_plan t u)) (plan_place (cheapest_plan t u) before)
cheapest-told (Err f) u before = tt
cheapest-told (Ok t) (Err f) before = tt
cheapest-told (Ok t) (Ok u) before = code-told t u (cheapest_of (prices_of t u)) before (best-is (prices_of t u) t.count)

pub told : (t : Result Tariff Fault) (u : Result Usage FactsFault) (before : PricedPlan) (status : ℕ) (place : PricedPlan)
    → status ≡ plan_status (cheapest_plan t u) → place ≡ plan_place (cheapest_plan t u) before → TellsCheapest t u status place
told t u before status place s p =
    subst (λ n. TellsCheapest t u n place) (sym s) (subst (λ q. TellsCheapest t u (plan_status (cheapest_plan t u)) q) (sym p) (cheapest-told t u before))
