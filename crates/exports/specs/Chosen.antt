-- What the answer to a choice tells.
use Rattle.std.specs.Prelude.{ℕ, cond, Some, None, Ok, Err, Option, Result, ◌==◌}
use Rattle.facts.specs.declared.form.FactsFault.{FactsFault}
use Rattle.facts.specs.Usage.{Usage}
use Rattle.sheet.specs.Tariff.{Tariff, prices_of}
use Rattle.sheet.specs.Choice.{Cheapest}
use Rattle.exports.specs.declared.fault.Fault.{Fault}
use Rattle.exports.specs.declared.crossing.PricedPlan.{PricedPlan}

-- the code that is told: the one in the caller's place, where 0 is answered
abbrev pub code_told : ℕ → PricedPlan → Option ℕ
code_told status place = cond (status == 0) (Some place.code) None

-- of a sheet and facts within their limits the cheapest permitted code is told, and none exactly where none is permitted
abbrev pub TellsCheapest : Result Tariff Fault → Result Usage FactsFault → ℕ → PricedPlan → Type 0
TellsCheapest (Err f) facts status place = Unit {0}
TellsCheapest (Ok t) (Err f) status place = Unit {0}
TellsCheapest (Ok t) (Ok u) status place = Cheapest (prices_of t u) (code_told status place)
