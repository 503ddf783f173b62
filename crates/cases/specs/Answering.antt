-- How the questions of the cases are answered: by the definitions that the contracts of the program's calls name.
use Rattle.std.specs.Prelude.{ℕ, List, [], ◌∷◌, ◌++◌, Some, None, Ok, Err, codes, decimal, Option, Result}
use Rattle.std.specs.Option.{option_map}
use Rattle.common.specs.Outcomes.{chained}
use Rattle.figures.specs.Months.{month_of}
use Rattle.facts.specs.declared.form.FactsFault.{FactsFault}
use Rattle.facts.specs.declared.form.FactsForm.{FactsForm}
use Rattle.facts.specs.Usage.{Usage}
use Rattle.facts.specs.Forms.{facts_made}
use Rattle.sheet.specs.declared.plan.Plan.{Plan as PricedPlan}
use Rattle.sheet.specs.Tariff.{Tariff}
use Rattle.sheet.specs.Choice.{chosen}
use Rattle.decree.specs.Decreed.{decree_tariff}
use Rattle.protected.specs.Layer.{protected_over}
use Rattle.account.specs.declared.event.OpeningForm.{OpeningForm}
use Rattle.account.specs.declared.fault.AccountFault.{AccountFault}
use Rattle.account.specs.declared.hours.Hours.TheVariants.{Day}
use Rattle.account.specs.declared.state.State.TheVariants.{Vacant}
use Rattle.account.specs.Tenancy.{Tenancy}
use Rattle.account.specs.Waiting.{waiting_in_all}
use Rattle.account.specs.Steps.{opened, read_to}
use Rattle.cases.specs.declared.case.Question.{Question}
use Rattle.cases.specs.declared.case.Question.TheVariants.{Month, OnDecree, OnProtected, Register}
use Rattle.cases.specs.declared.case.Answer.{Answer}
use Rattle.cases.specs.declared.case.Answer.TheVariants.{NonFuel, Plan, Kwh}
use Rattle.cases.specs.Years.{dwelling_with}

-- the N_E of a month, with an N_C of 10,000
abbrev pub month_answer : ℕ → ℕ → Option Answer
month_answer s mx = option_map (λ figures. NonFuel figures.0) (month_of s mx 10000)

-- the cheapest plan of a tariff for a usage, if the figures are one
abbrev pub chosen_for : Tariff → Result Usage FactsFault → Option PricedPlan
chosen_for t (Err e) = None
chosen_for t (Ok u) = chosen t u

-- the cheapest plan's code and cents
abbrev pub plan_answer : Tariff → FactsForm → Option Answer
plan_answer t form = option_map (λ plan. Plan plan.code plan.cents) (chosen_for t (facts_made form))

-- an index of circuit 0 by day; the other registers show 0
abbrev pub day_index : ℕ → List ℕ
day_index index = index ∷ 0 ∷ 0 ∷ 0 ∷ 0 ∷ 0 ∷ 0 ∷ 0 ∷ 0 ∷ 0 ∷ 0 ∷ 0 ∷ []

-- an account of a dwelling with one circuit, opened at this index
abbrev pub opening_at : ℕ → OpeningForm
opening_at index = record { profile = dwelling_with 100 0 0; first = 0; indices = day_index index }

-- the kWh that wait by day in an account, if there is one
abbrev pub kwh_waiting : Result Tenancy AccountFault → Option Answer
kwh_waiting (Err e) = None
kwh_waiting (Ok t) = Some (Kwh (waiting_in_all Day t))

-- the same of an account that was opened and then read
unfoldable pub reading_answer : OpeningForm → List ℕ → Option Answer
reading_answer form indices = kwh_waiting (chained (opened form Vacant) (read_to indices))

-- none where figures are outside their limits, or no plan is permitted
abbrev pub answer_of : Question → Option Answer
answer_of (Month s mx) = month_answer s mx
answer_of (OnDecree form) = plan_answer decree_tariff form
answer_of (OnProtected form) = plan_answer (protected_over decree_tariff) form
answer_of (Register old new) = reading_answer (opening_at old) (day_index new)

-- a case with its answer
unfoldable pub answered : ℕ × Question → ℕ × Option Answer
answered c = (c.0, answer_of c.1)

-- the last figure of an answer
abbrev pub figure_of : Answer → ℕ
figure_of (NonFuel ne) = ne
figure_of (Plan code cents) = cents
figure_of (Kwh kwh) = kwh

abbrev pub figure_text : Option Answer → List ℕ
figure_text None = codes "none"
figure_text (Some a) = decimal (figure_of a)

-- a line: the case's number, a space, the last figure of its answer, and a line feed
abbrev pub line_of : ℕ × Option Answer → List ℕ
line_of a = decimal a.0 ++ (codes " " ++ (figure_text a.1 ++ codes "\n"))

-- a line each
unfoldable pub written : List (ℕ × Option Answer) → List ℕ
written [] = []
written (a ∷ rest) = line_of a ++ written rest
