-- What each pricing line is answered.
use Rattle.std.specs.Prelude.{ℕ, Bool, cond, List, length, Some, None, Ok, Err, Option, Result}
use Rattle.refusal.specs.declared.Refusal.{Refusal}
use Rattle.rating.specs.declared.RatingFault.{RatingFault}
use Rattle.rating.specs.Ratings.{rating_refusal}
use Rattle.facts.specs.declared.form.FactsFault.{FactsFault}
use Rattle.facts.specs.Refusals.{facts_refusal}
use Rattle.facts.specs.Usage.{Usage}
use Rattle.sheet.specs.declared.plan.Plan.{Plan}
use Rattle.sheet.specs.Tariff.{Tariff, price_answer}
use Rattle.sheet.specs.Choice.{chosen}
use Rattle.words.specs.Hex.{bytes_of}
use Rattle.house.specs.declared.line.Line.{Line}
use Rattle.house.specs.declared.line.SheetFault.{SheetFault}
use Rattle.house.specs.Refusals.{sheet_refusal}
use Rattle.house.specs.Reading.{read_of, reading_after}
use Rattle.answers.specs.declared.answer.Answer.{Answer}
use Rattle.answers.specs.declared.answer.Answer.TheVariants as answer
use Rattle.answers.specs.declared.price.PriceAnswer.{PriceAnswer}
use Rattle.answers.specs.Prices.{wide}

abbrev pub rating_answer : Result ℕ RatingFault → Answer
rating_answer (Ok tenths) = answer.Tenths tenths
rating_answer (Err fault) = answer.Refused (rating_refusal fault)

-- the parts and the cents of a plan, where it is permitted
abbrev pub parts_answer : Option Plan → Answer
parts_answer (Some p) = answer.Parts p.parts.0 p.parts.1 p.cents
parts_answer None = answer.NotPermitted

-- the cheapest plan, where one is permitted
abbrev pub plan_answer : Option Plan → Answer
plan_answer (Some p) = answer.Plan p.code p.parts.0 p.parts.1 p.cents
plan_answer None = answer.NoPlan

-- an answer, or the refusal that stands in its place
abbrev pub refused_or_answer : Result Answer Refusal → Answer
refused_or_answer (Ok a) = a
refused_or_answer (Err r) = answer.Refused r

-- an answer to a pricing line, or the refusal in its place, among all answers
abbrev pub refused_or_wide : Result PriceAnswer Refusal → Answer
refused_or_wide (Ok a) = refused_or_answer (Ok (wide a))
refused_or_wide (Err r) = refused_or_answer (Err r)

-- facts outside their limits are refused, whatever the sheet and the code are
abbrev pub price_line_answer : Tariff → ℕ → Result Usage FactsFault → Answer
price_line_answer t code (Err fault) = answer.Refused (facts_refusal fault)
price_line_answer t code (Ok u) = parts_answer (price_answer t u code)

abbrev pub choose_line_answer : Tariff → Result Usage FactsFault → Answer
choose_line_answer t (Err fault) = answer.Refused (facts_refusal fault)
choose_line_answer t (Ok u) = plan_answer (chosen t u)

-- how many lines a reading brought, or its refusal
abbrev pub read_answer : Result (List Line) SheetFault → Answer
read_answer (Ok lines) = answer.Lines (length lines)
read_answer (Err fault) = answer.Refused (sheet_refusal fault)

-- the answer to a reading of a text's bytes, and the lines after it; where no memory was found for them, nothing is read
abbrev pub house_line_answer : Bool → List ℕ → Answer
house_line_answer memory text = cond memory (read_answer (read_of (bytes_of text))) answer.NoMemory

abbrev pub house_line_after : Bool → List ℕ → List Line → List Line
house_line_after memory text lines = cond memory (reading_after (read_of (bytes_of text)) lines) lines
