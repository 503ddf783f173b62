-- The structs that a caller hands in and gets back, as the pricing has them.
use Rattle.figures.specs.Sums.{sum_of_ne, sum_of_nc}
use Rattle.facts.specs.declared.form.FactsForm.{FactsForm}
use Rattle.sheet.specs.declared.plan.Plan.{Plan}
use Rattle.exports.specs.declared.crossing.PeriodFacts.{PeriodFacts}
use Rattle.exports.specs.declared.crossing.PricedPlan.{PricedPlan}

abbrev pub facts_form : PeriodFacts → FactsForm
facts_form p = record {
  profile = record { class = p.customer_class; marks = p.marks; power = p.power; exempt = p.exempt; kinds = p.kinds };
  day = p.day;
  night = p.night;
  months = p.months;
  ne = sum_of_ne p.ne_sum;
  nc = sum_of_nc p.nc_sum;
}

abbrev pub priced_plan : Plan → PricedPlan
priced_plan p = record { code = p.code; fixed = p.parts.0; energy = p.parts.1; cents = p.cents }
