-- What the calls of a year add up to.
use Rattle.std.specs.Prelude.{ℕ, cond}
use Rattle.cabinet.specs.declared.bill.Bill.{Bill}
use Rattle.run.specs.declared.answer.Answer.{Answer}
use Rattle.run.specs.declared.answer.Answer.TheVariants.{Posted, Done, Billed, Shown, Vacant, Refused}
use Rattle.run.specs.declared.call.Call.{Call}
use Rattle.run.specs.declared.call.Call.TheVariants.{Post, Open, Read, Settle, Pay, Close, Show}
use Rattle.tally.specs.declared.year.YearSums.{YearSums}
use Rattle.tally.specs.Energies.{billed_in, plus, joined}
use Rattle.tally.specs.Tallies.{is_done}

-- a bill more
abbrev pub with_billed : Bill → YearSums → YearSums
with_billed b y = record {
  calls = y.calls;
  refused = y.refused;
  bills = plus y.bills 1;
  energy = joined y.energy (billed_in b);
  charged = plus y.charged b.cents;
  paid = y.paid;
}

-- a refusal more
abbrev pub with_refusal : YearSums → YearSums
with_refusal y = record {
  calls = y.calls;
  refused = plus y.refused 1;
  bills = y.bills;
  energy = y.energy;
  charged = y.charged;
  paid = y.paid;
}

abbrev pub answered : Answer → YearSums → YearSums
answered (Posted month ne) y = y
answered Done y = y
answered (Billed bill) y = with_billed bill y
answered (Shown account) y = y
answered Vacant y = y
answered (Refused refusal) y = with_refusal y

-- the cents that a call paid in
abbrev pub paid_in : {S : Type 0} → Call S → Answer → ℕ
paid_in (Post s mx nc) a = 0
paid_in (Open number form) a = 0
paid_in (Read number indices) a = 0
paid_in (Settle number end sheet) a = 0
paid_in (Pay number cents) a = cond (is_done a) cents 0
paid_in (Close number) a = 0
paid_in (Show number) a = 0

-- one call more, with so many cents paid in
abbrev pub with_call : ℕ → YearSums → YearSums
with_call cents y = record {
  calls = plus y.calls 1;
  refused = y.refused;
  bills = y.bills;
  energy = y.energy;
  charged = y.charged;
  paid = plus y.paid cents;
}

abbrev pub year_after : {S : Type 0} → Call S → Answer → YearSums → YearSums
year_after c a y = with_call (paid_in c a) (answered a y)

-- two spans of time together
abbrev pub years_joined : YearSums → YearSums → YearSums
years_joined y z = record {
  calls = plus y.calls z.calls;
  refused = plus y.refused z.refused;
  bills = plus y.bills z.bills;
  energy = joined y.energy z.energy;
  charged = plus y.charged z.charged;
  paid = plus y.paid z.paid;
}
