-- What the calls on one account add up to.
use Rattle.std.specs.Prelude.{ℕ, Bool, true, false, cond, List, ℤ, pos, ◌-ℤ◌, Some, None, Option}
use Rattle.account.specs.declared.event.OpeningForm.{OpeningForm}
use Rattle.cabinet.specs.declared.bill.Bill.{Bill}
use Rattle.run.specs.declared.answer.Answer.{Answer}
use Rattle.run.specs.declared.answer.Answer.TheVariants.{Posted, Done, Billed, Shown, Vacant, Refused}
use Rattle.run.specs.declared.call.Call.{Call}
use Rattle.run.specs.declared.call.Call.TheVariants.{Post, Open, Read, Settle, Pay, Close, Show}
use Rattle.tally.specs.declared.tally.Tally.{Tally}
use Rattle.tally.specs.Energies.{counted_in, billed_in, plus, joined, no_energy}

-- an account that was just opened
abbrev pub opened_by : OpeningForm → Tally
opened_by f = record {
  ready = false;
  profile = f.profile;
  first = f.first;
  next = f.first;
  indices = f.indices;
  read = no_energy;
  billed = no_energy;
  charged = 0;
  paid = 0;
}

-- a reading of these indices more
abbrev pub with_reading : List ℕ → Tally → Tally
with_reading new t = record {
  ready = true;
  profile = t.profile;
  first = t.first;
  next = t.next;
  indices = new;
  read = joined t.read (counted_in t.indices new);
  billed = t.billed;
  charged = t.charged;
  paid = t.paid;
}

-- a bill of the period up to a month more
abbrev pub with_bill : ℕ → Bill → Tally → Tally
with_bill end b t = record {
  ready = false;
  profile = t.profile;
  first = t.first;
  next = plus end 1;
  indices = t.indices;
  read = t.read;
  billed = joined t.billed (billed_in b);
  charged = plus t.charged b.cents;
  paid = t.paid;
}

-- a payment more
abbrev pub with_payment : ℕ → Tally → Tally
with_payment cents t = record {
  ready = t.ready;
  profile = t.profile;
  first = t.first;
  next = t.next;
  indices = t.indices;
  read = t.read;
  billed = t.billed;
  charged = t.charged;
  paid = plus t.paid cents;
}

abbrev pub is_done : Answer → Bool
is_done (Posted month ne) = false
is_done Done = true
is_done (Billed bill) = false
is_done (Shown account) = false
is_done Vacant = false
is_done (Refused refusal) = false

-- the sums at a number, none where it is vacant, become these
abbrev pub each : (Tally → Tally) → Option Tally → Option Tally
each f None = None
each f (Some t) = Some (f t)

-- a settlement, by the bill that it was answered
abbrev pub settled_by : ℕ → Answer → Option Tally → Option Tally
settled_by end (Posted month ne) t = t
settled_by end Done t = t
settled_by end (Billed bill) t = each (with_bill end bill) t
settled_by end (Shown account) t = t
settled_by end Vacant t = t
settled_by end (Refused refusal) t = t

-- the sums after a call on this number; a refused call adds nothing
abbrev pub after : {S : Type 0} → Call S → Answer → Option Tally → Option Tally
after (Post s mx nc) a t = t
after (Open number form) a t = cond (is_done a) (Some (opened_by form)) t
after (Read number indices) a t = cond (is_done a) (each (with_reading indices) t) t
after (Settle number end sheet) a t = settled_by end a t
after (Pay number cents) a t = cond (is_done a) (each (with_payment cents) t) t
after (Close number) a t = cond (is_done a) None t
after (Show number) a t = t

-- the cents that are owed
abbrev pub owed : Tally → ℤ
owed t = pos t.charged -ℤ pos t.paid
