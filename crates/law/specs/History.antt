-- What was done to an account since its last opening, and what it adds up to.
use Rattle.std.specs.Prelude.{ℕ, ◌+◌, cond, List, [], ◌∷◌, ◌++◌, map, pos, ◌-ℤ◌, Some, None, Ok, Err, Option, Result, ◌==◌, slice_index}
use Rattle.std.specs.List.{range_with_len}
use Rattle.common.specs.Counts.{sum_to}
use Rattle.facts.specs.declared.form.FactsFault.{FactsFault}
use Rattle.facts.specs.Usage.{Dwelling, Usage}
use Rattle.facts.specs.Forms.{profile_made}
use Rattle.sheet.specs.Tariff.{Tariff}
use Rattle.account.specs.declared.event.OpeningForm.{OpeningForm}
use Rattle.account.specs.declared.hours.Hours.{Hours}
use Rattle.account.specs.declared.hours.Hours.TheVariants.{Day, Night}
use Rattle.account.specs.declared.state.State.{State}
use Rattle.account.specs.declared.state.State.TheVariants.{Running, Ready}
use Rattle.account.specs.Registers.{register_size, kind_of, register_of, twelve, difference}
use Rattle.account.specs.Steps.{months_from}
use Rattle.account.specs.Tenancy.{Tenancy}
use Rattle.months.specs.Posted.{ne_sum_of, nc_sum_of}
use Rattle.cabinet.specs.declared.bill.Bill.{Bill}
use Rattle.law.specs.Transcript.{Call, posting, opening, reading, settling, paying, closing, showing, Reply, posted, done, billed, shown, vacant, refusal, accepted, Transcript}

-- what is done to an open account: a reading of these indices; a settlement up to this month on this sheet, with the months posted before it and the bill answered; a payment of so many cents
pub data Deed : Type 0 where
  reads : List ℕ → Deed
  settles : ℕ → Tariff → List (ℕ × ℕ) → Bill → Deed
  pays : ℕ → Deed

-- how an account was opened: its dwelling, its first month and the indices at which its registers start
pub record Opened : Type 0 where
  pub dwelling : Dwelling
  pub first : ℕ
  pub start : List ℕ

-- an open account: how it was opened, and what was done since, the newest first
pub record History : Type 0 where
  pub opened : Opened
  pub deeds : List Deed

-- N_E and N_C of the months posted, the first one first: the N_E answered, and the N_C handed in
abbrev pub posted_by : Call → Reply → List (ℕ × ℕ)
posted_by (posting s mx nc) (posted month ne) = (ne, nc) ∷ []
posted_by (posting s mx nc) done = []
posted_by (posting s mx nc) (billed b) = []
posted_by (posting s mx nc) (shown t) = []
posted_by (posting s mx nc) vacant = []
posted_by (posting s mx nc) (refusal r) = []
posted_by (opening n form) r = []
posted_by (reading n indices) r = []
posted_by (settling n e sheet) r = []
posted_by (paying n cents) r = []
posted_by (closing n) r = []
posted_by (showing n) r = []

abbrev pub months_in : Transcript → List (ℕ × ℕ)
months_in [] = []
months_in (x ∷ t) = months_in t ++ posted_by x.0 x.1

-- an account that was just opened
abbrev pub started_with : OpeningForm → Result Dwelling FactsFault → Option History
started_with f (Err e) = None
started_with f (Ok d) = Some (record { opened = record { dwelling = d; first = f.first; start = f.indices }; deeds = [] })

abbrev pub started : OpeningForm → Option History
started f = started_with f (profile_made f.profile)

-- one deed more, where the account is open
abbrev pub with_deed : Deed → Option History → Option History
with_deed d None = None
with_deed d (Some h) = Some (record { opened = h.opened; deeds = d ∷ h.deeds })

-- a settlement's deed, by the bill that it was answered
abbrev pub with_bill : ℕ → Tariff → List (ℕ × ℕ) → Reply → Option History → Option History
with_bill e sheet months (billed b) h = with_deed (settles e sheet months b) h
with_bill e sheet months (posted month ne) h = h
with_bill e sheet months done h = h
with_bill e sheet months (shown t) h = h
with_bill e sheet months vacant h = h
with_bill e sheet months (refusal r) h = h

-- what an accepted call makes of the history of n: calls on other numbers leave it
abbrev pub moved : ℕ → Call → Reply → List (ℕ × ℕ) → Option History → Option History
moved n (posting s mx nc) r months h = h
moved n (opening k form) r months h = cond (k == n) (started form) h
moved n (reading k indices) r months h = cond (k == n) (with_deed (reads indices) h) h
moved n (settling k e sheet) r months h = cond (k == n) (with_bill e sheet months r h) h
moved n (paying k cents) r months h = cond (k == n) (with_deed (pays cents) h) h
moved n (closing k) r months h = cond (k == n) None h
moved n (showing k) r months h = h

-- n's history since its last opening, where it is open; refused calls count for nothing
abbrev pub since : ℕ → Transcript → Option History
since n [] = None
since n (x ∷ t) = cond (accepted x.1) (moved n x.0 x.1 (months_in t) (since n t)) (since n t)

-- the first month that is not settled: the opening's, or the one behind the last settlement
abbrev pub next_month : Opened → List Deed → ℕ
next_month o [] = o.first
next_month o (reads new ∷ ds) = next_month o ds
next_month o (settles e sheet months b ∷ ds) = e + 1
next_month o (pays cents ∷ ds) = next_month o ds

-- the index of register i at the last reading, or at the opening
abbrev pub index_of : Opened → List Deed → ℕ → ℕ
index_of o [] i = slice_index o.start i
index_of o (reads new ∷ ds) i = slice_index new i
index_of o (settles e sheet months b ∷ ds) i = index_of o ds i
index_of o (pays cents ∷ ds) i = index_of o ds i

-- the kWh of a reading on register i: its difference from the reading before, modulo the register's size
abbrev pub kwh_of : Opened → List Deed → List ℕ → ℕ → ℕ
kwh_of o ds new i = difference (register_size (kind_of o.dwelling.kinds i)) (index_of o ds i) (slice_index new i)

-- the kWh read on register i since the last settlement, or the opening
abbrev pub unsettled : Opened → List Deed → ℕ → ℕ
unsettled o [] i = 0
unsettled o (reads new ∷ ds) i = unsettled o ds i + kwh_of o ds new i
unsettled o (settles e sheet months b ∷ ds) i = 0
unsettled o (pays cents ∷ ds) i = unsettled o ds i

-- a reading came since the last settlement
abbrev pub state_of : List Deed → State
state_of [] = Running
state_of (reads new ∷ ds) = Ready
state_of (settles e sheet months b ∷ ds) = Running
state_of (pays cents ∷ ds) = state_of ds

-- the cents of all bills, and of all payments
abbrev pub charged_in : List Deed → ℕ
charged_in [] = 0
charged_in (reads new ∷ ds) = charged_in ds
charged_in (settles e sheet months b ∷ ds) = charged_in ds + b.cents
charged_in (pays cents ∷ ds) = charged_in ds

abbrev pub paid_in : List Deed → ℕ
paid_in [] = 0
paid_in (reads new ∷ ds) = paid_in ds
paid_in (settles e sheet months b ∷ ds) = paid_in ds
paid_in (pays cents ∷ ds) = paid_in ds + cents

-- the kWh of all readings by day, or by night, over six circuits
abbrev pub read_in : Hours → Opened → List Deed → ℕ
read_in hours o [] = 0
read_in hours o (reads new ∷ ds) = read_in hours o ds + sum_to (λ c. kwh_of o ds new (register_of hours c)) 6
read_in hours o (settles e sheet months b ∷ ds) = read_in hours o ds
read_in hours o (pays cents ∷ ds) = read_in hours o ds

-- the kWh on a bill, and on all bills
abbrev pub kwh_on : Hours → Bill → ℕ
kwh_on Day b = b.day
kwh_on Night b = b.night

abbrev pub billed_in : Hours → List Deed → ℕ
billed_in hours [] = 0
billed_in hours (reads new ∷ ds) = billed_in hours ds
billed_in hours (settles e sheet months b ∷ ds) = billed_in hours ds + kwh_on hours b
billed_in hours (pays cents ∷ ds) = billed_in hours ds

-- the facts of a settlement up to e behind the deeds ds, where these months are posted
abbrev pub period_of : Opened → List Deed → ℕ → List (ℕ × ℕ) → Usage
period_of o ds e months =
    let u = next_month o ds in
    let m = months_from u e in
    record {
      dwelling = o.dwelling;
      day = map (λ c. unsettled o ds (register_of Day c)) (range_with_len 0 6);
      night = map (λ c. unsettled o ds (register_of Night c)) (range_with_len 0 6);
      months = m;
      ne = ne_sum_of months u m;
      nc = nc_sum_of months u m;
    }

-- the account that a history makes
abbrev pub account_in : Opened → List Deed → Tenancy
account_in o ds = record {
  state = state_of ds;
  dwelling = o.dwelling;
  next = next_month o ds;
  indices = twelve (index_of o ds);
  waiting = twelve (unsettled o ds);
  balance = pos (charged_in ds) -ℤ pos (paid_in ds);
}

abbrev pub account_since : History → Tenancy
account_since h = account_in h.opened h.deeds
