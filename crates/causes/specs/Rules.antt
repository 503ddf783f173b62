-- What each call may hand in, and what else it hangs on, in the words of a transcript.
use Rattle.std.specs.Prelude.{◌≡◌, ℕ, ◌+◌, ◌<◌, ◌≤◌, cond, ◌⊎◌, List, ◌∷◌, length, is_some, Some, None, Ok, Option, slice_index}
use Rattle.common.specs.Counts.{sum_to}
use Rattle.figures.specs.Months.{non_fuel}
use Rattle.facts.specs.declared.kind.Kind.{Kind}
use Rattle.facts.specs.Forms.{profile_made}
use Rattle.facts.specs.Usage.{Dwelling, Usage}
use Rattle.sheet.specs.Tariff.{Tariff, cents_of}
use Rattle.account.specs.declared.event.OpeningForm.{OpeningForm}
use Rattle.account.specs.Registers.{register_size, kind_of}
use Rattle.account.specs.Steps.{months_from}
use Rattle.law.specs.Transcript.{Transcript}
use Rattle.law.specs.History.{Deed, reads, Opened, History, months_in, since, next_month, kwh_of, unsettled, charged_in, paid_in}
use Rattle.law.specs.Law.{Permits, Least}

-- the number of the month that is posted next
abbrev pub month_due : Transcript → ℕ
month_due t = length (months_in t)

-- an index from 1 to 9,999,999
abbrev pub IndexFits : ℕ → Type 0
IndexFits x = (1 ≤ x) × (x ≤ 9999999)

-- the figures of a month: s and Mx are such indices, and N_C and the N_E worked out are at most 99,999
abbrev pub FiguresFit : ℕ → ℕ → ℕ → Type 0
FiguresFit s mx nc = IndexFits s × IndexFits mx × (nc ≤ 99999) × (non_fuel s mx ≤ 99999)

-- the account of a number is open, and this holds of how it was opened and of what was done since
abbrev pub Holds : Option History → (Opened → List Deed → Type 0) → Type 0
Holds None P = ⊥
Holds (Some h) P = P h.opened h.deeds

-- how many numbers below the capacity are open
abbrev pub open_below : ℕ → Transcript → ℕ
open_below capacity t = sum_to (λ n. cond (is_some (since n t)) 1 0) capacity

-- each of twelve registers can show its index: up to 999,999, and 0 alone on an unused circuit
abbrev pub Shows : List Kind → List ℕ → Type 0
Shows kinds indices = (i : ℕ) → i < 12 → slice_index indices i < register_size (kind_of kinds i)

-- an opening that keeps its rule: a profile within its limits, a first month up to 1,199, indices that the registers can show
pub record Opens (form : OpeningForm) : Type 0 where
  pub dwelling : Dwelling
  pub profile : profile_made form.profile ≡ Ok dwelling
  pub first : form.first ≤ 1199
  pub indices : Shows dwelling.kinds form.indices

-- neither the kWh of a reading on any register nor what then waits there is above 100,000
abbrev pub KwhFit : Opened → List Deed → List ℕ → Type 0
KwhFit o ds new = (i : ℕ) → i < 12 → (kwh_of o ds new i ≤ 100000) × (unsettled o (reads new ∷ ds) i ≤ 100000)

-- a settlement up to e that ends before the next month, or has more than 12 months
abbrev pub PeriodOutside : Opened → List Deed → ℕ → Type 0
PeriodOutside o ds e = (e < next_month o ds) ⊎ (12 < months_from (next_month o ds) e)

-- no code of a sheet is permitted for a usage
abbrev pub NonePermitted : Tariff → Usage → Type 0
NonePermitted sheet u = (code : ℕ) → Permits sheet u code → ⊥

-- the balance, what was charged less what was paid, passes 10^12 cents on either side
abbrev pub Passes : ℕ → ℕ → Type 0
Passes charged paid = (paid + 1000000000000 < charged) ⊎ (charged + 1000000000000 < paid)

-- it would pass with the least price of a usage charged, rounded to the cent
pub record PassesCharged (ds : List Deed) (sheet : Tariff) (u : Usage) : Type 0 where
  pub price : ℕ
  pub least : Least sheet u price
  pub passes : Passes (charged_in ds + cents_of price u.months) (paid_in ds)

-- it would pass with these cents paid
abbrev pub PassesPaid : List Deed → ℕ → Type 0
PassesPaid ds cents = Passes (charged_in ds) (paid_in ds + cents)
