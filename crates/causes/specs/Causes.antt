-- The causes for which calls are refused, told from the transcript alone.
use Rattle.std.specs.Prelude.{◌≡◌, ℕ, ◌<◌, ◌≤◌, true, ◌⊎◌, List, [], ◌∷◌, is_some, None, ◌≢◌}
use Rattle.refusal.specs.declared.Refusal.{Refusal}
use Rattle.refusal.specs.declared.Layer.TheVariants.{Board, Ledger, Cabinet}
use Rattle.refusal.specs.Refusals.{refused}
use Rattle.sheet.specs.Tariff.{Tariff}
use Rattle.account.specs.declared.event.OpeningForm.{OpeningForm}
use Rattle.account.specs.declared.state.State.TheVariants.{Running, Ready}
use Rattle.law.specs.Transcript.{Call, posting, opening, reading, settling, paying, closing, showing, Transcript}
use Rattle.law.specs.History.{months_in, since, state_of, charged_in, paid_in, period_of}
use Rattle.causes.specs.Rules.{month_due, FiguresFit, Holds, open_below, Shows, Opens, KwhFit, PeriodOutside, NonePermitted, PassesCharged, PassesPaid}

-- a cause: what it says, and the refusal that it gives
pub record Cause : Type 1 where
  pub stands : Type 0
  pub gives : Refusal

abbrev pub because : Type 0 → Refusal → Cause
because p r = record { stands = p; gives = r }

-- 1: 1,200 months are posted
abbrev pub all_posted : Transcript → Cause
all_posted t = because (1200 ≤ month_due t) (refused 1 Cabinet (month_due t))

-- 2: a figure outside its limits
abbrev pub figures_outside : Transcript → ℕ → ℕ → ℕ → Cause
figures_outside t s mx nc = because (FiguresFit s mx nc → ⊥) (refused 2 Cabinet (month_due t))

-- 3: the number is the capacity or more
abbrev pub number_outside : ℕ → ℕ → Cause
number_outside capacity n = because (capacity ≤ n) (refused 3 Board n)

-- 4: an account is open
abbrev pub open_already : ℕ → Transcript → Cause
open_already n t = because (is_some (since n t) ≡ true) (refused 4 Ledger n)

-- 5: a profile, a first month or a starting index outside its rule
abbrev pub opening_outside : ℕ → OpeningForm → Cause
opening_outside n form = because (Opens form → ⊥) (refused 5 Ledger n)

-- 6: as many accounts are open as the limit allows
abbrev pub all_open : ℕ → ℕ → ℕ → Transcript → Cause
all_open n capacity limit t = because (limit ≤ open_below capacity t) (refused 6 Board n)

-- 7: no account is open
abbrev pub not_open : ℕ → Transcript → Cause
not_open n t = because (since n t ≡ None) (refused 7 Ledger n)

-- 8: an index that its register cannot show
abbrev pub index_outside : ℕ → Transcript → List ℕ → Cause
index_outside n t new = because (Holds (since n t) (λ o ds. Shows o.dwelling.kinds new → ⊥)) (refused 8 Ledger n)

-- 9: a difference, or what then waits, above 100,000
abbrev pub too_many_kwh : ℕ → Transcript → List ℕ → Cause
too_many_kwh n t new = because (Holds (since n t) (λ o ds. KwhFit o ds new → ⊥)) (refused 9 Ledger n)

-- 10: no reading since the last settlement or the opening
abbrev pub nothing_read : ℕ → Transcript → Cause
nothing_read n t = because (Holds (since n t) (λ o ds. state_of ds ≡ Running)) (refused 10 Ledger n)

-- 11: an end month before the next one, or more than 12 months
abbrev pub period_outside : ℕ → Transcript → ℕ → Cause
period_outside n t e = because (Holds (since n t) (λ o ds. PeriodOutside o ds e)) (refused 11 Ledger n)

-- 12: the end month is not posted
abbrev pub not_posted : ℕ → Transcript → ℕ → Cause
not_posted n t e = because (month_due t ≤ e) (refused 12 Cabinet n)

-- 13: the sheet permits no code for the period's facts
abbrev pub no_plan : ℕ → Transcript → ℕ → Tariff → Cause
no_plan n t e sheet = because (Holds (since n t) (λ o ds. NonePermitted sheet (period_of o ds e (months_in t)))) (refused 13 Cabinet n)

-- 14: a payment outside 1 to 10^9 cents
abbrev pub payment_outside : ℕ → ℕ → Cause
payment_outside n cents = because ((cents < 1) ⊎ (1000000000 < cents)) (refused 14 Ledger n)

-- 15: with the bill of the period, or with the payment, the balance would pass 10^12 on either side
abbrev pub charge_too_high : ℕ → Transcript → ℕ → Tariff → Cause
charge_too_high n t e sheet = because (Holds (since n t) (λ o ds. PassesCharged ds sheet (period_of o ds e (months_in t)))) (refused 15 Ledger n)

abbrev pub payment_too_high : ℕ → Transcript → ℕ → Cause
payment_too_high n t cents = because (Holds (since n t) (λ o ds. PassesPaid ds cents)) (refused 15 Ledger n)

-- 16: a reading waits to be settled, or the balance is not 0
abbrev pub not_closable : ℕ → Transcript → Cause
not_closable n t = because (Holds (since n t) (λ o ds. (state_of ds ≡ Ready) ⊎ (charged_in ds ≢ paid_in ds))) (refused 16 Ledger n)

-- the causes of each call, in the order in which they are looked at, on a board of this capacity and limit
abbrev pub causes_of : ℕ → ℕ → Transcript → Call → List Cause
causes_of capacity limit t (posting s mx nc) = all_posted t ∷ figures_outside t s mx nc ∷ []
causes_of capacity limit t (opening n form) = number_outside capacity n ∷ open_already n t ∷ opening_outside n form ∷ all_open n capacity limit t ∷ []
causes_of capacity limit t (reading n new) = number_outside capacity n ∷ not_open n t ∷ index_outside n t new ∷ too_many_kwh n t new ∷ []
causes_of capacity limit t (settling n e sheet) =
    number_outside capacity n ∷ not_open n t ∷ nothing_read n t ∷ period_outside n t e ∷ not_posted n t e ∷ no_plan n t e sheet ∷ charge_too_high n t e sheet ∷ []
causes_of capacity limit t (paying n cents) = number_outside capacity n ∷ not_open n t ∷ payment_outside n cents ∷ payment_too_high n t cents ∷ []
causes_of capacity limit t (closing n) = number_outside capacity n ∷ not_open n t ∷ not_closable n t ∷ []
causes_of capacity limit t (showing n) = number_outside capacity n ∷ []
