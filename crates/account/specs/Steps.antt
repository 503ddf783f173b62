-- How each event moves an account, and why it is refused.
use Rattle.std.specs.Prelude.{ℕ, ◌+◌, ◌-◌, Bool, cond, ◌&&◌, List, replicate, ℤ, pos, ◌+ℤ◌, ◌-ℤ◌, Some, None, Ok, Err, Option, Result, nat_le, slice_index}
use Rattle.std.specs.Option.{ok_or}
use Rattle.common.specs.Counts.{all_to}
use Rattle.common.specs.Outcomes.{chained}
use Rattle.facts.specs.declared.form.FactsFault.{FactsFault}
use Rattle.facts.specs.Usage.{Dwelling}
use Rattle.facts.specs.Forms.{made, profile_made}
use Rattle.account.specs.declared.fault.AccountFault.{AccountFault}
use Rattle.account.specs.declared.fault.AccountFault.TheVariants.{OutsideRules, IndexOutside, TooManyKwh, PeriodOutside, PaymentOutside, BalanceOutside, NotClosable, Vacant as NoAccount}
use Rattle.account.specs.declared.event.EventKind.TheVariants.{Opening, Reading, Settlement, Payment, Closing}
use Rattle.account.specs.declared.event.OpeningForm.{OpeningForm}
use Rattle.account.specs.declared.event.Event.{Event}
use Rattle.account.specs.declared.event.Event.TheVariants.{Open, Read, Settle, Pay, Close}
use Rattle.account.specs.declared.figure.Figure.TheVariants.{Index}
use Rattle.account.specs.declared.state.State.{State}
use Rattle.account.specs.declared.state.State.TheVariants.{Vacant}
use Rattle.account.specs.States.{after}
use Rattle.account.specs.Registers.{register_size, kind_of, twelve, figures_at, difference}
use Rattle.account.specs.Balances.{balance_fits, is_zero}
use Rattle.account.specs.Tenancy.{Tenancy}

-- twelve registers with nothing waiting
abbrev pub nothing : List ℕ
nothing = replicate 12 0

-- an account with these indices, where its first month is up to 1,199
abbrev pub started_at : OpeningForm → State → Dwelling → Option (List ℕ) → Result Tenancy AccountFault
started_at f s d None = Err OutsideRules
started_at f s d (Some indices) =
    cond (nat_le f.first 1199)
    (Ok (record { state = s; dwelling = d; next = f.first; indices = indices; waiting = nothing; balance = pos 0 }))
    (Err OutsideRules)

-- the same, where the profile is one and its registers can show the starting indices
abbrev pub opened_at : OpeningForm → State → Result Dwelling FactsFault → Result Tenancy AccountFault
opened_at f s (Err e) = Err OutsideRules
opened_at f s (Ok d) = started_at f s d (figures_at Index d.kinds f.indices)

-- opening
abbrev pub opened : OpeningForm → State → Result Tenancy AccountFault
opened f s = chained (after s Opening) (λ next. opened_at f next (profile_made f.profile))

-- the kWh that register i counted up to its new index
abbrev pub counted : Tenancy → List ℕ → ℕ → ℕ
counted t new i = difference (register_size (kind_of t.dwelling.kinds i)) (slice_index t.indices i) (slice_index new i)

-- the kWh that wait in register i after a reading
abbrev pub joined : Tenancy → List ℕ → ℕ → ℕ
joined t new i = slice_index t.waiting i + counted t new i

-- neither of them above 100,000
abbrev pub join_fits : Tenancy → List ℕ → ℕ → Bool
join_fits t new i = nat_le (counted t new i) 100000 && nat_le (joined t new i) 100000

-- what waits in twelve registers after a reading, where that fits
abbrev pub waiting_after : Tenancy → List ℕ → Option (List ℕ)
waiting_after t new = cond (all_to (join_fits t new) 12) (Some (twelve (joined t new))) None

-- the account with these indices and these waiting kWh, where they fit
abbrev pub joined_at : State → Tenancy → List ℕ → Option (List ℕ) → Result Tenancy AccountFault
joined_at s t new None = Err TooManyKwh
joined_at s t new (Some kwh) =
    Ok (record { state = s; dwelling = t.dwelling; next = t.next; indices = new; waiting = kwh; balance = t.balance })

-- the same, where the registers can show the indices: all of them are looked at before any kWh
abbrev pub read_at : State → Tenancy → Option (List ℕ) → Result Tenancy AccountFault
read_at s t None = Err IndexOutside
read_at s t (Some new) = joined_at s t new (waiting_after t new)

-- reading
abbrev pub read_to : List ℕ → Tenancy → Result Tenancy AccountFault
read_to new t = chained (after t.state Reading) (λ s. read_at s t (figures_at Index t.dwelling.kinds new))

-- the months from u up to e, both of them counted
abbrev pub months_from : ℕ → ℕ → ℕ
months_from u e = e - u + 1

-- a period of 1 to 12 months
abbrev pub period_fits : ℕ → ℕ → Bool
period_fits u e = nat_le u e && nat_le (months_from u e) 12

-- settling, the checking half: the months of the period
abbrev pub months_to : ℕ → Tenancy → Result ℕ AccountFault
months_to e t =
    chained (after t.state Settlement)
    (λ s. cond (period_fits t.next e) (Ok (months_from t.next e)) (Err PeriodOutside))

-- with this balance, if an account may have it
abbrev pub with_balance : ℤ → State → Tenancy → Result Tenancy AccountFault
with_balance b s t =
    cond (balance_fits b)
    (Ok (record { state = s; dwelling = t.dwelling; next = t.next; indices = t.indices; waiting = t.waiting; balance = b }))
    (Err BalanceOutside)

-- the month behind e is next, and nothing waits
abbrev pub settled_to : ℕ → Tenancy → Tenancy
settled_to e t = record { state = t.state; dwelling = t.dwelling; next = e + 1; indices = t.indices; waiting = nothing; balance = t.balance }

-- settling, the booking half: for a period that the checking half takes and that ends by month 1,199
abbrev pub settled : ℕ → ℕ → Tenancy → Result Tenancy AccountFault
settled e cents t =
    chained (after t.state Settlement)
    (λ s. cond (period_fits t.next e && nat_le e 1199) (with_balance (t.balance +ℤ pos cents) s (settled_to e t)) (Err PeriodOutside))

-- paying from 1 cent to 10^9
abbrev pub paid : ℕ → Tenancy → Result Tenancy AccountFault
paid cents t =
    chained (after t.state Payment)
    (λ s. cond (nat_le 1 cents && nat_le cents 1000000000) (with_balance (t.balance -ℤ pos cents) s t) (Err PaymentOutside))

-- closing, with nothing to settle and nothing owed
abbrev pub closed : Tenancy → Result Unit AccountFault
closed t = chained (after t.state Closing) (λ s. cond (is_zero t.balance) (Ok tt) (Err NotClosable))

-- what stands at a number
abbrev pub standing : Option Tenancy → State
standing None = Vacant
standing (Some t) = t.state

-- the account that stands there
abbrev pub found : Option Tenancy → Result Tenancy AccountFault
found o = ok_or o NoAccount

-- what stands at a number after an event
abbrev pub stepped : Event → Option Tenancy → Result (Option Tenancy) AccountFault
stepped (Open form) o = made Some (opened form (standing o))
stepped (Read new) o = made Some (chained (found o) (read_to new))
stepped (Settle e cents) o = made Some (chained (found o) (settled e cents))
stepped (Pay cents) o = made Some (chained (found o) (paid cents))
stepped Close o = made (λ _. None) (chained (found o) closed)
