-- What is known of an account where an event was accepted.
use Rattle.std.proofs.Common.{◌≡◌, ℕ, ◌+◌, ◌<◌, ◌≤◌, true, cond, ◌&&◌, leb, List, ℤ, pos, ◌+ℤ◌, ◌-ℤ◌, Some, None, Ok, Err, Option, Result, sym, refl, ap, ◌∙◌, subst, arith}
use Rattle.std.proofs.lemmas.Bool.Decides.{nat_tests}
use Rattle.common.specs.Counts.{all_to}
use Rattle.common.proofs.Outcomes.{err-not-ok, both_true, some-if, ok-if, chained-ok}
use Rattle.facts.specs.declared.form.FactsFault.{FactsFault}
use Rattle.facts.specs.Usage.{Dwelling}
use Rattle.facts.specs.Forms.{profile_made}
use Rattle.account.specs.declared.event.EventKind.TheVariants.{Opening, Reading, Settlement, Payment}
use Rattle.account.specs.declared.event.OpeningForm.{OpeningForm}
use Rattle.account.specs.declared.fault.AccountFault.TheVariants.{OutsideRules, IndexOutside, TooManyKwh, PeriodOutside, PaymentOutside, BalanceOutside}
use Rattle.account.specs.declared.figure.Figure.TheVariants.{Index}
use Rattle.account.specs.declared.state.State.{State}
use Rattle.account.specs.declared.state.State.TheVariants.{Running, Ready}
use Rattle.account.specs.States.{after}
use Rattle.account.specs.Registers.{twelve, figures_at}
use Rattle.account.specs.Balances.{balance_fits}
use Rattle.account.specs.Tenancy.{Tenancy}
use Rattle.account.specs.Steps.{nothing, started_at, opened_at, opened, joined, join_fits, waiting_after, joined_at, read_at, read_to, period_fits, with_balance, settled_to, settled, paid}
use Rattle.account.proofs.Following.{opening-runs, reading-readies, settlement-runs, settlement-was-ready, payment-stays}

-- an opening: its profile is one, its registers can show its indices, its month is within its limit
pub record Opened (f : OpeningForm) (u : Tenancy) : Type 0 where
  pub profile : profile_made f.profile ≡ Ok u.dwelling
  pub shown : figures_at Index u.dwelling.kinds f.indices ≡ Some u.indices
  pub next : u.next ≡ f.first
  pub month : u.next ≤ 1199
  pub state : u.state ≡ Running
  pub waiting : u.waiting ≡ nothing
  pub balance : u.balance ≡ pos 0

month-most : (n : ℕ) → leb n 1199 ≡ true → n ≤ 1199
month-most n h = grind (arith, nat_tests)

started : (f : OpeningForm) (d : Dwelling) (oi : Option (List ℕ)) (u : Tenancy) → profile_made f.profile ≡ Ok d → figures_at Index d.kinds f.indices ≡ oi → started_at f Running d oi ≡ Ok u → Opened f u
started f d None u p i h = err-not-ok OutsideRules u h
started f d (Some xs) u p i h =
    let o = ok-if (leb f.first 1199) (Ok (record { state = Running; dwelling = d; next = f.first; indices = xs; waiting = nothing; balance = pos 0 })) OutsideRules u h in
    let z = o.1 in
    let e : record { state = Running; dwelling = d; next = f.first; indices = xs; waiting = nothing; balance = pos 0 } ≡ u = cc in
    subst (Opened f) e (record { profile = p; shown = i; next = refl; month = month-most f.first o.0; state = refl; waiting = refl; balance = refl })

with-profile : (f : OpeningForm) (pd : Result Dwelling FactsFault) (u : Tenancy) → profile_made f.profile ≡ pd → opened_at f Running pd ≡ Ok u → Opened f u
with-profile f (Err d) u p h = err-not-ok OutsideRules u h
with-profile f (Ok d) u p h = started f d (figures_at Index d.kinds f.indices) u p refl h

pub opening-accepted : (f : OpeningForm) (s : State) (u : Tenancy) → opened f s ≡ Ok u → Opened f u
opening-accepted f s u h =
    let c = chained-ok (after s Opening) (λ next. opened_at f next (profile_made f.profile)) u h in
    let r = opening-runs s c.0 (sym c.1) in
    with-profile f (profile_made f.profile) u refl (sym (ap (λ next. opened_at f next (profile_made f.profile)) r) ∙ c.2)

-- a reading: its indices as the registers show them, and what waits
pub record Taken (new : List ℕ) (t u : Tenancy) : Type 0 where
  pub shown : figures_at Index t.dwelling.kinds new ≡ Some u.indices
  pub fit : all_to (join_fits t u.indices) 12 ≡ true
  pub waiting : u.waiting ≡ twelve (joined t u.indices)
  pub state : u.state ≡ Ready
  pub dwelling : u.dwelling ≡ t.dwelling
  pub next : u.next ≡ t.next
  pub balance : u.balance ≡ t.balance

taken-with : (new : List ℕ) (t : Tenancy) (xs : List ℕ) (ow : Option (List ℕ)) (u : Tenancy) → figures_at Index t.dwelling.kinds new ≡ Some xs → waiting_after t xs ≡ ow → joined_at Ready t xs ow ≡ Ok u → Taken new t u
taken-with new t xs None u i w h = err-not-ok TooManyKwh u h
taken-with new t xs (Some kwh) u i w h =
    let e : record { state = Ready; dwelling = t.dwelling; next = t.next; indices = xs; waiting = kwh; balance = t.balance } ≡ u = cc in
    let p = some-if (all_to (join_fits t xs) 12) (twelve (joined t xs)) kwh w in
    subst (Taken new t) e (record { shown = i; fit = p.0; waiting = sym p.1; state = refl; dwelling = refl; next = refl; balance = refl })

taken_at : (new : List ℕ) (t : Tenancy) (oi : Option (List ℕ)) (u : Tenancy) → figures_at Index t.dwelling.kinds new ≡ oi → read_at Ready t oi ≡ Ok u → Taken new t u
taken_at new t None u i h = err-not-ok IndexOutside u h
taken_at new t (Some xs) u i h = taken-with new t xs (waiting_after t xs) u i refl h

pub reading-accepted : (new : List ℕ) (t u : Tenancy) → read_to new t ≡ Ok u → Taken new t u
reading-accepted new t u h =
    let c = chained-ok (after t.state Reading) (λ s. read_at s t (figures_at Index t.dwelling.kinds new)) u h in
    let r = reading-readies t.state c.0 (sym c.1) in
    taken_at new t (figures_at Index t.dwelling.kinds new) u refl (sym (ap (λ s. read_at s t (figures_at Index t.dwelling.kinds new)) r) ∙ c.2)

-- a balance that an account may have
pub with-balance : (b : ℤ) (s : State) (t u : Tenancy) → with_balance b s t ≡ Ok u → (balance_fits b ≡ true) × (u ≡ record { state = s; dwelling = t.dwelling; next = t.next; indices = t.indices; waiting = t.waiting; balance = b })
with-balance b s t u h =
    let o = ok-if (balance_fits b) (Ok (record { state = s; dwelling = t.dwelling; next = t.next; indices = t.indices; waiting = t.waiting; balance = b })) BalanceOutside u h in
    let z = o.1 in
    (o.0, cc)

-- a settlement
pub record Booked (e cents : ℕ) (t u : Tenancy) : Type 0 where
  pub was : t.state ≡ Ready
  pub period : (t.next ≤ e) × (e < t.next + 12)
  pub last : e ≤ 1199
  pub fits : balance_fits (t.balance +ℤ pos cents) ≡ true
  pub is : u ≡ record { state = Running; dwelling = t.dwelling; next = e + 1; indices = t.indices; waiting = nothing; balance = t.balance +ℤ pos cents }

period-is : (next e : ℕ) → period_fits next e ≡ true → (next ≤ e) × (e < next + 12)
period-is next e h = (grind (arith, nat_tests), grind (arith, nat_tests))

pub settlement-accepted : (e cents : ℕ) (t u : Tenancy) → settled e cents t ≡ Ok u → Booked e cents t u
settlement-accepted e cents t u h =
    let c = chained-ok (after t.state Settlement) (λ s. cond (period_fits t.next e && leb e 1199) (with_balance (t.balance +ℤ pos cents) s (settled_to e t)) (Err PeriodOutside)) u h in
    let r = settlement-runs t.state c.0 (sym c.1) in
    let o = ok-if (period_fits t.next e && leb e 1199) (with_balance (t.balance +ℤ pos cents) c.0 (settled_to e t)) PeriodOutside u c.2 in
    let b = both_true (period_fits t.next e) (leb e 1199) o.0 in
    let w = with-balance (t.balance +ℤ pos cents) c.0 (settled_to e t) u o.1 in
    record {
      was = settlement-was-ready t.state c.0 (sym c.1);
      period = period-is t.next e b.0;
      last = month-most e b.1;
      fits = w.0;
      is = w.1 ∙ ap (λ s. record { state = s; dwelling = t.dwelling; next = e + 1; indices = t.indices; waiting = nothing; balance = t.balance +ℤ pos cents }) r;
    }

-- a payment
pub record Credited (cents : ℕ) (t u : Tenancy) : Type 0 where
  pub amount : (1 ≤ cents) × (cents ≤ 1000000000)
  pub fits : balance_fits (t.balance -ℤ pos cents) ≡ true
  pub is : u ≡ record { state = t.state; dwelling = t.dwelling; next = t.next; indices = t.indices; waiting = t.waiting; balance = t.balance -ℤ pos cents }

amount-is : (cents : ℕ) → (leb 1 cents && leb cents 1000000000) ≡ true → (1 ≤ cents) × (cents ≤ 1000000000)
amount-is cents h = (grind (arith, nat_tests), grind (arith, nat_tests))

pub payment-accepted : (cents : ℕ) (t u : Tenancy) → paid cents t ≡ Ok u → Credited cents t u
payment-accepted cents t u h =
    let c = chained-ok (after t.state Payment) (λ s. cond (leb 1 cents && leb cents 1000000000) (with_balance (t.balance -ℤ pos cents) s t) (Err PaymentOutside)) u h in
    let r = payment-stays t.state c.0 (sym c.1) in
    let o = ok-if (leb 1 cents && leb cents 1000000000) (with_balance (t.balance -ℤ pos cents) c.0 t) PaymentOutside u c.2 in
    let w = with-balance (t.balance -ℤ pos cents) c.0 t u o.1 in
    record {
      amount = amount-is cents o.0;
      fits = w.0;
      is = w.1 ∙ ap (λ s. record { state = s; dwelling = t.dwelling; next = t.next; indices = t.indices; waiting = t.waiting; balance = t.balance -ℤ pos cents }) r;
    }
