-- What an accepted event leaves keeps the limits of an account.
use Rattle.std.proofs.Common.{◌≡◌, ℕ, ◌<◌, ◌≤◌, true, List, length, get_or, Some, None, Ok, Err, Option, Result, sym, refl, ap, ◌∙◌, subst, arith}
use Rattle.std.proofs.lemmas.List.FromFn.{length-map-range_with_len, get_or-map-range_with_len}
use Rattle.common.specs.Outcomes.{chained}
use Rattle.common.proofs.Counted.{all_to-at}
use Rattle.common.proofs.Outcomes.{err-not-ok}
use Rattle.facts.specs.Limits.{kwh_fits}
use Rattle.facts.specs.Forms.{made}
use Rattle.account.specs.declared.event.Event.TheVariants.{Open, Read, Settle, Pay, Close}
use Rattle.account.specs.declared.event.OpeningForm.{OpeningForm}
use Rattle.account.specs.declared.fault.AccountFault.{AccountFault}
use Rattle.account.specs.declared.fault.AccountFault.TheVariants.{Vacant}
use Rattle.account.specs.declared.figure.Figure.TheVariants.{Index, Waiting}
use Rattle.account.specs.Registers.{kind_of, register_fits, RegisterLimits}
use Rattle.account.specs.Balances.{balance_fits}
use Rattle.account.specs.Tenancy.{Tenancy}
use Rattle.account.specs.Kept.{ProfileKept, Kept, KeptAt}
use Rattle.account.specs.Steps.{nothing, joined, join_fits, opened, read_to, settled, paid, closed, standing, found}
use Rattle.account.proofs.Kwh.{nothing-waits, joined-within}
use Rattle.account.proofs.Keeping.{profile-keeps, figures-keep}
use Rattle.accountlaw.specs.Limits.{Steps-keep-limits}
use Rattle.accountlaw.proofs.Accepted.{opening-accepted, reading-accepted, settlement-accepted, payment-accepted}

opening-keeps : (f : OpeningForm) (o : Option Tenancy) (u : Tenancy) → opened f (standing o) ≡ Ok u → Kept u
opening-keeps f o u h =
    let a = opening-accepted f (standing o) u h in
    let p = figures-keep Index u.dwelling.kinds f.indices u.indices a.shown in
    record {
      profile = profile-keeps f.profile u.dwelling a.profile;
      month = omega (arith, a.month);
      indices = p.0;
      shown = p.1;
      waiting = ap length a.waiting;
      unsettled = λ i b. ap (λ w. register_fits (Waiting u.state) u.dwelling.kinds w i) a.waiting ∙ ap (λ s. register_fits (Waiting s) u.dwelling.kinds nothing i) a.state ∙ nothing-waits u.dwelling.kinds i b;
      owed = ap balance_fits a.balance;
    }

reading-keeps : (new : List ℕ) (t u : Tenancy) → Kept t → read_to new t ≡ Ok u → Kept u
reading-keeps new t u k h =
    let a = reading-accepted new t u h in
    let p = figures-keep Index t.dwelling.kinds new u.indices a.shown in
    let w : (i : ℕ) → i < 12 → kwh_fits (kind_of t.dwelling.kinds i) (get_or u.waiting i 0) ≡ true = λ i b. ap (λ xs. kwh_fits (kind_of t.dwelling.kinds i) (get_or xs i 0)) a.waiting ∙ ap (kwh_fits (kind_of t.dwelling.kinds i)) (get_or-map-range_with_len (joined t u.indices) 0 12 i i 0 b (omega arith)) ∙ joined-within t u.indices i (k.unsettled i b) (all_to-at (join_fits t u.indices) 12 a.fit i b) in
    record {
      profile = subst ProfileKept (sym a.dwelling) k.profile;
      month = subst (λ n. n ≤ 1200) (sym a.next) k.month;
      indices = p.0;
      shown = subst (λ d. RegisterLimits Index d.kinds u.indices) (sym a.dwelling) p.1;
      waiting = ap length a.waiting ∙ length-map-range_with_len (joined t u.indices) 0 12;
      unsettled = subst (λ s. RegisterLimits (Waiting s) u.dwelling.kinds u.waiting) (sym a.state) (subst (λ d. (i : ℕ) → i < 12 → kwh_fits (kind_of d.kinds i) (get_or u.waiting i 0) ≡ true) (sym a.dwelling) w);
      owed = ap balance_fits a.balance ∙ k.owed;
    }

settlement-keeps : (e cents : ℕ) (t u : Tenancy) → Kept t → settled e cents t ≡ Ok u → Kept u
settlement-keeps e cents t u k h =
    let a = settlement-accepted e cents t u h in
    subst Kept (sym a.is)
    (record { profile = k.profile; month = omega (arith, a.last); indices = k.indices; shown = k.shown; waiting = refl; unsettled = nothing-waits t.dwelling.kinds; owed = a.fits })

payment-keeps : (cents : ℕ) (t u : Tenancy) → Kept t → paid cents t ≡ Ok u → Kept u
payment-keeps cents t u k h =
    let a = payment-accepted cents t u h in
    subst Kept (sym a.is)
    (record { profile = k.profile; month = k.month; indices = k.indices; shown = k.shown; waiting = k.waiting; unsettled = k.unsettled; owed = a.fits })

-- what an event on the account that stands leaves
on-account : (o : Option Tenancy) (f : Tenancy → Result Tenancy AccountFault) (u : Tenancy) → KeptAt o → ((t : Tenancy) → Kept t → f t ≡ Ok u → Kept u) → chained (found o) f ≡ Ok u → Kept u
on-account None f u k keeps h = err-not-ok Vacant u h
on-account (Some t) f u k keeps h = keeps t k h

some-made : (r : Result Tenancy AccountFault) (u : Tenancy) → made Some r ≡ Ok (Some u) → r ≡ Ok u
some-made (Ok t) u h = cc
some-made (Err e) u h = err-not-ok e (Some u) h

none_made : (r : Result Unit AccountFault) (u : Tenancy) → made (λ _. None) r ≡ Ok (Some u) → Kept u
none_made (Ok t) u h = absurd (let z : ◌≡◌ {A = ℕ} 0 1 = cc in omega arith)
none_made (Err e) u h = err-not-ok e (Some u) h

pub steps-keep-limits : Steps-keep-limits
steps-keep-limits (Open form) o u k h = opening-keeps form o u (some-made (opened form (standing o)) u h)
steps-keep-limits (Read new) o u k h = on-account o (read_to new) u k (λ t. reading-keeps new t u) (some-made (chained (found o) (read_to new)) u h)
steps-keep-limits (Settle e cents) o u k h = on-account o (settled e cents) u k (λ t. settlement-keeps e cents t u) (some-made (chained (found o) (settled e cents)) u h)
steps-keep-limits (Pay cents) o u k h = on-account o (paid cents) u k (λ t. payment-keeps cents t u) (some-made (chained (found o) (paid cents)) u h)
steps-keep-limits Close o u k h = none_made (chained (found o) closed) u h
