-- What is made of numbers keeps the limits.
use Rattle.std.proofs.Common.{◌≡◌, ℕ, ◌≤◌, true, false, cond, ◌&&◌, leb, List, map, length, get_or, Some, None, Ok, Err, Option, Result, sym, refl, ap, ◌∙◌, subst, arith}
use Rattle.std.proofs.lemmas.List.FromFn.{length-map-range_with_len, get_or-map-range_with_len}
use Rattle.std.proofs.lemmas.Bool.Decides.{nat_tests}
use Rattle.std.specs.List.{range_with_len}
use Rattle.common.specs.Counts.{all_to}
use Rattle.common.proofs.Counted.{all_to-at}
use Rattle.common.proofs.Outcomes.{err-not-ok, both_true, some-if, ok-if}
use Rattle.facts.specs.declared.kind.Class.{Class}
use Rattle.facts.specs.declared.kind.Kind.{Kind}
use Rattle.facts.specs.declared.kind.Marks.{Marks}
use Rattle.facts.specs.declared.form.FactsFault.{FactsFault}
use Rattle.facts.specs.declared.form.FactsFault.TheVariants.{OutsideLimits}
use Rattle.facts.specs.declared.form.ProfileForm.{ProfileForm}
use Rattle.facts.specs.Numbers.{class_at, marks_at}
use Rattle.facts.specs.Limits.{Powers, may_have}
use Rattle.facts.specs.Usage.{Dwelling}
use Rattle.facts.specs.Forms.{kind_known, kind_read, kinds_at, powers_fit, dwelling_with, dwelling_from, profile_made}
use Rattle.account.specs.declared.fault.AccountFault.{AccountFault}
use Rattle.account.specs.declared.fault.AccountFault.TheVariants.{BrokenRow}
use Rattle.account.specs.declared.figure.Figure.{Figure}
use Rattle.account.specs.declared.figure.Figure.TheVariants.{Index, Waiting}
use Rattle.account.specs.declared.form.AccountForm.{AccountForm}
use Rattle.account.specs.declared.state.State.{State}
use Rattle.account.specs.States.{state_at}
use Rattle.account.specs.Registers.{kind_of, figure_fits, register_fits, RegisterLimits, twelve, figures_at}
use Rattle.account.specs.Balances.{balance_fits}
use Rattle.account.specs.Tenancy.{Tenancy}
use Rattle.account.specs.Kept.{ProfileKept, Kept}
use Rattle.account.specs.Forms.{figures_made, profile_known, account_made}

powers-kept : (p x : ℕ) → powers_fit p x ≡ true → Powers p x
powers-kept p x h = (grind (arith, nat_tests), grind (arith, nat_tests), grind (arith, nat_tests))

six-kinds : (numbers : List ℕ) (ks : List Kind) → kinds_at numbers ≡ Some ks → length ks ≡ 6
six-kinds numbers ks h =
    let p = some-if (all_to (kind_known numbers) 6) (map (kind_read numbers) (range_with_len 0 6)) ks h in
    sym (ap length p.1) ∙ length-map-range_with_len (kind_read numbers) 0 6

with-kinds : (c : Class) (m : Marks) (p x : ℕ) (numbers : List ℕ) (ks : Option (List Kind)) (d : Dwelling) → may_have c m ≡ true → Powers p x → kinds_at numbers ≡ ks → dwelling_with c m p x ks ≡ Ok d → ProfileKept d
with-kinds c m p x numbers None d s w k h = err-not-ok OutsideLimits d h
with-kinds c m p x numbers (Some ks) d s w k h =
    let e : record { class = c; marks = m; power = p; exempt = x; kinds = ks } ≡ d = cc in
    subst ProfileKept e (record { powers = w; social = s; circuits = six-kinds numbers ks k })

from-numbers : (oc : Option Class) (om : Option Marks) (p x : ℕ) (numbers : List ℕ) (d : Dwelling) → dwelling_from oc om p x (kinds_at numbers) ≡ Ok d → ProfileKept d
from-numbers None om p x numbers d h = err-not-ok OutsideLimits d h
from-numbers (Some c) None p x numbers d h = err-not-ok OutsideLimits d h
from-numbers (Some c) (Some m) p x numbers d h =
    let o = ok-if (may_have c m && powers_fit p x) (dwelling_with c m p x (kinds_at numbers)) OutsideLimits d h in
    let b = both_true (may_have c m) (powers_fit p x) o.0 in
    with-kinds c m p x numbers (kinds_at numbers) d b.0 (powers-kept p x b.1) refl o.1

pub profile-keeps : (f : ProfileForm) (d : Dwelling) → profile_made f ≡ Ok d → ProfileKept d
profile-keeps f d h = from-numbers (class_at f.class) (marks_at f.marks) f.power f.exempt f.kinds d h

-- twelve figures, each of which its register may have
pub figures-keep : (f : Figure) (kinds : List Kind) (xs ys : List ℕ) → figures_at f kinds xs ≡ Some ys → (length ys ≡ 12) × RegisterLimits f kinds ys
figures-keep f kinds xs ys h =
    let p = some-if (all_to (register_fits f kinds xs) 12) (twelve (λ i. get_or xs i 0)) ys h in (
      sym (ap length p.1) ∙ length-map-range_with_len (λ i. get_or xs i 0) 0 12,
      λ i b. ap (λ ws. figure_fits f (kind_of kinds i) (get_or ws i 0)) (sym p.1) ∙ ap (figure_fits f (kind_of kinds i)) (get_or-map-range_with_len (λ i. get_or xs i 0) 0 12 i i 0 b (omega arith)) ∙ all_to-at (register_fits f kinds xs) 12 p.0 i b,
    )

registers-keep : (f : AccountForm) (s : State) (d : Dwelling) (oi ow : Option (List ℕ)) (t : Tenancy) → f.next ≤ 1200 → balance_fits f.balance ≡ true → ProfileKept d → figures_at Index d.kinds f.indices ≡ oi → figures_at (Waiting s) d.kinds f.waiting ≡ ow → figures_made f s d oi ow ≡ Ok t → Kept t
registers-keep f s d None ow t n b k ei ew h = err-not-ok BrokenRow t h
registers-keep f s d (Some i) None t n b k ei ew h = err-not-ok BrokenRow t h
registers-keep f s d (Some i) (Some w) t n b k ei ew h =
    let e : record { state = s; dwelling = d; next = f.next; indices = i; waiting = w; balance = f.balance } ≡ t = cc in
    let p = figures-keep Index d.kinds f.indices i ei in
    let q = figures-keep (Waiting s) d.kinds f.waiting w ew in
    subst Kept e (record { profile = k; month = n; indices = p.0; shown = p.1; waiting = q.0; unsettled = q.1; owed = b })

profile-known : (f : AccountForm) (os : Option State) (pd : Result Dwelling FactsFault) (t : Tenancy) → f.next ≤ 1200 → balance_fits f.balance ≡ true → profile_made f.profile ≡ pd → profile_known f os pd ≡ Ok t → Kept t
profile-known f None pd t n b p h = err-not-ok BrokenRow t h
profile-known f (Some s) (Err e) t n b p h = err-not-ok BrokenRow t h
profile-known f (Some s) (Ok d) t n b p h =
    registers-keep f s d (figures_at Index d.kinds f.indices) (figures_at (Waiting s) d.kinds f.waiting) t n b (profile-keeps f.profile d p) refl refl h

month-kept : (next : ℕ) → leb next 1200 ≡ true → next ≤ 1200
month-kept next h = grind (arith, nat_tests)

pub account-keeps : (f : AccountForm) (t : Tenancy) → account_made f ≡ Ok t → Kept t
account-keeps f t h =
    let o = ok-if (leb f.next 1200 && balance_fits f.balance) (profile_known f (state_at f.state) (profile_made f.profile)) BrokenRow t h in
    let b = both_true (leb f.next 1200) (balance_fits f.balance) o.0 in
    profile-known f (state_at f.state) (profile_made f.profile) t (month-kept f.next b.0) b.1 refl o.1

figures-broken : (f : AccountForm) (s : State) (d : Dwelling) (oi ow : Option (List ℕ)) (e : AccountFault) → figures_made f s d oi ow ≡ Err e → e ≡ BrokenRow
figures-broken f s d None ow e h = cc
figures-broken f s d (Some i) None e h = cc
figures-broken f s d (Some i) (Some w) e h = cc

profile-broken : (f : AccountForm) (os : Option State) (pd : Result Dwelling FactsFault) (e : AccountFault) → profile_known f os pd ≡ Err e → e ≡ BrokenRow
profile-broken f None pd e h = cc
profile-broken f (Some s) (Err d) e h = cc
profile-broken f (Some s) (Ok d) e h = figures-broken f s d (figures_at Index d.kinds f.indices) (figures_at (Waiting s) d.kinds f.waiting) e h

-- numbers that are no account are refused for one cause
pub account-broken : (f : AccountForm) (e : AccountFault) → account_made f ≡ Err e → e ≡ BrokenRow
account-broken f e h =
    elim (leb f.next 1200 && balance_fits f.balance) as (λ b. cond b (profile_known f (state_at f.state) (profile_made f.profile)) (Err BrokenRow) ≡ Err e → e ≡ BrokenRow)
    [ true ↦ profile-broken f (state_at f.state) (profile_made f.profile) e | false ↦ (λ z. cc) ] h
