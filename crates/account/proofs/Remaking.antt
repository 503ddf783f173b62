-- The numbers of an account make that account again.
use Rattle.std.proofs.Common.{◌≡◌, ℕ, ◌+◌, ◌*◌, ◌<◌, ◌≤◌, Bool, true, false, cond, ◌&&◌, leb, List, map, length, get_or, is_some, Some, Ok, Err, Option, Result, unwrap_or, sym, refl, ap, ◌∙◌, arith}
use Rattle.std.proofs.lemmas.List.{get_or-map}
use Rattle.std.proofs.lemmas.List.FromFn.{fill_by_all}
use Rattle.std.proofs.lemmas.Bool.Decides.{nat_tests}
use Rattle.common.specs.Counts.{all_to}
use Rattle.common.proofs.Counted.{all_to-from}
use Rattle.facts.specs.declared.kind.Class.{Class}
use Rattle.facts.specs.declared.kind.Class.TheVariants.{Residential, Professional}
use Rattle.facts.specs.declared.kind.Kind.{Kind}
use Rattle.facts.specs.declared.kind.Kind.TheVariants.{Unused, General, NightReserved, Interruptible}
use Rattle.facts.specs.declared.kind.Marks.{Marks}
use Rattle.facts.specs.declared.form.FactsFault.{FactsFault}
use Rattle.facts.specs.Numbers.{class_number, class_at, kind_number, kind_at, bit, marks_number, marks_at}
use Rattle.facts.specs.Limits.{Powers, may_have}
use Rattle.facts.specs.Usage.{Dwelling}
use Rattle.facts.specs.Forms.{kind_known, kind_read, kinds_at, powers_fit, dwelling_from, profile_made}
use Rattle.account.specs.declared.fault.AccountFault.TheVariants.{BrokenRow}
use Rattle.account.specs.declared.figure.Figure.{Figure}
use Rattle.account.specs.declared.figure.Figure.TheVariants.{Index, Waiting}
use Rattle.account.specs.declared.state.State.{State}
use Rattle.account.specs.declared.state.State.TheVariants.{Vacant, Running, Ready}
use Rattle.account.specs.States.{state_number, state_at}
use Rattle.account.specs.Registers.{register_fits, RegisterLimits, figures_at}
use Rattle.account.specs.Balances.{balance_fits}
use Rattle.account.specs.Tenancy.{Tenancy}
use Rattle.account.specs.Kept.{ProfileKept, Kept}
use Rattle.account.specs.Forms.{figures_made, registers_made, profile_known, account_made, profile_form_of, form_of}

state-back : (s : State) → state_at (state_number s) ≡ Some s
state-back Vacant = refl
state-back Running = refl
state-back Ready = refl

class_back : (c : Class) → class_at (class_number c) ≡ Some c
class_back Residential = refl
class_back Professional = refl

marks-back : (a b c : Bool) → marks_at (bit a + 2 * bit b + 4 * bit c) ≡ Some (record { two_rate = a; extension = b; protected = c })
marks-back false false false = refl
marks-back false false true = refl
marks-back false true false = refl
marks-back false true true = refl
marks-back true false false = refl
marks-back true false true = refl
marks-back true true false = refl
marks-back true true true = refl

kind-back : (k : Kind) → kind_at (kind_number k) ≡ Some k
kind-back Unused = refl
kind-back General = refl
kind-back NightReserved = refl
kind-back Interruptible = refl

kind-at : (ks : List Kind) (i : ℕ) → i < length ks → kind_at (get_or (map kind_number ks) i 0) ≡ Some (get_or ks i Unused)
kind-at ks i h = ap kind_at (get_or-map kind_number ks i Unused 0 h) ∙ kind-back (get_or ks i Unused)

kinds-back : (ks : List Kind) → length ks ≡ 6 → kinds_at (map kind_number ks) ≡ Some ks
kinds-back ks n =
    let known : all_to (kind_known (map kind_number ks)) 6 ≡ true = all_to-from (kind_known (map kind_number ks)) 6 (λ i h. ap is_some (kind-at ks i (omega arith))) in
    let same : ks ≡ _ = fill_by_all (kind_read (map kind_number ks)) ks 6 Unused n (λ i h. sym (ap (λ o. unwrap_or o Unused) (kind-at ks i (omega arith)))) in
    rw known (ap Some (sym same))

powers-fit : (p x : ℕ) → Powers p x → powers_fit p x ≡ true
powers-fit p x h = grind (arith, nat_tests)

from-known : (c : Class) (m : Marks) (p x : ℕ) (ks : List Kind) (oc : Option Class) (om : Option Marks) (ok : Option (List Kind)) → oc ≡ Some c → om ≡ Some m → ok ≡ Some ks → (may_have c m && powers_fit p x) ≡ true → dwelling_from oc om p x ok ≡ Ok (record { class = c; marks = m; power = p; exempt = x; kinds = ks })
from-known c m p x ks oc om ok ec em ek t = rw (ec, em, ek, t)

two-true : (a b : Bool) → a ≡ true → b ≡ true → (a && b) ≡ true
two-true a b p q = rw (p, q)

profile-remade : (d : Dwelling) → ProfileKept d → profile_made (profile_form_of d) ≡ Ok d
profile-remade d k =
    from-known d.class d.marks d.power d.exempt d.kinds (class_at (class_number d.class)) (marks_at (marks_number d.marks)) (kinds_at (map kind_number d.kinds))
    (class_back d.class) (marks-back d.marks.two_rate d.marks.extension d.marks.protected) (kinds-back d.kinds k.circuits)
    (two-true (may_have d.class d.marks) (powers_fit d.power d.exempt) k.social (powers-fit d.power d.exempt k.powers))

figures-remade : (f : Figure) (kinds : List Kind) (xs : List ℕ) → length xs ≡ 12 → RegisterLimits f kinds xs → figures_at f kinds xs ≡ Some xs
figures-remade f kinds xs n l = rw (all_to-from (register_fits f kinds xs) 12 l) (ap Some (sym (fill_by_all (λ i. get_or xs i 0) xs 12 0 n (λ i h. refl))))

figures-known : (t : Tenancy) (oi ow : Option (List ℕ)) → oi ≡ Some t.indices → ow ≡ Some t.waiting → figures_made (form_of t) t.state t.dwelling oi ow ≡ Ok t
figures-known t oi ow ei ew = rw (ei, ew)

made-known : (t : Tenancy) (b : Bool) (os : Option State) (pd : Result Dwelling FactsFault) → b ≡ true → os ≡ Some t.state → pd ≡ Ok t.dwelling → registers_made (form_of t) t.state t.dwelling ≡ Ok t → cond b (profile_known (form_of t) os pd) (Err BrokenRow) ≡ Ok t
made-known t b os pd eb es ed r = rw (eb, es, ed) r

month-fits : (next : ℕ) → next ≤ 1200 → leb next 1200 ≡ true
month-fits next h = grind (arith, nat_tests)

pub account-remade : (t : Tenancy) → Kept t → account_made (form_of t) ≡ Ok t
account-remade t k =
    made-known t (leb t.next 1200 && balance_fits t.balance) (state_at (state_number t.state)) (profile_made (profile_form_of t.dwelling))
    (two-true (leb t.next 1200) (balance_fits t.balance) (month-fits t.next k.month) k.owed)
    (state-back t.state) (profile-remade t.dwelling k.profile)
    (figures-known t (figures_at Index t.dwelling.kinds t.indices) (figures_at (Waiting t.state) t.dwelling.kinds t.waiting)
    (figures-remade Index t.dwelling.kinds t.indices k.indices k.shown)
    (figures-remade (Waiting t.state) t.dwelling.kinds t.waiting k.waiting k.unsettled))
