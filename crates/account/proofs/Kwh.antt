-- Kilowatt hours of one register, within the limits of its circuit.
use Rattle.std.proofs.Common.{◌≡◌, ℕ, ◌+◌, ◌/◌, ◌<◌, ◌≤◌, true, eqb, List, get_or, ap, subst, arith}
use Rattle.std.proofs.lemmas.List.{get_or-replicate}
use Rattle.std.proofs.lemmas.Bool.Decides.{nat_tests}
use Rattle.std.proofs.lemmas.Nat.{mod_below}
use Rattle.facts.specs.declared.kind.Kind.{Kind}
use Rattle.facts.specs.declared.kind.Kind.TheVariants.{Unused, General, NightReserved, Interruptible}
use Rattle.facts.specs.Limits.{kwh_fits}
use Rattle.account.specs.declared.figure.Figure.TheVariants.{Waiting}
use Rattle.account.specs.declared.hours.Hours.{Hours}
use Rattle.account.specs.declared.hours.Hours.TheVariants.{Day, Night}
use Rattle.account.specs.declared.state.State.{State}
use Rattle.account.specs.declared.state.State.TheVariants.{Vacant, Running, Ready}
use Rattle.account.specs.Registers.{register_size, register_of, kind_of, register_fits, RegisterLimits}
use Rattle.account.specs.Tenancy.{Tenancy}
use Rattle.account.specs.Steps.{counted, joined, join_fits, nothing}

pub kwh-most : (k : Kind) (x : ℕ) → kwh_fits k x ≡ true → x ≤ 100000
kwh-most Unused x h = grind (arith, nat_tests)
kwh-most General x h = grind (arith, nat_tests)
kwh-most NightReserved x h = grind (arith, nat_tests)
kwh-most Interruptible x h = grind (arith, nat_tests)

-- no kWh are within every limit
pub no-kwh-fit : (k : Kind) (x : ℕ) → eqb x 0 ≡ true → kwh_fits k x ≡ true
no-kwh-fit Unused x h = h
no-kwh-fit General x h = grind (arith, nat_tests)
no-kwh-fit NightReserved x h = grind (arith, nat_tests)
no-kwh-fit Interruptible x h = grind (arith, nat_tests)

-- what a register counts joins what waits in it
pub kwh-join : (k : Kind) (x d : ℕ) → kwh_fits k x ≡ true → d < register_size k → x + d ≤ 100000 → kwh_fits k (x + d) ≡ true
kwh-join Unused x d h b m = grind (arith, nat_tests)
kwh-join General x d h b m = grind (arith, nat_tests)
kwh-join NightReserved x d h b m = grind (arith, nat_tests)
kwh-join Interruptible x d h b m = grind (arith, nat_tests)

-- what waits is within its circuit's limit, whatever the state
pub waits-within : (s : State) (kinds : List Kind) (waiting : List ℕ) (i : ℕ) → register_fits (Waiting s) kinds waiting i ≡ true → kwh_fits (kind_of kinds i) (get_or waiting i 0) ≡ true
waits-within Vacant kinds waiting i h = absurd (let z : ◌≡◌ {A = ℕ} 0 1 = cc in omega arith)
waits-within Running kinds waiting i h = no-kwh-fit (kind_of kinds i) (get_or waiting i 0) h
waits-within Ready kinds waiting i h = h

pub size-positive : (k : Kind) → 0 < register_size k
size-positive Unused = omega arith
size-positive General = omega arith
size-positive NightReserved = omega arith
size-positive Interruptible = omega arith

-- what waits after a reading that fits is within its circuit's limit
pub joined-within : (t : Tenancy) (new : List ℕ) (i : ℕ) → register_fits (Waiting t.state) t.dwelling.kinds t.waiting i ≡ true → join_fits t new i ≡ true → kwh_fits (kind_of t.dwelling.kinds i) (joined t new i) ≡ true
joined-within t new i h f =
    let k : Kind = kind_of t.dwelling.kinds i in
    let m : joined t new i ≤ 100000 = grind (arith, nat_tests) in
    kwh-join k (get_or t.waiting i 0) (counted t new i) (waits-within t.state t.dwelling.kinds t.waiting i h) (mod_below _ (register_size k) (size-positive k)) m

-- a running account may have nothing waiting
pub nothing-waits : (kinds : List Kind) (i : ℕ) → i < 12 → register_fits (Waiting Running) kinds nothing i ≡ true
nothing-waits kinds i h = ap (λ x. eqb x 0) (get_or-replicate 12 i 0 0 h)

pub register-below : (h : Hours) (circuit : ℕ) → circuit < 6 → register_of h circuit < 12
register-below Day circuit b = omega arith
register-below Night circuit b = omega arith

pub circuit-of : (h : Hours) (circuit : ℕ) → register_of h circuit / 2 ≡ circuit
circuit-of Day circuit = omega arith
circuit-of Night circuit = omega arith

-- what waits on a circuit is within its limit
pub circuit-within : (s : State) (kinds : List Kind) (waiting : List ℕ) → RegisterLimits (Waiting s) kinds waiting → (h : Hours) (circuit : ℕ) → circuit < 6 → kwh_fits (get_or kinds circuit Unused) (get_or waiting (register_of h circuit) 0) ≡ true
circuit-within s kinds waiting w h circuit b =
    subst (λ n. kwh_fits (get_or kinds n Unused) (get_or waiting (register_of h circuit) 0) ≡ true) (circuit-of h circuit)
    (waits-within s kinds waiting (register_of h circuit) (w (register_of h circuit) (register-below h circuit b)))

pub circuit-most : (s : State) (kinds : List Kind) (waiting : List ℕ) → RegisterLimits (Waiting s) kinds waiting → (h : Hours) (circuit : ℕ) → circuit < 6 → get_or waiting (register_of h circuit) 0 ≤ 100000
circuit-most s kinds waiting w h circuit b = kwh-most (get_or kinds circuit Unused) (get_or waiting (register_of h circuit) 0) (circuit-within s kinds waiting w h circuit b)
