-- Registers: twelve an account, per circuit by day then by night.
use Rattle.std.specs.Prelude.{◌≡◌, ℕ, ◌+◌, ◌-◌, ◌*◌, ◌/◌, ◌%◌, ◌<◌, Bool, true, false, cond, List, map, Some, None, Option, ◌==◌, nat_lt, slice_index, slice_index_or}
use Rattle.std.specs.List.{range_with_len}
use Rattle.common.specs.Counts.{all_to}
use Rattle.facts.specs.declared.kind.Kind.{Kind}
use Rattle.facts.specs.declared.kind.Kind.TheVariants.{Unused, General, NightReserved, Interruptible}
use Rattle.facts.specs.Limits.{kwh_fits}
use Rattle.account.specs.declared.state.State.TheVariants.{Vacant, Running, Ready}
use Rattle.account.specs.declared.figure.Figure.{Figure}
use Rattle.account.specs.declared.figure.Figure.TheVariants.{Index, Waiting}
use Rattle.account.specs.declared.hours.Hours.{Hours}
use Rattle.account.specs.declared.hours.Hours.TheVariants.{Day, Night}

-- how many indices a register can show: six digits, and 0 alone where the circuit is unused
abbrev pub register_size : Kind → ℕ
register_size Unused = 1
register_size General = 1000000
register_size NightReserved = 1000000
register_size Interruptible = 1000000

-- the kWh from one index to another: (new − old) modulo the register's size
abbrev pub difference : ℕ → ℕ → ℕ → ℕ
difference size old new = (new + size - old) % size

-- the register of a circuit by day, and by night
abbrev pub register_of : Hours → ℕ → ℕ
register_of Day circuit = 2 * circuit
register_of Night circuit = 2 * circuit + 1

-- the kind of the circuit that register i belongs to
abbrev pub kind_of : List Kind → ℕ → Kind
kind_of kinds i = slice_index_or kinds (i / 2) Unused

-- what a register of such a circuit may have: an index that it can show; nothing waiting in a running account, and kWh within the circuit's limit in one that is ready
abbrev pub figure_fits : Figure → Kind → ℕ → Bool
figure_fits Index kind x = nat_lt x (register_size kind)
figure_fits (Waiting Vacant) kind x = false
figure_fits (Waiting Running) kind x = x == 0
figure_fits (Waiting Ready) kind x = kwh_fits kind x

-- register i has what it may
abbrev pub register_fits : Figure → List Kind → List ℕ → ℕ → Bool
register_fits figure kinds xs i = figure_fits figure (kind_of kinds i) (slice_index xs i)

-- each of twelve registers has
abbrev pub RegisterLimits : Figure → List Kind → List ℕ → Type 0
RegisterLimits figure kinds xs = (i : ℕ) → i < 12 → register_fits figure kinds xs i ≡ true

-- twelve numbers, one a register
abbrev pub twelve : (ℕ → ℕ) → List ℕ
twelve x = map x (range_with_len 0 12)

-- the figures of twelve registers, where each has what it may
abbrev pub figures_at : Figure → List Kind → List ℕ → Option (List ℕ)
figures_at figure kinds xs = cond (all_to (register_fits figure kinds xs) 12) (Some (twelve (λ i. slice_index xs i))) None
