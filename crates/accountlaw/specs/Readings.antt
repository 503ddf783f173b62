-- Readings, one after the other.
use Rattle.std.specs.Prelude.{◌≡◌, ℕ, ◌+◌, ◌%◌, ◌<◌, List, [], ◌∷◌, Ok, Result, slice_index}
use Rattle.common.specs.Outcomes.{chained}
use Rattle.account.specs.declared.fault.AccountFault.{AccountFault}
use Rattle.account.specs.Registers.{register_size, kind_of, difference}
use Rattle.account.specs.Tenancy.{Tenancy}
use Rattle.account.specs.Kept.{Kept}
use Rattle.account.specs.Steps.{read_to}

-- the account after readings of these indices, each of them accepted
abbrev pub readings : List (List ℕ) → Tenancy → Result Tenancy AccountFault
readings [] t = Ok t
readings (new ∷ more) t = chained (read_to new t) (readings more)

-- the sum of a register's differences over readings, each from the index before
abbrev pub differences : ℕ → ℕ → ℕ → List (List ℕ) → ℕ
differences size i old [] = 0
differences size i old (new ∷ more) = difference size old (slice_index new i) + differences size i (slice_index new i) more

-- over any list of accepted readings the sum of a register's differences is the last index less the first, modulo its size, and has joined what waits
abbrev pub AddsUp : ℕ → List (List ℕ) → Tenancy → Tenancy → ℕ → Type 0
AddsUp size rs t u i =
    (differences size i (slice_index t.indices i) rs % size ≡ difference size (slice_index t.indices i) (slice_index u.indices i))
    × (slice_index u.waiting i ≡ slice_index t.waiting i + differences size i (slice_index t.indices i) rs)

abbrev pub Registers-add-up : Type 0
Registers-add-up =
    (rs : List (List ℕ)) (t u : Tenancy) → Kept t → readings rs t ≡ Ok u → (i : ℕ) → i < 12 → AddsUp (register_size (kind_of t.dwelling.kinds i)) rs t u i
