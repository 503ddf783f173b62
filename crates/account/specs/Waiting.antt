-- The kWh that wait to be settled.
use Rattle.std.specs.Prelude.{ℕ, List, map, slice_index}
use Rattle.std.specs.List.{range_with_len}
use Rattle.common.specs.Counts.{sum_to}
use Rattle.account.specs.declared.hours.Hours.{Hours}
use Rattle.account.specs.Registers.{register_of}
use Rattle.account.specs.Tenancy.{Tenancy}

-- on one circuit
abbrev pub kwh_on : Hours → Tenancy → ℕ → ℕ
kwh_on h t circuit = slice_index t.waiting (register_of h circuit)

-- on each of six circuits
abbrev pub waiting_on : Hours → Tenancy → List ℕ
waiting_on h t = map (kwh_on h t) (range_with_len 0 6)

-- on all of them together
abbrev pub waiting_in_all : Hours → Tenancy → ℕ
waiting_in_all h t = sum_to (kwh_on h t) 6
