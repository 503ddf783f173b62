-- The limits of a profile and of a period's facts.
use Rattle.std.specs.Prelude.{◌≡◌, ℕ, ◌*◌, ◌<◌, ◌≤◌, Bool, true, not, List, ◌==◌, nat_le, slice_index, slice_index_or}
use Rattle.facts.specs.declared.kind.Class.{Class}
use Rattle.facts.specs.declared.kind.Class.TheVariants.{Residential, Professional}
use Rattle.facts.specs.declared.kind.Kind.{Kind}
use Rattle.facts.specs.declared.kind.Kind.TheVariants.{Unused, General, NightReserved, Interruptible}
use Rattle.facts.specs.declared.kind.Marks.{Marks}

-- power from 1 to 2,500 tenths of a kVA, and at most that much of it exempt
abbrev pub Powers : ℕ → ℕ → Type 0
Powers power exempt = (1 ≤ power) × (power ≤ 2500) × (exempt ≤ power)

-- only a residential customer can be a protected one
abbrev pub may_have : Class → Marks → Bool
may_have Residential m = true
may_have Professional m = not m.protected

-- kWh of one circuit, by day or by night: 0 if it is unused, else up to 100,000
abbrev pub kwh_fits : Kind → ℕ → Bool
kwh_fits Unused kwh = kwh == 0
kwh_fits General kwh = nat_le kwh 100000
kwh_fits NightReserved kwh = nat_le kwh 100000
kwh_fits Interruptible kwh = nat_le kwh 100000

-- the kWh of n circuits of these kinds
abbrev pub KwhLimits : ℕ → List Kind → List ℕ → Type 0
KwhLimits n kinds kwh = (i : ℕ) → i < n → kwh_fits (slice_index_or kinds i Unused) (slice_index kwh i) ≡ true

-- 1 to 12 months, with sums of at most 99,999 for each of them
abbrev pub Period : ℕ → ℕ → ℕ → Type 0
Period months ne nc = (1 ≤ months) × (months ≤ 12) × (ne ≤ 99999 * months) × (nc ≤ 99999 * months)
