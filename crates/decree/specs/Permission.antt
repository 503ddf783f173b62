-- Which plans a dwelling may have.
use Rattle.std.specs.Prelude.{ℕ, Bool, true, false, not, ◌&&◌, ◌||◌, List, ◌==◌, slice_index, slice_index_or}
use Rattle.common.specs.Counts.{all_to, any_to}
use Rattle.facts.specs.declared.kind.Kind.{Kind}
use Rattle.facts.specs.declared.kind.Kind.TheVariants.{Unused, General, NightReserved, Interruptible}
use Rattle.facts.specs.declared.kind.Marks.{Marks}
use Rattle.facts.specs.Usage.{Dwelling, Usage}
use Rattle.decreeplan.specs.declared.plan.Base.{Base}
use Rattle.decreeplan.specs.declared.plan.Base.TheVariants.{Normal, TwoRate, Normal30, TwoRate30, Extended, Extended30}
use Rattle.decreeplan.specs.declared.plan.Place.{Place}
use Rattle.decreeplan.specs.declared.plan.Place.TheVariants.{Main, ExclusiveNight, PeakShed}

abbrev pub is_extended : Base → Bool
is_extended Normal = false
is_extended TwoRate = false
is_extended Normal30 = false
is_extended TwoRate30 = false
is_extended Extended = true
is_extended Extended30 = true

abbrev pub is_night_reserved : Kind → Bool
is_night_reserved Unused = false
is_night_reserved General = false
is_night_reserved NightReserved = true
is_night_reserved Interruptible = false

abbrev pub is_interruptible : Kind → Bool
is_interruptible Unused = false
is_interruptible General = false
is_interruptible NightReserved = false
is_interruptible Interruptible = true

-- the marks that a base needs: two-rate requested, and for an extended base the extension agreed too
abbrev pub marked : Base → Marks → Bool
marked Normal m = true
marked TwoRate m = m.two_rate
marked Normal30 m = true
marked TwoRate30 m = m.two_rate
marked Extended m = m.two_rate && m.extension
marked Extended30 m = m.two_rate && m.extension

-- one of the six circuits is night-reserved, with kWh or without
unfoldable pub has_night_reserved : List Kind → Bool
has_night_reserved kinds = any_to (λ i. is_night_reserved (slice_index_or kinds i Unused)) 6

-- an extended base also needs a night-reserved circuit
abbrev pub entitled : Base → Dwelling → Bool
entitled b d = marked b d.marks && (not (is_extended b) || has_night_reserved d.kinds)

-- a circuit of this kind and with these kWh by day may be on a place: always on the main meter; on the exclusive night meter if it is
-- night-reserved and has none by day, but with no extended base; on the peak-shed meter if it is interruptible
abbrev pub placed : Base → Place → Kind → ℕ → Bool
placed b Main k day = true
placed b ExclusiveNight k day = not (is_extended b) && is_night_reserved k && day == 0
placed b PeakShed k day = is_interruptible k

-- the same of circuit i
abbrev pub placed_at : Base → List Place → Usage → ℕ → Bool
placed_at b places u i = placed b (slice_index_or places i Main) (slice_index_or u.dwelling.kinds i Unused) (slice_index u.day i)

-- the base with these places is permitted
unfoldable pub permitted_with : Base → List Place → Usage → Bool
permitted_with b places u = entitled b u.dwelling && all_to (placed_at b places u) 6

-- what is asked of each circuit in turn, with the marks that the base needs
abbrev pub may_stand : Marks → Base → Place → Kind → ℕ → Bool
may_stand m b p k day = marked b m && placed b p k day
