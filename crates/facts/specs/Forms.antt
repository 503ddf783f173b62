-- Which numbers are a profile, and which are facts.
use Rattle.std.specs.Prelude.{ℕ, ◌*◌, Bool, cond, ◌&&◌, List, map, is_some, Some, None, Ok, Err, Option, Result, nat_le, slice_index, slice_index_or}
use Rattle.std.specs.List.{range_with_len}
use Rattle.std.specs.Option.{unwrap_or}
use Rattle.common.specs.Counts.{all_to}
use Rattle.facts.specs.declared.kind.Class.{Class}
use Rattle.facts.specs.declared.kind.Kind.{Kind}
use Rattle.facts.specs.declared.kind.Kind.TheVariants.{Unused}
use Rattle.facts.specs.declared.kind.Marks.{Marks}
use Rattle.facts.specs.declared.form.ProfileForm.{ProfileForm}
use Rattle.facts.specs.declared.form.FactsForm.{FactsForm}
use Rattle.facts.specs.declared.form.FactsFault.{FactsFault}
use Rattle.facts.specs.declared.form.FactsFault.TheVariants.{OutsideLimits}
use Rattle.facts.specs.Numbers.{class_at, kind_at, marks_at}
use Rattle.facts.specs.Limits.{may_have, kwh_fits}
use Rattle.facts.specs.Usage.{Dwelling, Usage}

-- what was made, by its plain figures, or the fault
abbrev pub made : {X Y E : Type 0} → (X → Y) → Result X E → Result Y E
made figures (Ok x) = Ok (figures x)
made figures (Err e) = Err e

-- the kind of circuit i, where its number is one
abbrev pub kind_known : List ℕ → ℕ → Bool
kind_known numbers i = is_some (kind_at (slice_index numbers i))

abbrev pub kind_read : List ℕ → ℕ → Kind
kind_read numbers i = unwrap_or (kind_at (slice_index numbers i)) Unused

-- the kinds of six circuits, where each number is one
abbrev pub kinds_at : List ℕ → Option (List Kind)
kinds_at numbers = cond (all_to (kind_known numbers) 6) (Some (map (kind_read numbers) (range_with_len 0 6))) None

-- the kWh of circuit i are within its limit
abbrev pub circuit_fits : List Kind → List ℕ → ℕ → Bool
circuit_fits kinds kwh i = kwh_fits (slice_index_or kinds i Unused) (slice_index kwh i)

-- the kWh of six circuits, where each is within its limit
abbrev pub kwh_at : List Kind → List ℕ → Option (List ℕ)
kwh_at kinds numbers = cond (all_to (circuit_fits kinds numbers) 6) (Some numbers) None

abbrev pub powers_fit : ℕ → ℕ → Bool
powers_fit power exempt = nat_le 1 power && nat_le power 2500 && nat_le exempt power

abbrev pub period_fits : ℕ → ℕ → ℕ → Bool
period_fits months ne nc = nat_le 1 months && nat_le months 12 && nat_le ne (99999 * months) && nat_le nc (99999 * months)

-- the dwelling with these kinds, where they are known
abbrev pub dwelling_with : Class → Marks → ℕ → ℕ → Option (List Kind) → Result Dwelling FactsFault
dwelling_with c m power exempt None = Err OutsideLimits
dwelling_with c m power exempt (Some ks) =
    Ok (record { class = c; marks = m; power = power; exempt = exempt; kinds = ks })

-- the same, where class and marks are known and fit each other, and the powers fit
abbrev pub dwelling_from : Option Class → Option Marks → ℕ → ℕ → Option (List Kind) → Result Dwelling FactsFault
dwelling_from None m power exempt ks = Err OutsideLimits
dwelling_from (Some c) None power exempt ks = Err OutsideLimits
dwelling_from (Some c) (Some m) power exempt ks =
    cond (may_have c m && powers_fit power exempt) (dwelling_with c m power exempt ks) (Err OutsideLimits)

-- what making a profile answers
abbrev pub profile_made : ProfileForm → Result Dwelling FactsFault
profile_made f = dwelling_from (class_at f.class) (marks_at f.marks) f.power f.exempt (kinds_at f.kinds)

-- the usage of these figures, where the dwelling and the kWh are within their limits and the period fits
abbrev pub usage_from : FactsForm → Result Dwelling FactsFault → Result Usage FactsFault
usage_from f (Err e) = Err e
usage_from f (Ok d) =
    cond (is_some (kwh_at d.kinds f.day) && is_some (kwh_at d.kinds f.night) && period_fits f.months f.ne.0 f.nc.0)
    (Ok (record { dwelling = d; day = f.day; night = f.night; months = f.months; ne = f.ne.0; nc = f.nc.0 })) (Err OutsideLimits)

-- what making facts answers
abbrev pub facts_made : FactsForm → Result Usage FactsFault
facts_made f = usage_from f (profile_made f.profile)
