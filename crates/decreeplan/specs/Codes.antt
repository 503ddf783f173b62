-- Plans, and the codes that they go by.
use Rattle.std.specs.Prelude.{◌≡◌, ℕ, ◌+◌, ◌*◌, ◌/◌, ◌%◌, ◌^◌, cond, List, map, length, Some, None, Option, ◌==◌, ◌≢◌, slice_index_or}
use Rattle.std.specs.List.{range_with_len}
use Rattle.std.specs.Option.{option_map, unwrap_or}
use Rattle.common.specs.Counts.{sum_to}
use Rattle.decreeplan.specs.declared.plan.Base.{Base}
use Rattle.decreeplan.specs.declared.plan.Base.TheVariants.{Normal, TwoRate, Normal30, TwoRate30, Extended, Extended30}
use Rattle.decreeplan.specs.declared.plan.Place.{Place}
use Rattle.decreeplan.specs.declared.plan.Place.TheVariants.{Main, ExclusiveNight, PeakShed}

abbrev pub base_number : Base → ℕ
base_number Normal = 0
base_number TwoRate = 1
base_number Normal30 = 2
base_number TwoRate30 = 3
base_number Extended = 4
base_number Extended30 = 5

abbrev pub base_at : ℕ → Option Base
base_at n =
    cond (n == 0) (Some Normal)
    (cond (n == 1) (Some TwoRate)
    (cond (n == 2) (Some Normal30)
    (cond (n == 3) (Some TwoRate30) (cond (n == 4) (Some Extended) (cond (n == 5) (Some Extended30) None)))))

abbrev pub place_number : Place → ℕ
place_number Main = 0
place_number ExclusiveNight = 1
place_number PeakShed = 2

abbrev pub place_at : ℕ → Option Place
place_at n = cond (n == 0) (Some Main) (cond (n == 1) (Some ExclusiveNight) (cond (n == 2) (Some PeakShed) None))

-- the code of a base and six places: 729 for each base number, and the number of circuit i's place times 3^i
unfoldable pub code_of : Base → List Place → ℕ
code_of b places = 729 * base_number b + sum_to (λ i. place_number (slice_index_or places i Main) * 3 ^ i) 6

-- and back: the base is how often 729 goes into the code
abbrev pub base_of : ℕ → Option Base
base_of code = base_at (code / 729)

-- the place of a digit to the base three
abbrev pub digit_place : ℕ → Place
digit_place d = unwrap_or (place_at d) Main

-- the place of circuit i is digit i of the code to the base three
abbrev pub place_in : ℕ → ℕ → Place
place_in code i = digit_place (code / 3 ^ i % 3)

unfoldable pub places_of : ℕ → List Place
places_of code = map (place_in code) (range_with_len 0 6)

-- the base of a code with its places
abbrev pub plan_at : ℕ → Option (Base × List Place)
plan_at code = option_map (λ b. (b, places_of code)) (base_of code)

-- codes and plans correspond: the plan of a code has six places and this code, and no other plan has it; where there is none, no plan has it
abbrev pub Coded : ℕ → Option (Base × List Place) → Type 0
Coded code (Some p) =
    (length p.1 ≡ 6) × (code_of p.0 p.1 ≡ code)
    × ((b : Base) (places : List Place) → length places ≡ 6 → code_of b places ≡ code → (b ≡ p.0) × (places ≡ p.1))
Coded code None = (b : Base) (places : List Place) → length places ≡ 6 → code_of b places ≢ code
