-- Kinds of households: what is agreed with each, what it uses in a month and how often it is billed.
use Rattle.std.specs.Prelude.{ℕ, cond, List, [], ◌∷◌, ◌==◌}
use Rattle.facts.specs.declared.form.ProfileForm.{ProfileForm}
use Rattle.tenants.specs.declared.household.Household.{Household}
use Rattle.tenants.specs.declared.household.Household.TheVariants.{Flat, House, HeatedHouse, ProtectedFlat, ProtectedFamily, Villa, Shop, Workshop}

abbrev pub household_at : ℕ → Household
household_at n =
    cond (n == 0) Flat (cond (n == 1) House (cond (n == 2) HeatedHouse (cond (n == 3) ProtectedFlat (cond (n == 4) ProtectedFamily (cond (n == 5) Villa (cond (n == 6) Shop Workshop))))))

-- class, marks, power, exempt power and the kinds of six circuits
abbrev pub agreed : ℕ → ℕ → ℕ → ℕ → List ℕ → ProfileForm
agreed class marks power exempt kinds = record { class = class; marks = marks; power = power; exempt = exempt; kinds = kinds }

abbrev pub profile_of : Household → ProfileForm
profile_of Flat = agreed 0 0 37 0 (1 ∷ 0 ∷ 0 ∷ 0 ∷ 0 ∷ 0 ∷ [])
profile_of House = agreed 0 1 92 0 (1 ∷ 2 ∷ 0 ∷ 0 ∷ 0 ∷ 0 ∷ [])
profile_of HeatedHouse = agreed 0 3 125 0 (1 ∷ 2 ∷ 3 ∷ 0 ∷ 0 ∷ 0 ∷ [])
profile_of ProtectedFlat = agreed 0 4 41 0 (1 ∷ 0 ∷ 0 ∷ 0 ∷ 0 ∷ 0 ∷ [])
profile_of ProtectedFamily = agreed 0 5 69 0 (1 ∷ 3 ∷ 0 ∷ 0 ∷ 0 ∷ 0 ∷ [])
profile_of Villa = agreed 0 3 300 120 (1 ∷ 1 ∷ 2 ∷ 3 ∷ 0 ∷ 0 ∷ [])
profile_of Shop = agreed 1 1 250 0 (1 ∷ 1 ∷ 3 ∷ 0 ∷ 0 ∷ 0 ∷ [])
profile_of Workshop = agreed 1 3 630 50 (1 ∷ 1 ∷ 2 ∷ 3 ∷ 1 ∷ 1 ∷ [])

-- kWh a month, per circuit by day then by night
abbrev pub monthly_of : Household → List ℕ
monthly_of Flat = 110 ∷ 45 ∷ 0 ∷ 0 ∷ 0 ∷ 0 ∷ 0 ∷ 0 ∷ 0 ∷ 0 ∷ 0 ∷ 0 ∷ []
monthly_of House = 190 ∷ 70 ∷ 0 ∷ 210 ∷ 0 ∷ 0 ∷ 0 ∷ 0 ∷ 0 ∷ 0 ∷ 0 ∷ 0 ∷ []
monthly_of HeatedHouse = 240 ∷ 110 ∷ 0 ∷ 520 ∷ 330 ∷ 610 ∷ 0 ∷ 0 ∷ 0 ∷ 0 ∷ 0 ∷ 0 ∷ []
monthly_of ProtectedFlat = 60 ∷ 25 ∷ 0 ∷ 0 ∷ 0 ∷ 0 ∷ 0 ∷ 0 ∷ 0 ∷ 0 ∷ 0 ∷ 0 ∷ []
monthly_of ProtectedFamily = 150 ∷ 80 ∷ 40 ∷ 90 ∷ 0 ∷ 0 ∷ 0 ∷ 0 ∷ 0 ∷ 0 ∷ 0 ∷ 0 ∷ []
monthly_of Villa = 480 ∷ 260 ∷ 310 ∷ 140 ∷ 0 ∷ 730 ∷ 420 ∷ 660 ∷ 0 ∷ 0 ∷ 0 ∷ 0 ∷ []
monthly_of Shop = 900 ∷ 200 ∷ 450 ∷ 120 ∷ 260 ∷ 310 ∷ 0 ∷ 0 ∷ 0 ∷ 0 ∷ 0 ∷ 0 ∷ []
monthly_of Workshop = 7600 ∷ 2100 ∷ 3900 ∷ 900 ∷ 0 ∷ 4200 ∷ 1500 ∷ 1900 ∷ 5200 ∷ 800 ∷ 300 ∷ 6100 ∷ []

-- so many months behind the next one a reading is billed
abbrev pub billed_after : Household → ℕ
billed_after Flat = 9
billed_after House = 9
billed_after HeatedHouse = 9
billed_after ProtectedFlat = 9
billed_after ProtectedFamily = 9
billed_after Villa = 9
billed_after Shop = 3
billed_after Workshop = 3
