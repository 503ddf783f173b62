-- The dwellings of the known cases, and their years.
use Rattle.std.specs.Prelude.{ℕ, List, [], ◌∷◌}
use Rattle.figures.specs.Sums.{sum_of_ne, sum_of_nc}
use Rattle.facts.specs.declared.form.ProfileForm.{ProfileForm}
use Rattle.facts.specs.declared.form.FactsForm.{FactsForm}

-- a number for circuit 0 and one for circuit 1; the other circuits have 0
abbrev pub circuits : ℕ → ℕ → List ℕ
circuits x y = x ∷ y ∷ 0 ∷ 0 ∷ 0 ∷ 0 ∷ []

-- class 0, X = 0; circuit 0 is general, circuit 1 of this kind, the others are unused
abbrev pub dwelling_with : ℕ → ℕ → ℕ → ProfileForm
dwelling_with power marks kind = record { class = 0; marks = marks; power = power; exempt = 0; kinds = circuits 1 kind }

-- twelve months with all N figures 10,000: kWh of circuit 0 by day and by night, and of circuit 1 by night
abbrev pub year_of : ProfileForm → ℕ → ℕ → ℕ → FactsForm
year_of p day night reserved = record {
  profile = p;
  day = circuits day 0;
  night = circuits night reserved;
  months = 12;
  ne = sum_of_ne 120000;
  nc = sum_of_nc 120000;
}

-- the year of a dwelling with the general circuit alone: power, marks, day kWh, night kWh
abbrev pub one_circuit : ℕ → ℕ → ℕ → ℕ → FactsForm
one_circuit power marks day night = year_of (dwelling_with power marks 0) day night 0

-- with a night-reserved circuit 1 beside it, whose night kWh come last
abbrev pub two_circuits : ℕ → ℕ → ℕ → ℕ → ℕ → FactsForm
two_circuits power marks day night reserved = year_of (dwelling_with power marks 2) day night reserved
