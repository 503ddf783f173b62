-- What rows of numbers stand for.
use Rattle.std.specs.Prelude.{ℕ, ◌+◌, cond, List, [], ◌∷◌, length, take, drop, Some, None, Option, ◌==◌, slice_index}
use Rattle.figures.specs.Sums.{sum_of_ne, sum_of_nc}
use Rattle.facts.specs.declared.form.ProfileForm.{ProfileForm}
use Rattle.facts.specs.declared.form.FactsForm.{FactsForm}
use Rattle.account.specs.declared.event.OpeningForm.{OpeningForm}
use Rattle.words.specs.Numbers.{numbers_of}

-- six numbers, every other one from a place on
abbrev pub every_other : List ℕ → ℕ → List ℕ
every_other n at =
    slice_index n at ∷ slice_index n (at + 2) ∷ slice_index n (at + 4) ∷ slice_index n (at + 6) ∷ slice_index n (at + 8) ∷ slice_index n (at + 10) ∷ []

-- class, marks, power, exempt power and six kinds
abbrev pub profile_form : List ℕ → ProfileForm
profile_form n = record {
  class = slice_index n 0;
  marks = slice_index n 1;
  power = slice_index n 2;
  exempt = slice_index n 3;
  kinds = slice_index n 4 ∷ slice_index n 5 ∷ slice_index n 6 ∷ slice_index n 7 ∷ slice_index n 8 ∷ slice_index n 9 ∷ [];
}

-- 25 numbers: a profile, six circuits' kWh by day and by night in turn, months and two sums
abbrev pub facts_of : Option (List ℕ) → Option FactsForm
facts_of None = None
facts_of (Some n) =
    cond (length n == 25)
    (Some (record {
      profile = profile_form n;
      day = every_other n 10;
      night = every_other n 11;
      months = slice_index n 22;
      ne = sum_of_ne (slice_index n 23);
      nc = sum_of_nc (slice_index n 24);
    }))
    None

-- 23 numbers: a profile, the first month and the twelve registers' indices
abbrev pub opening_of : Option (List ℕ) → Option OpeningForm
opening_of None = None
opening_of (Some n) =
    cond (length n == 23)
    (Some (record {
      profile = profile_form n;
      first = slice_index n 10;
      indices = take 12 (drop 11 n);
    }))
    None

-- twelve numbers: the registers' indices
abbrev pub indices_of : Option (List ℕ) → Option (List ℕ)
indices_of None = None
indices_of (Some n) = cond (length n == 12) (Some n) None

-- what a text gives that has nothing but such numbers
abbrev pub facts_in : List ℕ → Option FactsForm
facts_in text = facts_of (numbers_of 26 text)

abbrev pub opening_in : List ℕ → Option OpeningForm
opening_in text = opening_of (numbers_of 26 text)

abbrev pub indices_in : List ℕ → Option (List ℕ)
indices_in text = indices_of (numbers_of 26 text)
