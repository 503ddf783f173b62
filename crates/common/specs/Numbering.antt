-- What stands for a number: each such enum has one definition of its numbers.
use Rattle.std.specs.Prelude.{◌≡◌, ℕ, Some, None, Ok, Err, Option, Result, ◌≢◌}
use Rattle.common.specs.declared.UnknownNumber.{UnknownNumber}

-- o is what has the number n, or none where nothing has it
abbrev pub Numbered : {X : Type 0} → (X → ℕ) → ℕ → Option X → Type 0
Numbered number n (Some x) = number x ≡ n
Numbered {X} number n None = (x : X) → number x ≢ n

-- what was found for a number, or that nothing was
abbrev pub found_at : {X : Type 0} → ℕ → Option X → Result X UnknownNumber
found_at n (Some x) = Ok x
found_at n None = Err (record { number = n })
