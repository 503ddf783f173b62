-- How numbers, bytes and states are written.
use Rattle.std.specs.Prelude.{ℕ, ◌+◌, ◌/◌, ◌%◌, cond, List, [], ◌∷◌, ◌++◌, codes, decimal, ◌==◌, nat_lt}
use Rattle.std.specs.List.{flat_map}

-- a space, and a number behind it
abbrev pub spaced : ℕ → List ℕ
spaced n = codes " " ++ decimal n

-- numbers, each behind a space
abbrev pub spaced_all : List ℕ → List ℕ
spaced_all ns = flat_map spaced ns

-- the lower-case digit of a value below 16
abbrev pub hex_digit : ℕ → ℕ
hex_digit value = cond (nat_lt value 10) (48 + value) (87 + value)

-- a byte in two hexadecimal digits
abbrev pub hex_byte : ℕ → List ℕ
hex_byte byte = hex_digit (byte / 16) ∷ hex_digit (byte % 16) ∷ []

-- bytes in hexadecimal digits, two for each
abbrev pub hex_text : List ℕ → List ℕ
hex_text bytes = flat_map hex_byte bytes

-- the word of an account's state; a number that is no account's state is written as it is
abbrev pub state_text : ℕ → List ℕ
state_text number = cond (number == 1) (codes "running") (cond (number == 2) (codes "ready") (decimal number))
