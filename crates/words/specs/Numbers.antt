-- Numbers in decimal digits.
use Rattle.std.specs.Prelude.{ℕ, zero, suc, ◌+◌, ◌-◌, ◌*◌, ◌^◌, Bool, cond, ◌&&◌, List, [], ◌∷◌, length, Some, None, Option, ◌==◌, nat_le, nat_lt}
use Rattle.std.specs.Option.{option_map}
use Rattle.words.specs.Words.{word_of, rest_of}

abbrev pub is_digit : ℕ → Bool
is_digit byte = nat_le 48 byte && nat_le byte 57

-- value with one digit more behind it, where the byte is a digit and that fits 64 bits
abbrev pub digit_more : ℕ → ℕ → Option ℕ
digit_more value byte = cond (is_digit byte && nat_lt (value * 10 + (byte - 48)) (2 ^ 64)) (Some (value * 10 + (byte - 48))) None

-- value with these digits behind it
abbrev pub number_from : Option ℕ → List ℕ → Option ℕ
number_from None bytes = None
number_from (Some value) [] = Some value
number_from (Some value) (byte ∷ bytes) = number_from (digit_more value byte) bytes

-- 1 to 20 digits that fit 64 bits
abbrev pub number_of : List ℕ → Option ℕ
number_of word = cond (nat_le 1 (length word) && nat_le (length word) 20) (number_from (Some 0) word) None

-- no word is left
abbrev pub is_end : List ℕ → Bool
is_end line = length (word_of line) == 0

-- a number before others, where all are numbers
abbrev pub with_number : Option ℕ → Option (List ℕ) → Option (List ℕ)
with_number None o = None
with_number (Some x) o = option_map (λ xs. x ∷ xs) o

-- the numbers of a line that has nothing but numbers, at most n of them
unfoldable pub numbers_of : ℕ → List ℕ → Option (List ℕ)
numbers_of zero line = cond (is_end line) (Some []) None
numbers_of (suc n) line = cond (is_end line) (Some []) (with_number (number_of (word_of line)) (numbers_of n (rest_of line)))
