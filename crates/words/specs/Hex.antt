-- Bytes in hexadecimal digits.
use Rattle.std.specs.Prelude.{ℕ, ◌+◌, ◌-◌, ◌*◌, ◌/◌, ◌%◌, Bool, cond, ◌&&◌, ◌||◌, List, map, length, codes, ◌==◌, nat_le, slice_index}
use Rattle.std.specs.List.{range_with_len, list_all}
use Rattle.words.specs.Words.{is_word}

-- 0 to 9, a to f, A to F
abbrev pub is_hex_digit : ℕ → Bool
is_hex_digit b = (nat_le 48 b && nat_le b 57) || ((nat_le 97 b && nat_le b 102) || (nat_le 65 b && nat_le b 70))

abbrev pub digit_of : ℕ → ℕ
digit_of b =
    cond (nat_le 48 b && nat_le b 57) (b - 48) (cond (nat_le 97 b && nat_le b 102) (b - 97 + 10) (cond (nat_le 65 b && nat_le b 70) (b - 65 + 10) 0))

abbrev pub are_hex_digits : List ℕ → Bool
are_hex_digits bytes = list_all is_hex_digit bytes

-- `-` for no bytes, or two digits for each; the empty word is neither
abbrev pub is_hex : List ℕ → Bool
is_hex word = is_word word (codes "-") || (nat_le 1 (length word) && length word % 2 == 0 && are_hex_digits word)

-- the byte of two digits
abbrev pub byte_of : ℕ → ℕ → ℕ
byte_of high low = 16 * digit_of high + digit_of low

-- the byte of the i-th pair of digits
abbrev pub byte_at : List ℕ → ℕ → ℕ
byte_at text i = 16 * digit_of (slice_index text (2 * i)) + digit_of (slice_index text (2 * i + 1))

-- the bytes of a text, a pair of digits each
abbrev pub bytes_of : List ℕ → List ℕ
bytes_of text = map (byte_at text) (range_with_len 0 (length text / 2))
