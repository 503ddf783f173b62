-- Numbers as bytes, high byte first.
use Rattle.std.specs.Prelude.{ℕ, ◌+◌, ◌*◌, ◌/◌, ◌%◌, List, [], ◌∷◌, slice_index}

-- a number of 16, 32 and 64 bits
abbrev pub be16 : ℕ → List ℕ
be16 x = (x / 256 % 256) ∷ (x % 256) ∷ []

abbrev pub be32 : ℕ → List ℕ
be32 x = (x / 16777216 % 256) ∷ (x / 65536 % 256) ∷ (x / 256 % 256) ∷ (x % 256) ∷ []

abbrev pub be64 : ℕ → List ℕ
be64 x =
    (x / 72057594037927936 % 256) ∷ (x / 281474976710656 % 256) ∷ (x / 1099511627776 % 256) ∷ (x / 4294967296 % 256)
    ∷ (x / 16777216 % 256) ∷ (x / 65536 % 256) ∷ (x / 256 % 256) ∷ (x % 256) ∷ []

-- the number that stands at a place
abbrev pub at16 : List ℕ → ℕ → ℕ
at16 bytes p = slice_index bytes p * 256 + slice_index bytes (p + 1)

abbrev pub at32 : List ℕ → ℕ → ℕ
at32 bytes p =
    slice_index bytes p * 16777216 + slice_index bytes (p + 1) * 65536 + slice_index bytes (p + 2) * 256 + slice_index bytes (p + 3)

abbrev pub at64 : List ℕ → ℕ → ℕ
at64 bytes p =
    slice_index bytes p * 72057594037927936 + slice_index bytes (p + 1) * 281474976710656 + slice_index bytes (p + 2) * 1099511627776
    + slice_index bytes (p + 3) * 4294967296 + slice_index bytes (p + 4) * 16777216 + slice_index bytes (p + 5) * 65536 + slice_index bytes (p + 6) * 256
    + slice_index bytes (p + 7)
