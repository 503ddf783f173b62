-- Fields: a tag, a two-byte length and a content of that length, high byte first.
use Rattle.std.specs.Prelude.{ℕ, ◌+◌, ◌*◌, ◌/◌, ◌%◌, Bool, ◌||◌, List, [], ◌∷◌, ◌++◌, length, take, drop, nat_lt, slice_index}

-- a number in two bytes, and in four
abbrev pub be16 : ℕ → List ℕ
be16 n = n / 256 % 256 ∷ n % 256 ∷ []

abbrev pub be32 : ℕ → List ℕ
be32 n = n / 16777216 % 256 ∷ n / 65536 % 256 ∷ n / 256 % 256 ∷ n % 256 ∷ []

-- the bytes of a field
abbrev pub field_bytes : ℕ → List ℕ → List ℕ
field_bytes tag content = tag ∷ (be16 (length content) ++ content)

-- the length that the field's second and third byte give
abbrev pub size_of : List ℕ → ℕ
size_of bs = slice_index bs 1 * 256 + slice_index bs 2

-- the bytes end within the field
abbrev pub cut_short : List ℕ → Bool
cut_short bs = nat_lt (length bs) 3 || nat_lt (length bs) (3 + size_of bs)

abbrev pub content_of : List ℕ → List ℕ
content_of bs = take (size_of bs) (drop 3 bs)

abbrev pub behind_of : List ℕ → List ℕ
behind_of bs = drop (3 + size_of bs) bs
