-- Numbers drawn from a seed, each for a place: SplitMix64 without its running state.
use Rattle.std.specs.Prelude.{◌≡◌, cond, ℕ, ◌+◌, ◌*◌, ◌/◌, ◌%◌, ◌^◌, eqb, List, length, slice_index_or}
use Rattle.std.specs.Int.Bits.{bit_xor}

-- the high bits join the low ones, and a product modulo 2^64 spreads them
abbrev pub stirred : ℕ → ℕ → ℕ → ℕ
stirred x shift factor = (bit_xor x (x / 2 ^ shift) * factor) % 2 ^ 64

unfoldable pub mixed : ℕ → ℕ
mixed x =
    let y : ℕ = stirred (stirred x 30 0xbf58476d1ce4e5b9) 27 0x94d049bb133111eb in
    bit_xor y (y / 2 ^ 31)

-- the number of a place
unfoldable pub drawn : ℕ → ℕ → ℕ
drawn seed place = mixed ((seed + (place * 0x9e3779b97f4a7c15) % 2 ^ 64) % 2 ^ 64)

-- one below a count; 0 where the count is 0
abbrev pub drawn_below : ℕ → ℕ → ℕ → ℕ
drawn_below seed place count = cond (eqb count 0) 0 (drawn seed place % count)

-- x is what stands in a list at the number drawn below its length; d is told of nothing, since the list is not empty
abbrev pub DrawnFrom : {X : Type 0} → ℕ → ℕ → List X → X → Type 0
DrawnFrom {X} seed place xs x = (d : X) → x ≡ slice_index_or xs (drawn_below seed place (length xs)) d
