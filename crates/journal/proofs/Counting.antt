-- How many rows stand after one is set or removed.
use Rattle.std.proofs.Common.{◌≡◌, ℕ, ◌+◌, ◌-◌, ◌<◌, ◌≤◌, List, length, get_or, set, Some, None, Option, refl, arith}
use Rattle.board.specs.Meaning.{Row, one, standing}
use Rattle.board.proofs.Standing.{standing-set}
use Rattle.blocks.specs.Marks.{mark_byte}

-- a mark's byte is how many rows it stands for
pub mark-one : (row : Option Row) → mark_byte row ≡ one row
mark-one None = refl
mark-one (Some row) = refl

-- `count` rows stood, r is set at n, and there are `new` rows more and `old` less
module _ (rows : List (Option Row)) (n count new old : ℕ) (r : Option Row) (inside : n < length rows) (is : count ≡ standing rows) (adds : new ≡ one r) (stood : old ≡ one (get_or rows n None)) where
  pub count-enough : old ≤ count + new
  count-enough = omega (arith, standing-set rows n r inside)

  pub count-after : count + new - old ≡ standing (set rows n r)
  count-after = omega (arith, standing-set rows n r inside)
