-- What is written with a mark is read back.
use Rattle.std.proofs.Common.{◌≡◌, ℕ, List, Bor, Some, None, Option, refl, ap}
use Rattle.std.specs.Option.{option_map, unwrap_or}
use Rattle.blocks.specs.Marks.{mark_byte, held}

-- the bytes of a row behind its mark, or a blank behind the mark of none
pub held-marked : (row : Option (Bor (List ℕ))) (bytes blank : Bor (List ℕ)) → bytes ≡ unwrap_or row blank → held (mark_byte (option_map (λ r. r.now) row)) bytes.now ≡ option_map (λ r. r.now) row
held-marked None bytes blank e = refl
held-marked (Some row) bytes blank e = ap (λ (b : Bor (List ℕ)). Some b.now) e
