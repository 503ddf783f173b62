use Rattle.std.proofs.Common.{◌≡◌, ◌*◌, length, take, drop}
use Rattle.std.specs.List.{flat_map}
use Rattle.house.specs.Writing.{line_bytes}
use Rattle.house.specs.Houses.{lines_of}
use Rattle.house.proofs.house.House.write.Given as goal

abbrev pub invariant-loop-line : goal.invariant-loop-line
invariant-loop-line l =
    (length l.place ≡ 171) × (l.at ≡ 21 * l.line-index) × (take l.at l.place ≡ flat_map line_bytes (take l.line-index (lines_of l.self)))
    × (drop l.at l.place ≡ drop l.at l.initial.place)
