use Rattle.std.proofs.Common.{◌≡◌, ◌-◌, ◌*◌, ◌≤◌, length, drop}
use Rattle.house.specs.Reading.{read_of, read_on}
use Rattle.house.specs.Houses.{lines_of}
use Rattle.house.proofs.house.House.from_bytes.Given as goal

abbrev pub invariant-loop-line : goal.invariant-loop-line
invariant-loop-line l =
    (21 * l.house.count ≤ length l.bytes)
    × (read_of l.bytes ≡ read_on (9 - l.house.count) (lines_of l.house) (drop (21 * l.house.count) l.bytes))

abbrev pub decreases-loop-line : goal.decreases-loop-line
decreases-loop-line l = 9 - l.house.count
