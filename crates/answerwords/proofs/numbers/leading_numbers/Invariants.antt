use Rattle.std.proofs.Common.{◌≡◌, ◌-◌, length, take}
use Rattle.std.specs.Option.{option_map}
use Rattle.answerwords.specs.Front.{front_of}
use Rattle.answerwords.proofs.Fronts.{behind}
use Rattle.answerwords.proofs.numbers.leading_numbers.Given as goal

abbrev pub invariant-loop-i : goal.invariant-loop-i
invariant-loop-i g l =
    (length l.numbers ≡ g.row.N) × (front_of g.row.N l.text ≡ option_map (behind (take l.i l.numbers)) (front_of (g.row.N - l.i) l.rest))
