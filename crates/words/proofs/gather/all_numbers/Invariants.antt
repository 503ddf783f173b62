use Rattle.std.proofs.Common.{◌≡◌, ◌-◌, ◌≤◌, ◌++◌, length}
use Rattle.std.specs.Option.{option_map}
use Rattle.words.specs.Numbers.{numbers_of}
use Rattle.words.proofs.gather.all_numbers.Given as goal

abbrev pub invariant-loop-word : goal.invariant-loop-word
invariant-loop-word l =
    (length l.numbers ≤ 26) × (numbers_of 26 l.line ≡ option_map (λ xs. l.numbers ++ xs) (numbers_of (26 - length l.numbers) l.rest))

abbrev pub decreases-loop-word : goal.decreases-loop-word
decreases-loop-word l = 26 - length l.numbers
