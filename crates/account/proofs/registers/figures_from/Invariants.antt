use Rattle.std.proofs.Common.{◌≡◌, ℕ, ◌<◌, true, length, get_or}
use Rattle.common.specs.Counts.{all_to}
use Rattle.account.specs.Registers.{register_fits}
use Rattle.account.proofs.registers.figures_from.Given as goal

abbrev pub invariant-loop-i : goal.invariant-loop-i
invariant-loop-i l =
    (length l.figures ≡ 12) × ((k : ℕ) → k < l.i → get_or l.figures k 0 ≡ get_or l.numbers k 0)
    × (all_to (register_fits l.figure l.kinds l.numbers) l.i ≡ true)
