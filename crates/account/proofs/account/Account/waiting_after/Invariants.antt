use Rattle.std.proofs.Common.{◌≡◌, ℕ, ◌<◌, true, length, get_or}
use Rattle.common.specs.Counts.{all_to}
use Rattle.account.specs.Tenancy.{tenancy_of}
use Rattle.account.specs.Steps.{joined, join_fits}
use Rattle.account.proofs.account.Account.waiting_after.Given as goal

abbrev pub invariant-loop-i : goal.invariant-loop-i
invariant-loop-i l =
    (length l.waiting ≡ 12) × ((k : ℕ) → k < l.i → get_or l.waiting k 0 ≡ joined (tenancy_of l.self) l.indices k)
    × (all_to (join_fits (tenancy_of l.self) l.indices) l.i ≡ true)
