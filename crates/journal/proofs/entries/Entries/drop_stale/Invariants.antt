use Rattle.std.proofs.Common.{◌≡◌, vec_items}
use Rattle.journal.proofs.Sweeping.{Sweeping}
use Rattle.journal.proofs.entries.Entries.drop_stale.Given as goal

abbrev pub invariant-loop-place : goal.invariant-loop-place
invariant-loop-place l =
    (l.self.capacity ≡ l.initial.self.capacity) × (l.self.blocks.count ≡ l.initial.self.blocks.count)
    × Sweeping l.initial.self.capacity l.used (vec_items l.initial.self.blocks.memory) (vec_items l.self.blocks.memory) l.self.latest l.next l.place
