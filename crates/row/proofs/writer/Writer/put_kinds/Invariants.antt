use Rattle.std.proofs.Common.{◌≡◌, ◌+◌, ◌++◌, map, take}
use Rattle.row.specs.Written.{written}
use Rattle.facts.specs.Numbers.{kind_number}
use Rattle.row.proofs.writer.Writer.put_kinds.Given as goal

abbrev pub invariant-loop-kind : goal.invariant-loop-kind
invariant-loop-kind l =
    (written l.self ≡ written l.initial.self ++ map kind_number (take l.kind-index l.kinds)) × (l.self.at ≡ l.initial.self.at + l.kind-index)
