use Rattle.std.proofs.Common.{◌≡◌, ◌+◌, ◌*◌, ◌++◌, take}
use Rattle.std.specs.List.{flat_map}
use Rattle.row.specs.Written.{written}
use Rattle.row.specs.Bytes.{be32}
use Rattle.row.proofs.writer.Writer.put_words.Given as goal

abbrev pub invariant-loop-word : goal.invariant-loop-word
invariant-loop-word l =
    (written l.self ≡ written l.initial.self ++ flat_map be32 (take l.word-index l.words)) × (l.self.at ≡ l.initial.self.at + 4 * l.word-index)
