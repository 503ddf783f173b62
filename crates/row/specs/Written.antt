-- What of a row is written so far.
use Rattle.std.specs.Prelude.{ℕ, List, take}
use Rattle.row.specs.declared.writer.Writer.{Writer}

unfoldable pub written : Writer → List ℕ
written w = take w.at w.bytes
