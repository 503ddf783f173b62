use Rattle.std.proofs.Common.{◌≡◌, ◌++◌, drop, string_bytes}
use Rattle.cases.proofs.Joined.{lines_of}
use Rattle.cases.proofs.lines.lines.Given as goal

abbrev pub invariant-loop-case : goal.invariant-loop-case
invariant-loop-case l = string_bytes l.text ++ lines_of (drop l.case-index l.cases) ≡ lines_of l.cases
