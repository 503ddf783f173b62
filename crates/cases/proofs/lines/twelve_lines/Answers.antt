use Rattle.std.proofs.Common.{◌≡◌, ℕ, List, IfOk, string_bytes, ap, subst}
use Rattle.cases.proofs.Computed.{all_known}
use Rattle.cases.proofs.Joined.{lines_of}
use Rattle.cases.proofs.lines.twelve_lines.Goals as goal

pub returns : goal.returns
returns c = record {
  lines = subst (λ (bytes : List ℕ). IfOk c.lines.result (λ text. string_bytes text ≡ bytes)) (ap lines_of c.twelve_cases.ensures) c.lines.ensures;
  known = all_known;
}
