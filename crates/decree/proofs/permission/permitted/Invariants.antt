use Rattle.std.proofs.Common.{◌≡◌, ◌/◌, ◌^◌, true}
use Rattle.common.specs.Counts.{all_to}
use Rattle.facts.specs.Usage.{usage_of}
use Rattle.decreeplan.specs.Codes.{places_of}
use Rattle.decree.proofs.Permitted.{stands_at}
use Rattle.decree.proofs.permission.permitted.Given as goal

abbrev pub invariant-loop-i : goal.invariant-loop-i
invariant-loop-i l = (all_to (stands_at l.base (places_of l.code) (usage_of l.facts)) l.i ≡ true) × (l.rest ≡ l.code / 3 ^ l.i)
