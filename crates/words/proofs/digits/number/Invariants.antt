use Rattle.std.proofs.Common.{◌≡◌, drop, Some}
use Rattle.words.specs.Numbers.{number_from}
use Rattle.words.proofs.digits.number.Given as goal

abbrev pub invariant-loop-digit : goal.invariant-loop-digit
invariant-loop-digit l = number_from (Some 0) l.word ≡ number_from (Some l.value) (drop l.digit-index l.word)
