use Rattle.std.proofs.Common.{◌≡◌, ◌+◌, ◌-◌, drop, replicate, sym, ap, ◌∙◌, arith}
use Rattle.std.proofs.lemmas.List.{length-set, drop-set-lt, drop-drop, drop-replicate}
use Rattle.words.proofs.list.Numbers.push.Goals as goal

-- the places behind the number that comes are 0, as they were
pub invariant_of-self : goal.invariant_of-self
invariant_of-self c =
    let count = c.self.inside.count in
    let values = c.self.inside.values in
    let h = c.self.invariant in
    let one_less : 26 - count - 1 ≡ 26 - (count + 1) = omega arith in
    let zeros = sym (drop-drop 1 count values) ∙ ap (drop 1) h.2 ∙ drop-replicate 1 (26 - count) 0 ∙ ap (λ k. replicate k 0) one_less in (
      omega (arith, c.if-self-ge26.false),
      length-set values count c.args.value ∙ h.1,
      drop-set-lt (count + 1) values count c.args.value (omega arith) ∙ zeros,
    )
