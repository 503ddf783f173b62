use Rattle.std.proofs.Common.{◌≡◌, ℕ, ◌<◌, map, get_or, sym, ◌∙◌, rules, arith}
use Rattle.std.proofs.lemmas.List.{ext_get_or, get_or-map, length-map}
use Rattle.facts.specs.declared.kind.Kind.TheVariants.{Unused}
use Rattle.facts.specs.Numbers.{kind_number}
use Rattle.account.proofs.form.kind_numbers.Goals as goal

pub returns : goal.returns
returns c =
    let kinds = c.args.kinds.now in
    let at : (k : ℕ) → k < 6 → get_or c.map.result k 0 ≡ kind_number (get_or kinds k Unused) = λ k h. let t = c.map.ensures.items.at k Unused 0 h in search rules in
    let n = c.map.ensures.items.long in
    let m = length-map kinds kind_number in
    ext_get_or 0 c.map.result (map kind_number kinds) (omega arith) (λ k h. at k (omega arith) ∙ sym (get_or-map kind_number kinds k Unused 0 (omega arith)))
