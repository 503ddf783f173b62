use Rattle.std.proofs.Common.{◌<◌, [], ◌∷◌, map, length, get_or, take, rules}
use Rattle.std.proofs.lemmas.List.{map_more, append_assoc, take_all}
use Rattle.row.specs.Written.{written}
use Rattle.facts.specs.Numbers.{kind_number}
use Rattle.facts.specs.declared.kind.Kind.TheVariants.{Unused}
use Rattle.row.proofs.writer.Writer.put_kinds.Goals as goal

pub loop-kind-preserved : goal.loop-kind-preserved
loop-kind-preserved c =
    let h : c.loop-kind.kind-index < length c.args.kinds.now = search rules in
    let m = map_more kind_number c.args.kinds.now c.loop-kind.kind-index Unused h in
    let a = append_assoc (written c.args.self.now) (map kind_number (take c.loop-kind.kind-index c.args.kinds.now)) (kind_number (get_or c.args.kinds.now c.loop-kind.kind-index Unused) ∷ []) in
    (cc, search rules)

pub returns : goal.returns
returns c = record { text = search (rules, take_all); at = search rules }
