use Rattle.std.proofs.Common.{refl, sym, ◌∙◌}
use Rattle.facts.specs.declared.kind.Kind.TheVariants.{Unused}
use Rattle.decree.specs.Permission.{is_night_reserved, has_night_reserved}
use Rattle.decree.proofs.Permitted.{any-listed, listed-same, each-kind}
use Rattle.decree.proofs.permission.any_night_reserved.Goals as goal

pub returns : goal.returns
unfolding has_night_reserved
returns c =
    c.contains.ensures.value ∙ listed-same _ is_night_reserved c.args.kinds.now (each-kind _ refl refl refl refl)
    ∙ sym (any-listed is_night_reserved c.args.kinds.now Unused c.told-kinds)
