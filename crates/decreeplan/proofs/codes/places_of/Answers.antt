use Rattle.std.proofs.Common.{◌≡◌, is_some, sym, refl, ap, ◌∙◌, subst}
use Rattle.decreeplan.specs.Codes.{base_of, places_of, plan_at, Coded}
use Rattle.decreeplan.proofs.Correspondence.{coded-all, below_all}
use Rattle.decreeplan.proofs.codes.places_of.Goals as goal

pub returns : goal.returns
unfolding places_of
returns c =
    let code = c.args.code in
    let e : c.plan.result ≡ plan_at code = c.plan.ensures in
    record {
      value = e;
      coded = subst (Coded code) (sym e) (coded-all code (base_of code) refl);
      below = ap is_some e ∙ below_all code (base_of code) refl;
    }
