use Rattle.std.proofs.Common.{◌≡◌, get_or, ap, ◌∙◌, zero-add, arith}
use Rattle.std.proofs.lemmas.Grind.{common_steps}
use Rattle.std.proofs.lemmas.List.FromFn.{get_or-map-range_with_len}
use Rattle.facts.specs.declared.kind.Kind.TheVariants.{Unused}
use Rattle.facts.specs.Limits.{kwh_fits}
use Rattle.account.specs.Tenancy.{tenancy_of}
use Rattle.account.specs.Waiting.{kwh_on, waiting_on}
use Rattle.account.proofs.Kwh.{circuit-within}
use Rattle.account.proofs.account.Account.waiting_on.Goals as goal

pub returns : goal.returns
returns c =
    let a = c.args.self.now in
    let h = c.args.hours in
    let v : c.from_fn.result ≡ waiting_on h (tenancy_of a) = grind (arith, common_steps) in
    record {
      value = v;
      limits = λ k b. ap (λ xs. kwh_fits (get_or a.profile.kinds k Unused) (get_or xs k 0)) v ∙ ap (kwh_fits (get_or a.profile.kinds k Unused)) (get_or-map-range_with_len (kwh_on h (tenancy_of a)) 0 6 k k 0 b (zero-add k)) ∙ circuit-within a.state a.profile.kinds a.waiting a.unsettled h k b;
    }
