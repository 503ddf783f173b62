use Rattle.std.proofs.Common.{refl, sym, subst}
use Rattle.std.specs.Fn.{FnOnceReturnsAt}
use Rattle.run.specs.declared.call.Call.TheVariants.{Settle}
use Rattle.run.specs.Asked.{Mapped}
use Rattle.run.proofs.call.Call.map_sheet.Goals as goal

pub returns-in-Settle : goal.returns-in-Settle
returns-in-Settle g c =
    let settled = Settle c.in-Settle.number c.in-Settle.end c.make.result in
    subst (λ x. Mapped (FnOnceReturnsAt g.F.FnOnce c.args.make) x settled) (sym c.in-Settle.is) (c.make.result, (_, c.make.ensures, refl), refl)
