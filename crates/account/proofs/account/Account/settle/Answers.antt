use Rattle.std.proofs.Common.{◌≡◌, true, sym, subst, arith, rules}
use Rattle.account.specs.declared.figure.Figure.TheVariants.{Waiting}
use Rattle.account.specs.Registers.{register_fits, RegisterLimits}
use Rattle.account.specs.Steps.{nothing}
use Rattle.account.proofs.Kwh.{nothing-waits}
use Rattle.account.proofs.Following.{settlement-runs}
use Rattle.account.proofs.account.Account.settle.Goals as goal

pub invariant_of-result : goal.invariant_of-result
invariant_of-result c =
    let a = c.args.self in
    let s = settlement-runs a.state c.in_ok-state.state c.in_ok-state.ensures in
    let w : RegisterLimits (Waiting c.in_ok-state.state) a.profile.kinds nothing = λ i h. subst (λ s. register_fits (Waiting s) a.profile.kinds nothing i ≡ true) (sym s) (nothing-waits a.profile.kinds i h) in
    record { month = omega arith; shown = a.shown; unsettled = w; owed = search rules }
