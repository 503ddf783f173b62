use Rattle.std.proofs.Common.{◌≡◌, true, sym, subst, rules}
use Rattle.account.specs.declared.figure.Figure.TheVariants.{Waiting}
use Rattle.account.specs.Registers.{register_fits, RegisterLimits}
use Rattle.account.proofs.Following.{payment-stays}
use Rattle.account.proofs.account.Account.pay.Goals as goal

pub invariant_of-result : goal.invariant_of-result
invariant_of-result c =
    let a = c.args.self in
    let s = payment-stays a.state c.in_ok-state.state c.in_ok-state.ensures in
    let w : RegisterLimits (Waiting c.in_ok-state.state) a.profile.kinds a.waiting = λ i h. subst (λ s. register_fits (Waiting s) a.profile.kinds a.waiting i ≡ true) (sym s) (a.unsettled i h) in
    record { month = a.month; shown = a.shown; unsettled = w; owed = search rules }
