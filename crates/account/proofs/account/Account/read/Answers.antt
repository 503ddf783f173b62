use Rattle.std.proofs.Common.{◌≡◌, true, sym, subst, rules}
use Rattle.account.specs.declared.figure.Figure.TheVariants.{Waiting}
use Rattle.account.specs.declared.state.State.TheVariants.{Ready}
use Rattle.account.specs.Registers.{register_fits, RegisterLimits}
use Rattle.account.proofs.Following.{reading-readies}
use Rattle.account.proofs.account.Account.read.Goals as goal

pub invariant_of-result : goal.invariant_of-result
invariant_of-result c =
    let a = c.args.self in
    let s = reading-readies a.state c.in_ok-state.state c.in_ok-state.ensures in
    let r : RegisterLimits (Waiting Ready) a.profile.kinds c.in_ok-waiting.waiting = search rules in
    let w : RegisterLimits (Waiting c.in_ok-state.state) a.profile.kinds c.in_ok-waiting.waiting = λ i h. subst (λ s. register_fits (Waiting s) a.profile.kinds c.in_ok-waiting.waiting i ≡ true) (sym s) (r i h) in
    record { month = a.month; shown = search rules; unsettled = w; owed = search rules }
