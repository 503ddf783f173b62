-- The state that follows each kind of event.
use Rattle.std.proofs.Common.{◌≡◌, Ok, refl}
use Rattle.account.specs.declared.event.EventKind.TheVariants.{Opening, Reading, Settlement, Payment}
use Rattle.account.specs.declared.state.State.{State}
use Rattle.account.specs.declared.state.State.TheVariants.{Vacant, Running, Ready}
use Rattle.account.specs.States.{after}

pub opening-runs : (s next : State) → Ok next ≡ after s Opening → next ≡ Running
opening-runs Vacant next h = cc
opening-runs Running next h = cc
opening-runs Ready next h = cc

pub reading-readies : (s next : State) → Ok next ≡ after s Reading → next ≡ Ready
reading-readies Vacant next h = cc
reading-readies Running next h = cc
reading-readies Ready next h = cc

pub settlement-runs : (s next : State) → Ok next ≡ after s Settlement → next ≡ Running
settlement-runs Vacant next h = cc
settlement-runs Running next h = cc
settlement-runs Ready next h = cc

pub payment-stays : (s next : State) → Ok next ≡ after s Payment → next ≡ s
payment-stays Vacant next h = cc
payment-stays Running next h = cc
payment-stays Ready next h = cc

pub settlement-was-ready : (s next : State) → Ok next ≡ after s Settlement → s ≡ Ready
settlement-was-ready Vacant next h = cc
settlement-was-ready Running next h = cc
settlement-was-ready Ready next h = refl
