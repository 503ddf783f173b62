-- The states of an account: their numbers, and which events each takes.
use Rattle.std.specs.Prelude.{ℕ, cond, Some, None, Ok, Err, Option, Result, ◌==◌}
use Rattle.account.specs.declared.fault.AccountFault.{AccountFault}
use Rattle.account.specs.declared.fault.AccountFault.TheVariants.{NotVacant, NotReady, NotClosable, Vacant as NoAccount}
use Rattle.account.specs.declared.event.EventKind.{EventKind}
use Rattle.account.specs.declared.event.EventKind.TheVariants.{Opening, Reading, Settlement, Payment, Closing}
use Rattle.account.specs.declared.state.State.{State}
use Rattle.account.specs.declared.state.State.TheVariants.{Vacant, Running, Ready}

-- no row has the number 0
abbrev pub state_number : State → ℕ
state_number Vacant = 0
state_number Running = 1
state_number Ready = 2

abbrev pub state_at : ℕ → Option State
state_at n = cond (n == 0) (Some Vacant) (cond (n == 1) (Some Running) (cond (n == 2) (Some Ready) None))

-- the state that follows an event, or why it is not taken
abbrev pub after : State → EventKind → Result State AccountFault
after Vacant Opening = Ok Running
after Vacant Reading = Err NoAccount
after Vacant Settlement = Err NoAccount
after Vacant Payment = Err NoAccount
after Vacant Closing = Err NoAccount
after Running Opening = Err NotVacant
after Running Reading = Ok Ready
after Running Settlement = Err NotReady
after Running Payment = Ok Running
after Running Closing = Ok Vacant
after Ready Opening = Err NotVacant
after Ready Reading = Ok Ready
after Ready Settlement = Ok Running
after Ready Payment = Ok Ready
after Ready Closing = Err NotClosable
