-- Accounts as plain figures, which definitions of events go by.
use Rattle.std.specs.Prelude.{ℕ, List, ℤ}
use Rattle.facts.specs.Usage.{Dwelling, dwelling_of}
use Rattle.account.specs.declared.state.State.{State}
use Rattle.account.specs.declared.account.Account.{Account}

-- a tenancy: the plain figures of an account
pub record Tenancy : Type 0 where
  pub state : State
  pub dwelling : Dwelling
  pub next : ℕ
  pub indices : List ℕ
  pub waiting : List ℕ
  pub balance : ℤ

abbrev pub tenancy_of : Account → Tenancy
tenancy_of a = record {
  state = a.state;
  dwelling = dwelling_of a.profile;
  next = a.next;
  indices = a.indices;
  waiting = a.waiting;
  balance = a.balance;
}
