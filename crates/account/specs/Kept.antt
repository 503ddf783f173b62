-- What every account keeps.
use Rattle.std.specs.Prelude.{◌≡◌, ◌≤◌, true, length, Some, None, Option}
use Rattle.facts.specs.Limits.{Powers, may_have}
use Rattle.facts.specs.Usage.{Dwelling}
use Rattle.account.specs.declared.figure.Figure.TheVariants.{Index, Waiting}
use Rattle.account.specs.Registers.{RegisterLimits}
use Rattle.account.specs.Balances.{balance_fits}
use Rattle.account.specs.Tenancy.{Tenancy}

-- the limits of a profile, with its six circuits
pub record ProfileKept (d : Dwelling) : Type 0 where
  pub powers : Powers d.power d.exempt
  pub social : may_have d.class d.marks ≡ true
  pub circuits : length d.kinds ≡ 6

-- the limits of an account, with its twelve registers
pub record Kept (t : Tenancy) : Type 0 where
  pub profile : ProfileKept t.dwelling
  pub month : t.next ≤ 1200
  pub indices : length t.indices ≡ 12
  pub shown : RegisterLimits Index t.dwelling.kinds t.indices
  pub waiting : length t.waiting ≡ 12
  pub unsettled : RegisterLimits (Waiting t.state) t.dwelling.kinds t.waiting
  pub owed : balance_fits t.balance ≡ true

-- the same of what stands at a number
abbrev pub KeptAt : Option Tenancy → Type 0
KeptAt None = Unit {0}
KeptAt (Some t) = Kept t
