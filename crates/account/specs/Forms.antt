-- Which numbers are an account.
use Rattle.std.specs.Prelude.{ℕ, cond, ◌&&◌, List, map, Some, None, Ok, Err, Option, Result, nat_le}
use Rattle.facts.specs.declared.form.FactsFault.{FactsFault}
use Rattle.facts.specs.declared.form.ProfileForm.{ProfileForm}
use Rattle.facts.specs.Numbers.{class_number, marks_number, kind_number}
use Rattle.facts.specs.Usage.{Dwelling}
use Rattle.facts.specs.Forms.{profile_made}
use Rattle.account.specs.declared.fault.AccountFault.{AccountFault}
use Rattle.account.specs.declared.fault.AccountFault.TheVariants.{BrokenRow}
use Rattle.account.specs.declared.figure.Figure.TheVariants.{Index, Waiting}
use Rattle.account.specs.declared.form.AccountForm.{AccountForm}
use Rattle.account.specs.declared.state.State.{State}
use Rattle.account.specs.States.{state_number, state_at}
use Rattle.account.specs.Registers.{figures_at}
use Rattle.account.specs.Balances.{balance_fits}
use Rattle.account.specs.Tenancy.{Tenancy}

-- the account with these indices and waiting kWh
abbrev pub figures_made : AccountForm → State → Dwelling → Option (List ℕ) → Option (List ℕ) → Result Tenancy AccountFault
figures_made f s d None waiting = Err BrokenRow
figures_made f s d (Some indices) None = Err BrokenRow
figures_made f s d (Some indices) (Some waiting) =
    Ok (record { state = s; dwelling = d; next = f.next; indices = indices; waiting = waiting; balance = f.balance })

-- the account of this state and dwelling, where its registers may have their figures
abbrev pub registers_made : AccountForm → State → Dwelling → Result Tenancy AccountFault
registers_made f s d = figures_made f s d (figures_at Index d.kinds f.indices) (figures_at (Waiting s) d.kinds f.waiting)

-- the same, where state and profile are known
abbrev pub profile_known : AccountForm → Option State → Result Dwelling FactsFault → Result Tenancy AccountFault
profile_known f None profile = Err BrokenRow
profile_known f (Some s) (Err e) = Err BrokenRow
profile_known f (Some s) (Ok d) = registers_made f s d

-- what making an account answers: its month and its balance have their limits too
abbrev pub account_made : AccountForm → Result Tenancy AccountFault
account_made f =
    cond (nat_le f.next 1200 && balance_fits f.balance) (profile_known f (state_at f.state) (profile_made f.profile)) (Err BrokenRow)

-- the numbers of an account
abbrev pub profile_form_of : Dwelling → ProfileForm
profile_form_of d = record {
  class = class_number d.class;
  marks = marks_number d.marks;
  power = d.power;
  exempt = d.exempt;
  kinds = map kind_number d.kinds;
}

abbrev pub form_of : Tenancy → AccountForm
form_of t = record {
  state = state_number t.state;
  profile = profile_form_of t.dwelling;
  next = t.next;
  indices = t.indices;
  waiting = t.waiting;
  balance = t.balance;
}
