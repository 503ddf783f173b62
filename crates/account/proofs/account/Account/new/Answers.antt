use Rattle.std.proofs.Common.{◌≡◌, ℕ, ◌≤◌, Bool, true, cond, ◌&&◌, leb, Some, Ok, Err, Option, Result, ◌∙◌, sym, ap, arith, rules}
use Rattle.std.proofs.lemmas.Bool.Decides.{nat_tests}
use Rattle.facts.specs.declared.form.FactsFault.{FactsFault}
use Rattle.facts.specs.Usage.{Dwelling, dwelling_of}
use Rattle.facts.specs.Forms.{made, profile_made}
use Rattle.account.specs.declared.fault.AccountFault.TheVariants.{BrokenRow}
use Rattle.account.specs.declared.form.AccountForm.{AccountForm}
use Rattle.account.specs.declared.state.State.{State}
use Rattle.account.specs.States.{state_at}
use Rattle.account.specs.Balances.{balance_fits}
use Rattle.account.specs.Forms.{registers_made, profile_known}
use Rattle.account.proofs.account.Account.new.Goals as goal

known : (f : AccountForm) (s : State) (d : Dwelling) (o : Option State) (p : Result Dwelling FactsFault) (b : Bool) → b ≡ true → Some s ≡ o → Ok d ≡ p → registers_made f s d ≡ cond b (profile_known f o p) (Err BrokenRow)
known f s d o p b t k m = rw (t, ← k, ← m)

within : (next : ℕ) (b : Bool) → next ≤ 1200 → b ≡ true → (leb next 1200 && b) ≡ true
within next b n t = grind (arith, nat_tests)

pub returns : goal.returns
returns c =
    let f = c.args.form.now in
    let n : f.next ≤ 1200 = omega arith in
    let b : balance_fits f.balance ≡ true = search rules in
    let s : Some c.in_ok-state.state ≡ state_at f.state = search rules in
    let p : c.new.result ≡ Ok c.in_ok-profile.profile = search rules in
    c.with_registers.ensures
    ∙ known f c.in_ok-state.state (dwelling_of c.in_ok-profile.profile) (state_at f.state) (profile_made f.profile) (leb f.next 1200 && balance_fits f.balance) (within f.next (balance_fits f.balance) n b) s (ap (made dwelling_of) (sym p) ∙ c.new.ensures)
