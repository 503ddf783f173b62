-- Readings, payments and closings of an open account.
use Rattle.std.proofs.Common.{◌≡◌, ℕ, ◌+◌, Bool, true, false, cond, ◌&&◌, leb, ◌⊎◌, List, [], ◌∷◌, get_or, pos, ◌-ℤ◌, Some, None, Ok, Err, Decides, Option, Result, sym, refl, ap, ◌∙◌, subst, inl, inr, ⊎_elim, arith}
use Rattle.std.proofs.lemmas.Bool.Decides.{Decides-at, not_from_Decides}
use Rattle.refusal.specs.declared.Refusal.{Refusal}
use Rattle.refusal.specs.declared.Layer.TheVariants.{Ledger}
use Rattle.refusal.specs.Refusals.{refused}
use Rattle.common.specs.Counts.{all_to}
use Rattle.common.specs.Outcomes.{chained}
use Rattle.account.specs.declared.event.EventKind.TheVariants.{Opening, Reading, Payment, Closing}
use Rattle.account.specs.declared.fault.AccountFault.{AccountFault}
use Rattle.account.specs.declared.fault.AccountFault.TheVariants.{NotVacant, PaymentOutside, BalanceOutside, NotClosable}
use Rattle.account.specs.declared.figure.Figure.TheVariants.{Index}
use Rattle.account.specs.declared.state.State.{State}
use Rattle.account.specs.declared.state.State.TheVariants.{Vacant, Running, Ready}
use Rattle.account.specs.Balances.{balance_fits, is_zero}
use Rattle.account.specs.Registers.{register_fits, twelve, figures_at}
use Rattle.account.specs.States.{after}
use Rattle.account.specs.Steps.{joined, join_fits, joined_at, read_at, read_to, with_balance, paid, closed}
use Rattle.account.specs.Tenancy.{Tenancy}
use Rattle.law.specs.History.{Deed, reads, settles, pays, History, state_of, charged_in, paid_in, account_since}
use Rattle.law.proofs.Growing.{pay-more}
use Rattle.causes.specs.Rules.{Shows, KwhFit, PassesPaid}
use Rattle.causes.specs.Causes.{because, payment_outside}
use Rattle.causes.specs.Caused.{ByFirst}
use Rattle.causes.proofs.Deciding.{decides-shows, decides-kwh, Near, decides-near, near-passes, passes-from, decides-even, Payable, decides-payable, payable-not, payable-from}
use Rattle.causes.proofs.Firsts.{first-unless}
use Rattle.causes.proofs.Refusing.{fault_in}

-- an open account is running or ready
pub state-cases : (ds : List Deed) → (state_of ds ≡ Running) ⊎ (state_of ds ≡ Ready)
state-cases [] = inl refl
state-cases (reads new ∷ ds) = inr refl
state-cases (settles e sheet months b ∷ ds) = inl refl
state-cases (pays cents ∷ ds) = state-cases ds

-- so it is not opened again, and takes any reading and any payment
pub opening-refused : (ds : List Deed) → after (state_of ds) Opening ≡ Err NotVacant
opening-refused ds = ⊎_elim (λ e. ap (λ (s : State). after s Opening) e) (λ e. ap (λ (s : State). after s Opening) e) (state-cases ds)

reading-taken : (ds : List Deed) → after (state_of ds) Reading ≡ Ok Ready
reading-taken ds = ⊎_elim (λ e. ap (λ (s : State). after s Reading) e) (λ e. ap (λ (s : State). after s Reading) e) (state-cases ds)

payment-taken : (ds : List Deed) → after (state_of ds) Payment ≡ Ok (state_of ds)
payment-taken ds = ⊎_elim (λ e. ap (λ (s : State). after s Payment) e ∙ ap Ok (sym e)) (λ e. ap (λ (s : State). after s Payment) e ∙ ap Ok (sym e)) (state-cases ds)

pub vacant-not : (Vacant ≡ Running) ⊎ (Vacant ≡ Ready) → ⊥
vacant-not w = ⊎_elim (λ (e : Vacant ≡ Running). let z : ◌≡◌ {A = ℕ} 0 1 = cc in omega arith) (λ (e : Vacant ≡ Ready). let z : ◌≡◌ {A = ℕ} 0 1 = cc in omega arith) w

pub ready-not-running : Ready ≡ Running → ⊥
ready-not-running e = let z : ◌≡◌ {A = ℕ} 0 1 = cc in omega arith

module _ (n : ℕ) (g : History) where
  -- a reading
  pub reading-first : (new : List ℕ) → ByFirst (because (Shows g.opened.dwelling.kinds new → ⊥) (refused 8 Ledger n) ∷ because (KwhFit g.opened g.deeds new → ⊥) (refused 9 Ledger n) ∷ []) (fault_in n (read_to new (account_since g)))
  reading-first new =
      let a = account_since g in
      let kinds = g.opened.dwelling.kinds in
      let xs = twelve (λ i. get_or new i 0) in
      let fit = KwhFit g.opened g.deeds new in
      let by : Result State AccountFault → Option Refusal = λ r. fault_in n (chained r (λ s. read_at s a (figures_at Index kinds new))) in
      subst (ByFirst (because (Shows kinds new → ⊥) (refused 8 Ledger n) ∷ because (fit → ⊥) (refused 9 Ledger n) ∷ [])) (sym (ap by (reading-taken g.deeds)))
      (first-unless (all_to (register_fits Index kinds new) 12) (Shows kinds new → ⊥) (Shows kinds new) (refused 8 Ledger n) (because (fit → ⊥) (refused 9 Ledger n) ∷ []) (λ shows. fault_in n (read_at Ready a (cond shows (Some xs) None)))
      (decides-shows kinds new) (λ q p. p q) (λ f. f) refl
      (λ _. first-unless (all_to (join_fits a xs) 12) (fit → ⊥) fit (refused 9 Ledger n) [] (λ joins. fault_in n (joined_at Ready a xs (cond joins (Some (twelve (joined a xs))) None))) (decides-kwh g.opened g.deeds new) (λ q p. p q) (λ f. f) refl (λ _. refl)))

  -- a payment
  pub paying-first : (cents : ℕ) → ByFirst (payment_outside n cents ∷ because (PassesPaid g.deeds cents) (refused 15 Ledger n) ∷ []) (fault_in n (paid cents (account_since g)))
  paying-first cents =
      let a = account_since g in
      let c = charged_in g.deeds in
      let p = paid_in g.deeds in
      let z = (pos c -ℤ pos p) -ℤ pos cents in
      let amount = leb 1 cents && leb cents 1000000000 in
      let u : Tenancy = record { state = state_of g.deeds; dwelling = a.dwelling; next = a.next; indices = a.indices; waiting = a.waiting; balance = z } in
      let rest = because (PassesPaid g.deeds cents) (refused 15 Ledger n) ∷ [] in
      let by : Result State AccountFault → Option Refusal = λ r. fault_in n (chained r (λ s. cond amount (with_balance z s a) (Err PaymentOutside))) in
      subst (ByFirst (payment_outside n cents ∷ rest)) (sym (ap by (payment-taken g.deeds)))
      (first-unless amount (payment_outside n cents).stands (Payable cents) (refused 14 Ledger n) rest (λ fits. fault_in n (cond fits (with_balance z (state_of g.deeds) a) (Err PaymentOutside)))
      (decides-payable cents) (payable-not cents) (payable-from cents) refl
      (λ _. first-unless (balance_fits z) (PassesPaid g.deeds cents) (Near c (p + cents)) (refused 15 Ledger n) []
      (λ fits. fault_in n (cond fits (Ok u) (Err BalanceOutside)))
      (Decides-at (balance_fits z) (balance_fits (pos c -ℤ pos (p + cents))) (ap balance_fits (pay-more c p cents)) (decides-near c (p + cents))) (near-passes c (p + cents)) (passes-from c (p + cents)) refl (λ _. refl)))

  closing-by : (s : State) → (s ≡ Running) ⊎ (s ≡ Ready) → (even : Bool) (q : Type 0) → Decides even q → ByFirst (because ((s ≡ Ready) ⊎ (q → ⊥)) (refused 16 Ledger n) ∷ []) (fault_in {X = Unit {0}} n (chained (after s Closing) (λ x. cond even (Ok tt) (Err NotClosable))))
  closing-by Vacant w even q d = absurd (vacant-not w)
  closing-by Running w true q d = inr ((λ (x : (Running ≡ Ready) ⊎ (q → ⊥)). ⊎_elim (λ e. ready-not-running (sym e)) (λ f. f (d.0 refl)) x), refl)
  closing-by Running w false q d = inl (inr (not_from_Decides false d refl), refl)
  closing-by Ready w even q d = inl (inl refl, refl)

  -- a closing
  pub closing-first : ByFirst (because ((state_of g.deeds ≡ Ready) ⊎ (charged_in g.deeds ≡ paid_in g.deeds → ⊥)) (refused 16 Ledger n) ∷ []) (fault_in n (closed (account_since g)))
  closing-first =
      closing-by (state_of g.deeds) (state-cases g.deeds) (is_zero (account_since g).balance) (charged_in g.deeds ≡ paid_in g.deeds) (decides-even (charged_in g.deeds) (paid_in g.deeds))
