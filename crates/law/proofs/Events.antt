-- What an accepted opening, reading, payment and closing make of a history.
use Rattle.std.proofs.Common.{◌≡◌, ℕ, Bool, cond, eqb, List, [], ◌∷◌, Some, None, Ok, Option, sym, refl, ap, ◌∙◌, subst}
use Rattle.std.proofs.lemmas.Bool.{eq-eqb, ne_eqb}
use Rattle.std.specs.Option.{option_map}
use Rattle.common.specs.Outcomes.{chained}
use Rattle.common.proofs.Outcomes.{err-not-ok}
use Rattle.account.specs.declared.event.OpeningForm.{OpeningForm}
use Rattle.account.specs.declared.event.Event.TheVariants.{Open, Read, Pay, Close}
use Rattle.account.specs.Kept.{Kept, KeptAt}
use Rattle.account.specs.Tenancy.{Tenancy}
use Rattle.account.specs.Steps.{standing, found, opened, read_to, paid, closed, stepped}
use Rattle.accountlaw.proofs.Accepted.{opening-accepted, reading-accepted, payment-accepted}
use Rattle.accountlaw.proofs.Staying.{steps-keep-limits}
use Rattle.row.specs.Rows.{row_of}
use Rattle.row.proofs.Inverse.{written_back}
use Rattle.law.specs.Transcript.{opening, reading, paying, closing, done, Transcript}
use Rattle.law.specs.History.{reads, pays, History, since, started, started_with, with_deed, account_since}
use Rattle.law.proofs.Growing.{opened_by, opened-is, read_is, pay-is}
use Rattle.law.proofs.Fairness.{fair-opened, fair-read, fair-paid}
use Rattle.law.proofs.Loading.{made_ok}
use Rattle.law.proofs.Stepping.{FairAt}
use Rattle.law.proofs.Calling.{Made}

pub own : {X : Type 0} (n : ℕ) (x y : X) → cond (eqb n n) x y ≡ x
own n x y = ap (λ (a : Bool). cond a x y) (eq-eqb n n refl)

pub another : {X : Type 0} (n k : ℕ) (x y : X) → (k ≡ n → ⊥) → cond (eqb n k) x y ≡ y
another n k x y ne = ap (λ (a : Bool). cond a x y) (ne_eqb n k (λ e. ne (sym e)))

-- what a history makes keeps the limits of an account
pub kept_at : (h : Option History) → FairAt h → KeptAt (option_map account_since h)
kept_at None f = tt
kept_at (Some g) f = (written_back (row_of (account_since g)) (account_since g) f.row).0

module _ (t : Transcript) (n : ℕ) (fair : FairAt (since n t)) where
  pub opening-makes : (form : OpeningForm) (o : Option Tenancy) → stepped (Open form) (option_map account_since (since n t)) ≡ Ok o → Made (opening n form) done n t o
  opening-makes form o h =
      let st = standing (option_map account_since (since n t)) in
      let p = made_ok Some (opened form st) o h in
      let u : Tenancy = p.0 in
      let a = opening-accepted form st u p.1 in
      let e = opened-is form u a in
      let k : Kept u = steps-keep-limits (Open form) (option_map account_since (since n t)) u (kept_at (since n t) fair) (h ∙ ap Ok (sym p.2)) in
      record {
        history = Some (record { opened = opened_by form u.dwelling; deeds = [] });
        is = own n (started form) (since n t) ∙ ap (started_with form) a.profile;
        account = ap Some (sym e) ∙ p.2;
        fair = fair-opened (opened_by form u.dwelling) (subst Kept e k);
      }

  pub closing-makes : (o : Option Tenancy) → stepped Close (option_map account_since (since n t)) ≡ Ok o → Made (closing n) done n t o
  closing-makes o h =
      let p = made_ok (λ _. None) (chained (found (option_map account_since (since n t))) closed) o h in
      record { history = None; is = own n None (since n t); account = p.2; fair = tt }

reading-makes-at : (t : Transcript) (n : ℕ) (new : List ℕ) (o : Option Tenancy) (h : Option History) → since n t ≡ h → FairAt h → stepped (Read new) (option_map account_since h) ≡ Ok o → Made (reading n new) done n t o
reading-makes-at t n new o None e f q = err-not-ok _ o q
reading-makes-at t n new o (Some g) e f q =
    let p = made_ok Some (read_to new (account_since g)) o q in
    let u : Tenancy = p.0 in
    let is = read_is g.opened g.deeds new u (reading-accepted new (account_since g) u p.1) in
    let k : Kept u = steps-keep-limits (Read new) (Some (account_since g)) u (kept_at (Some g) f) (q ∙ ap Ok (sym p.2)) in
    record {
      history = Some (record { opened = g.opened; deeds = reads new ∷ g.deeds });
      is = own n (with_deed (reads new) (since n t)) (since n t) ∙ ap (with_deed (reads new)) e;
      account = ap Some (sym is) ∙ p.2;
      fair = fair-read g.opened g.deeds f new (subst Kept is k);
    }

pub reading-makes : (t : Transcript) (n : ℕ) → FairAt (since n t) → (new : List ℕ) (o : Option Tenancy) → stepped (Read new) (option_map account_since (since n t)) ≡ Ok o → Made (reading n new) done n t o
reading-makes t n f new o q = reading-makes-at t n new o (since n t) refl f q

paying-makes-at : (t : Transcript) (n : ℕ) (cents : ℕ) (o : Option Tenancy) (h : Option History) → since n t ≡ h → FairAt h → stepped (Pay cents) (option_map account_since h) ≡ Ok o → Made (paying n cents) done n t o
paying-makes-at t n cents o None e f q = err-not-ok _ o q
paying-makes-at t n cents o (Some g) e f q =
    let p = made_ok Some (paid cents (account_since g)) o q in
    let u : Tenancy = p.0 in
    let is = pay-is g.opened g.deeds cents u (payment-accepted cents (account_since g) u p.1) in
    let k : Kept u = steps-keep-limits (Pay cents) (Some (account_since g)) u (kept_at (Some g) f) (q ∙ ap Ok (sym p.2)) in
    record {
      history = Some (record { opened = g.opened; deeds = pays cents ∷ g.deeds });
      is = own n (with_deed (pays cents) (since n t)) (since n t) ∙ ap (with_deed (pays cents)) e;
      account = ap Some (sym is) ∙ p.2;
      fair = fair-paid g.opened g.deeds f cents (subst Kept is k);
    }

pub paying-makes : (t : Transcript) (n : ℕ) → FairAt (since n t) → (cents : ℕ) (o : Option Tenancy) → stepped (Pay cents) (option_map account_since (since n t)) ≡ Ok o → Made (paying n cents) done n t o
paying-makes t n f cents o q = paying-makes-at t n cents o (since n t) refl f q
