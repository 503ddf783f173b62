-- Openings.
use Rattle.std.proofs.Common.{◌≡◌, ℕ, ◌≤◌, Bool, true, false, cond, leb, List, [], ◌∷◌, get_or, pos, is_some, Some, None, Ok, Err, Decides, Option, Result, sym, refl, ap, ◌∙◌, subst, inl, inr}
use Rattle.std.proofs.lemmas.Bool.{both_ways}
use Rattle.std.proofs.lemmas.Bool.Decides.{Decides-like, not_from_Decides}
use Rattle.std.specs.Option.{option_map}
use Rattle.refusal.specs.declared.Refusal.{Refusal}
use Rattle.refusal.specs.declared.Layer.TheVariants.{Board as OfBoard, Ledger as OfLedger}
use Rattle.refusal.specs.Refusals.{refused}
use Rattle.common.specs.Counts.{all_to}
use Rattle.common.specs.Outcomes.{chained}
use Rattle.common.proofs.Outcomes.{err-not-ok}
use Rattle.facts.specs.declared.form.FactsFault.{FactsFault}
use Rattle.facts.specs.Forms.{made, profile_made}
use Rattle.facts.specs.Usage.{Dwelling}
use Rattle.board.specs.declared.fault.BoardFault.TheVariants.{Full}
use Rattle.board.specs.Meaning.{inside, standing}
use Rattle.account.specs.declared.event.Event.TheVariants.{Open}
use Rattle.account.specs.declared.event.OpeningForm.{OpeningForm}
use Rattle.account.specs.declared.fault.AccountFault.{AccountFault}
use Rattle.account.specs.declared.fault.AccountFault.TheVariants.{OutsideRules}
use Rattle.account.specs.declared.figure.Figure.TheVariants.{Index}
use Rattle.account.specs.declared.state.State.{State}
use Rattle.account.specs.declared.state.State.TheVariants.{Running}
use Rattle.account.specs.Registers.{register_fits, twelve}
use Rattle.account.specs.Steps.{nothing, started_at, opened_at, stepped}
use Rattle.account.specs.Tenancy.{Tenancy}
use Rattle.ledger.specs.declared.fault.LedgerFault.{LedgerFault}
use Rattle.ledger.specs.Calls.{raised as raised_board}
use Rattle.cabinet.specs.Books.{Books, raised, done_answer}
use Rattle.law.specs.Transcript.{done_reply, Transcript}
use Rattle.law.specs.History.{History, since, account_since}
use Rattle.law.proofs.Stepping.{Standing}
use Rattle.causes.specs.Rules.{open_below, Shows, Opens}
use Rattle.causes.specs.Causes.{Cause, because, number_outside, open_already, opening_outside, all_open}
use Rattle.causes.specs.Caused.{refusal_in, ByFirst}
use Rattle.causes.proofs.Counting.{standing-open}
use Rattle.causes.proofs.Deciding.{decides-leb, decides-shows}
use Rattle.causes.proofs.Events.{opening-refused}
use Rattle.causes.proofs.Firsts.{first-if}
use Rattle.causes.proofs.Refusing.{event_refusal, keep-new, row-none, event-first}

-- an opening keeps its rule exactly if its profile is one, its month is early enough and its registers show their indices
module _ (form : OpeningForm) (d : Dwelling) (e : profile_made form.profile ≡ Ok d) where
  opens : form.first ≤ 1199 → Shows d.kinds form.indices → Opens form
  opens m x = record { dwelling = d; profile = e; first = m; indices = x }

  opens-shows : Opens form → Shows d.kinds form.indices
  opens-shows w =
      let q : ◌≡◌ {A = Result Dwelling FactsFault} (Ok w.dwelling) (Ok d) = sym w.profile ∙ e in
      let same : w.dwelling ≡ d = cc in
      subst (λ (x : Dwelling). Shows x.kinds form.indices) same w.indices

module _ (t : Transcript) (b : Books) (s : Standing t b) (n : ℕ) (form : OpeningForm) where
  -- room for one account more
  room-first : (u : Tenancy) → inside b.board n ≡ true → since n t ≡ None → ByFirst (all_open n b.board.capacity b.board.limit t ∷ []) (event_refusal b.board n (Ok (Some u)))
  room-first u i e =
      let l = b.board.limit in
      let k = standing b.board.rows in
      let by : Result (Unit {0}) LedgerFault → Option Refusal = λ r. refusal_in (done_reply (raised r)) in
      let count : k ≡ open_below b.board.capacity t = standing-open t b s in
      subst (ByFirst (all_open n b.board.capacity l t ∷ [])) (sym (ap by (keep-new b.board n u i (row-none t b s n e))))
      (first-if (leb l k) (l ≤ open_below b.board.capacity t) (refused 6 OfBoard n) [] (λ full. by (raised_board (cond full (Err (Full n)) (Ok tt))))
      (Decides-like (leb l k) (λ (h : l ≤ k). subst (λ (x : ℕ). l ≤ x) count h) (λ (h : l ≤ open_below b.board.capacity t). subst (λ (x : ℕ). l ≤ x) (sym count) h) (decides-leb l k)) refl (λ _. refl))

  abbrev after-profile : List Cause
  after-profile = opening_outside n form ∷ all_open n b.board.capacity b.board.limit t ∷ []

  module _ (i : inside b.board n ≡ true) (e : since n t ≡ None) where
    month-first : (d : Dwelling) → profile_made form.profile ≡ Ok d → Shows d.kinds form.indices → (u : Tenancy) (early : Bool) → Decides early (form.first ≤ 1199)
        → ByFirst after-profile (event_refusal b.board n (made Some (cond early (Ok u) (Err OutsideRules))))
    month-first d p x u true m = inr ((λ w. w (opens form d p (m.0 refl) x)), room-first u i e)
    month-first d p x u false m = inl ((λ w. not_from_Decides false m refl w.first), refl)

    shows_first : (d : Dwelling) → profile_made form.profile ≡ Ok d → (shows : Bool) → Decides shows (Shows d.kinds form.indices)
        → ByFirst after-profile (event_refusal b.board n (made Some (started_at form Running d (cond shows (Some (twelve (λ k. get_or form.indices k 0))) None))))
    shows_first d p true x =
        month-first d p (x.0 refl) (record { state = Running; dwelling = d; next = form.first; indices = twelve (λ k. get_or form.indices k 0); waiting = nothing; balance = pos 0 }) (leb form.first 1199)
        (decides-leb form.first 1199)
    shows_first d p false x = inl ((λ w. not_from_Decides false x refl (opens-shows form d p w)), refl)

    profile-first : (p : Result Dwelling FactsFault) → profile_made form.profile ≡ p → ByFirst after-profile (event_refusal b.board n (made Some (opened_at form Running p)))
    profile-first (Ok d) p = shows_first d p (all_to (register_fits Index d.kinds form.indices) 12) (decides-shows d.kinds form.indices)
    profile-first (Err f) p = inl ((λ w. err-not-ok f w.dwelling (sym p ∙ w.profile)), refl)

  pub opening-first : ByFirst (number_outside b.board.capacity n ∷ open_already n t ∷ after-profile) (refusal_in (done_reply (done_answer b n (Open form))))
  opening-first = event-first t b s n (Open form) (λ h. because (is_some h ≡ true) (refused 4 OfLedger n) ∷ after-profile) by
    where
      by : (h : Option History) → since n t ≡ h → inside b.board n ≡ true → ByFirst (because (is_some h ≡ true) (refused 4 OfLedger n) ∷ after-profile) (event_refusal b.board n (stepped (Open form) (option_map account_since h)))
      by None e i = inr ((λ w. both_ways false refl w), profile-first i e (profile_made form.profile) refl)
      by (Some g) e i =
          let opens_by : Result State AccountFault → Option Refusal = λ r. event_refusal b.board n (made Some (chained r (λ next. opened_at form next (profile_made form.profile)))) in
          inl (refl, ap opens_by (opening-refused g.deeds))
