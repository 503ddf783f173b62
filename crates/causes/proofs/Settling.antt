-- Settlements.
use Rattle.std.proofs.Common.{◌≡◌, ℕ, ◌+◌, ◌<◌, ◌≤◌, Bool, true, false, cond, ◌&&◌, ltb, leb, ◌⊎◌, List, [], ◌∷◌, length, pos, ◌+ℤ◌, ◌-ℤ◌, Some, None, Ok, Err, Decides, Option, Result, sym, refl, ap, ◌∙◌, subst, inl, inr, ⊎_elim, arith}
use Rattle.std.proofs.lemmas.Bool.{both_ways, cases_lt, and_from, le-leb, ltb-true}
use Rattle.std.proofs.lemmas.Bool.Decides.{Decides-at, Decides-ltb, not_from_Decides}
use Rattle.std.specs.Option.{option_map}
use Rattle.refusal.specs.declared.Refusal.{Refusal}
use Rattle.refusal.specs.declared.Layer.TheVariants.{Ledger as OfLedger, Cabinet as OfCabinet}
use Rattle.refusal.specs.Refusals.{refused}
use Rattle.common.specs.Outcomes.{chained}
use Rattle.facts.specs.Forms.{made}
use Rattle.facts.specs.Usage.{Usage}
use Rattle.sheet.specs.Tariff.{Tariff, price, cents_of, prices_of, plan_of}
use Rattle.sheet.specs.Choice.{Best, cheapest_of, chosen}
use Rattle.sheet.proofs.Bests.{best-is}
use Rattle.board.specs.Meaning.{BoardMeaning, Row, inside, row_at}
use Rattle.account.specs.declared.event.EventKind.TheVariants.{Settlement}
use Rattle.account.specs.declared.fault.AccountFault.{AccountFault}
use Rattle.account.specs.declared.fault.AccountFault.TheVariants.{PeriodOutside as OutsidePeriod, BalanceOutside}
use Rattle.account.specs.declared.state.State.{State}
use Rattle.account.specs.declared.state.State.TheVariants.{Vacant, Running, Ready}
use Rattle.account.specs.Balances.{balance_fits}
use Rattle.account.specs.States.{after}
use Rattle.account.specs.Steps.{months_from, period_fits, with_balance, settled_to, settled}
use Rattle.account.specs.Tenancy.{Tenancy}
use Rattle.ledger.specs.declared.fault.LedgerFault.{LedgerFault}
use Rattle.ledger.specs.Calls.{named, due_at}
use Rattle.cabinet.specs.declared.bill.Bill.{Bill}
use Rattle.cabinet.specs.declared.fault.CabinetFault.{CabinetFault}
use Rattle.cabinet.specs.declared.fault.CabinetFault.TheVariants.{NotPosted}
use Rattle.cabinet.specs.Faults.{cabinet_refusal}
use Rattle.cabinet.specs.Settling.{bill_of}
use Rattle.cabinet.specs.Books.{Books, books_with, raised, usage_at, planned, billed as booked, settle_next, bill_answer, settle_answer}
use Rattle.law.specs.Transcript.{bill_reply, Transcript}
use Rattle.law.specs.History.{Deed, Opened, History, since, months_in, state_of, next_month, charged_in, paid_in, period_of, account_in, account_since}
use Rattle.law.specs.Law.{Least}
use Rattle.law.proofs.Billing.{usage-is}
use Rattle.law.proofs.Calling.{loaded}
use Rattle.law.proofs.Loading.{load-outside}
use Rattle.law.proofs.Stepping.{Standing, writing}
use Rattle.law.proofs.Growing.{charge-more}
use Rattle.causes.specs.Rules.{Holds, PeriodOutside, NonePermitted, Passes, PassesCharged}
use Rattle.causes.specs.Causes.{Cause, because, number_outside, not_posted}
use Rattle.causes.specs.Caused.{refusal_in, ByFirst}
use Rattle.causes.proofs.Deciding.{decides-period, Near, decides-near, near-passes, passes-from}
use Rattle.causes.proofs.Events.{state-cases, vacant-not, ready-not-running}
use Rattle.causes.proofs.Firsts.{first-unless, some-not-none}
use Rattle.causes.proofs.Refusing.{keep-stands, number-first, row-some}

-- the causes behind the first
abbrev tail_of : List Cause → List Cause
tail_of [] = []
tail_of (c ∷ causes) = causes

-- the refusal of a fault
abbrev refusal_of : {X : Type 0} → Result X CabinetFault → Option Refusal
refusal_of (Ok x) = None
refusal_of (Err f) = Some (cabinet_refusal f)

-- where a row stands, a bill is refused by its settlement's fault alone
bill-refusal : (m : BoardMeaning Row) (months : List (ℕ × ℕ)) (n : ℕ) (row : Row) → inside m n ≡ true → row_at m n ≡ Some row → (r : Result (Option Tenancy × Bill) CabinetFault) → refusal_in (bill_reply (bill_answer (books_with months m) n r)) ≡ refusal_of r
bill-refusal m months n row i e (Ok x) = ap (λ (k : Result (Unit {0}) LedgerFault). refusal_in (bill_reply (made (λ _. x.1) (raised k)))) (keep-stands m n row x.0 i e)
bill-refusal m months n row i e (Err f) = refl

-- a least price is one price
least-one : (sheet : Tariff) (u : Usage) (p q : ℕ) → Least sheet u p → Least sheet u q → p ≡ q
least-one sheet u p q a b =
    let x = a.least b.code b.permitted in
    let y = b.least a.code a.permitted in
    let v = a.costs in
    let w = b.costs in
    omega (arith, x, y, v, w)

module _ (n e : ℕ) (sheet : Tariff) (o : Opened) (ds : List Deed) where
  -- a period of 1 to 12 months, or outside
  within-not : (next_month o ds ≤ e) × (months_from (next_month o ds) e ≤ 12) → PeriodOutside o ds e → ⊥
  within-not q w = ⊎_elim (λ (h : e < next_month o ds). omega (arith, q.0, h)) (λ (h : 12 < months_from (next_month o ds) e). omega (arith, q.1, h)) w

  outside-from : ((next_month o ds ≤ e) × (months_from (next_month o ds) e ≤ 12) → ⊥) → PeriodOutside o ds e
  outside-from f =
      ⊎_elim (λ (h : e < next_month o ds). inl h)
      (λ (h : next_month o ds ≤ e). ⊎_elim (λ (k : 12 < months_from (next_month o ds) e). inr k) (λ (k : months_from (next_month o ds) e ≤ 12). absurd (f (h, k))) (cases_lt 12 (months_from (next_month o ds) e))) (cases_lt e (next_month o ds))

  -- the state and the period
  due-first : (a : Tenancy) (s : State) → (s ≡ Running) ⊎ (s ≡ Ready) → (fits : Bool) → Decides fits ((next_month o ds ≤ e) × (months_from (next_month o ds) e ≤ 12)) → (m : ℕ) (next : Tenancy × ℕ → Result (Option Tenancy × Bill) CabinetFault) (rest : List Cause)
      → (s ≡ Ready → fits ≡ true → ByFirst rest (refusal_of (next (a, m))))
      → ByFirst (because (s ≡ Running) (refused 10 OfLedger n) ∷ because (PeriodOutside o ds e) (refused 11 OfLedger n) ∷ rest)
      (refusal_of (chained (raised (named n (made (λ k. (a, k)) (chained (after s Settlement) (λ _. cond fits (Ok m) (Err OutsidePeriod)))))) next))
  due-first a Vacant w fits d m next rest on = absurd (vacant-not w)
  due-first a Running w fits d m next rest on = inl (refl, refl)
  due-first a Ready w true d m next rest on = inr (ready-not-running, inr (within-not (d.0 refl), on refl refl))
  due-first a Ready w false d m next rest on = inr (ready-not-running, inl (outside-from (not_from_Decides false d refl), refl))

  -- the balance
  module _ (ready : state_of ds ≡ Ready) (fits : period_fits (next_month o ds) e ≡ true) (last : e ≤ 1199) where
    booking-is : (cents : ℕ) → settled e cents (account_in o ds) ≡ with_balance ((account_in o ds).balance +ℤ pos cents) Running (settled_to e (account_in o ds))
    booking-is cents =
        let a = account_in o ds in
        let z = a.balance +ℤ pos cents in
        let in-time : (period_fits (next_month o ds) e && leb e 1199) ≡ true = and_from (period_fits (next_month o ds) e) (leb e 1199) fits (le-leb e 1199 last) in
        ap (λ (s : State). chained (after s Settlement) (λ x. cond (period_fits (next_month o ds) e && leb e 1199) (with_balance z x (settled_to e a)) (Err OutsidePeriod))) ready
        ∙ ap (λ (c : Bool). cond c (with_balance z Running (settled_to e a)) (Err OutsidePeriod)) in-time

    charge-first : (u : Usage) (m code : ℕ) → Least sheet u (price sheet u code) → ByFirst (because (PassesCharged ds sheet u) (refused 15 OfLedger n) ∷ []) (refusal_of (booked n e (account_in o ds, m) (plan_of sheet u code)))
    charge-first u m code least =
        let a = account_in o ds in
        let plan = plan_of sheet u code in
        let cents = cents_of (price sheet u code) u.months in
        let c = charged_in ds + cents in
        let p = paid_in ds in
        let z = a.balance +ℤ pos cents in
        let next : Tenancy = record { state = Running; dwelling = o.dwelling; next = e + 1; indices = a.indices; waiting = (settled_to e a).waiting; balance = z } in
        let bill : Option Tenancy → Option Tenancy × Bill = λ x. (x, bill_of a m plan) in
        let by : Result Tenancy AccountFault → Option Refusal = λ r. refusal_of (made bill (raised (named n (made Some r)))) in
        subst (ByFirst (because (PassesCharged ds sheet u) (refused 15 OfLedger n) ∷ [])) (sym (ap by (booking-is cents)))
        (first-unless (balance_fits z) (PassesCharged ds sheet u) (Near c p) (refused 15 OfLedger n) []
        (λ ok. by (cond ok (Ok next) (Err BalanceOutside)))
        (Decides-at (balance_fits z) (balance_fits (pos c -ℤ pos p)) (ap balance_fits (charge-more (charged_in ds) p cents)) (decides-near c p))
        (λ q w. near-passes c p q (subst (λ (x : ℕ). Passes (charged_in ds + cents_of x u.months) p) (least-one sheet u w.price (price sheet u code) w.least least) w.passes))
        (λ f. record { price = price sheet u code; least = least; passes = passes-from c p f }) refl (λ _. refl))

    -- the plan
    plan-first : (u : Usage) (m : ℕ) (code : Option ℕ) → Best (prices_of sheet u) sheet.count code
        → ByFirst (because (NonePermitted sheet u) (refused 13 OfCabinet n) ∷ because (PassesCharged ds sheet u) (refused 15 OfLedger n) ∷ []) (refusal_of (chained (planned n (option_map (plan_of sheet u) code)) (booked n e (account_in o ds, m))))
    plan-first u m None best = inl ((λ code w. both_ways (sheet.permitted code u) (best code w.0) w.1), refl)
    plan-first u m (Some code) best =
        inr ((λ w. w code (best.0, best.1)), charge-first u m code (record { code = code; permitted = (best.0, best.1); costs = refl; least = λ k w. best.2 k w.0 w.1 }))

  -- the months posted, and all that follows
  priced-first : (months : List (ℕ × ℕ)) → length months ≤ 1200 → state_of ds ≡ Ready → period_fits (next_month o ds) e ≡ true
      → ByFirst (because (length months ≤ e) (refused 12 OfCabinet n) ∷ because (NonePermitted sheet (period_of o ds e months)) (refused 13 OfCabinet n) ∷ because (PassesCharged ds sheet (period_of o ds e months)) (refused 15 OfLedger n) ∷ [])
      (refusal_of (settle_next months n e sheet (account_in o ds, months_from (next_month o ds) e)))
  priced-first months most ready fits =
      let a = account_in o ds in
      let m = months_from (next_month o ds) e in
      let v = period_of o ds e months in
      let rest = because (NonePermitted sheet v) (refused 13 OfCabinet n) ∷ because (PassesCharged ds sheet v) (refused 15 OfLedger n) ∷ [] in
      let by : Usage → Option Refusal = λ u. refusal_of (chained (planned n (chosen sheet u)) (booked n e (a, m))) in
      first-unless (ltb e (length months)) (length months ≤ e) (e < length months) (refused 12 OfCabinet n) rest
      (λ posted. refusal_of (chained (cond posted (planned n (chosen sheet (usage_at months a m))) (Err (NotPosted n))) (booked n e (a, m)))) (Decides-ltb e (length months))
      (λ q w. omega (arith, q, w)) (λ f. ⊎_elim (λ (h : e < length months). absurd (f h)) (λ (h : length months ≤ e). h) (cases_lt e (length months))) refl
      (λ h. let l = ltb-true e (length months) h in
      subst (λ (u : Usage). ByFirst rest (by u)) (sym (usage-is o ds e m months refl)) (plan-first ready fits (omega (arith, l, most)) v m (cheapest_of (prices_of sheet v)) (best-is (prices_of sheet v) sheet.count)))

module _ (t : Transcript) (b : Books) (s : Standing t b) (most : length b.months ≤ 1200) (n e : ℕ) (sheet : Tariff) where
  -- what a settlement is refused by, where this was read and these months are posted
  abbrev refused_by : List (ℕ × ℕ) → Result (Option Tenancy) LedgerFault → Option Refusal
  refused_by months l = refusal_in (bill_reply (bill_answer (books_with months b.board) n (chained (raised (chained l (due_at n e))) (settle_next months n e sheet))))

  -- the causes, of a history
  abbrev causes_by : Option History → List Cause
  causes_by h =
      because (h ≡ None) (refused 7 OfLedger n) ∷ because (Holds h (λ o ds. state_of ds ≡ Running)) (refused 10 OfLedger n) ∷ because (Holds h (λ o ds. PeriodOutside o ds e)) (refused 11 OfLedger n) ∷ not_posted n t e
      ∷ because (Holds h (λ o ds. NonePermitted sheet (period_of o ds e (months_in t)))) (refused 13 OfCabinet n) ∷ because (Holds h (λ o ds. PassesCharged ds sheet (period_of o ds e (months_in t)))) (refused 15 OfLedger n) ∷ []

  by-history : (h : Option History) → since n t ≡ h → inside b.board n ≡ true → ByFirst (causes_by h) (refused_by (months_in t) (Ok (option_map account_since h)))
  by-history None q i = inl (refl, refl)
  by-history (Some g) q i =
      let o = g.opened in
      let ds = g.deeds in
      let a = account_since g in
      let few : length (months_in t) ≤ 1200 = subst (λ (ms : List (ℕ × ℕ)). length ms ≤ 1200) s.law.months most in
      inr (
        some-not-none g,
        subst (ByFirst (tail_of (causes_by (Some g)))) (sym (bill-refusal b.board (months_in t) n (writing g) i (row-some t b s n g q) (chained (raised (due_at n e (Some a))) (settle_next (months_in t) n e sheet))))
            (due-first n e sheet o ds a (state_of ds) (state-cases ds) (period_fits (next_month o ds) e) (decides-period (next_month o ds) e) (months_from (next_month o ds) e) (settle_next (months_in t) n e sheet) (tail_of (tail_of (tail_of (causes_by (Some g)))))
            (λ ready fits. priced-first n e sheet o ds (months_in t) few ready fits)),
      )

  pub settling-first : ByFirst (number_outside b.board.capacity n ∷ causes_by (since n t)) (refusal_in (bill_reply (settle_answer b n e sheet)))
  settling-first =
      number-first t b s n (causes_by (since n t)) (refusal_in (bill_reply (settle_answer b n e sheet))) (λ h. ap (refused_by b.months) (load-outside b.board n h))
      (λ h. subst (ByFirst (causes_by (since n t))) (sym (ap (refused_by b.months) (loaded t b s n h) ∙ ap (λ (ms : List (ℕ × ℕ)). refused_by ms (Ok (option_map account_since (since n t)))) s.law.months)) (by-history (since n t) refl h))
