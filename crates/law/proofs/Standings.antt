-- The law stands after every call, and so after every transcript.
use Rattle.std.proofs.Common.{◌≡◌, ℕ, ◌<◌, Bool, true, false, cond, leb, ◌⊎◌, List, [], ◌∷◌, ◌++◌, length, Some, None, Ok, Err, Option, Result, sym, refl, ap, ◌∙◌, subst, ⊎_elim, append-nil, arith}
use Rattle.std.specs.Option.{option_map}
use Rattle.common.proofs.Outcomes.{err-not-ok, some-if, chained-ok}
use Rattle.facts.specs.Forms.{made}
use Rattle.figures.specs.Months.{non_fuel, month_of}
use Rattle.sheet.specs.declared.plan.Plan.{Plan}
use Rattle.sheet.specs.Tariff.{Tariff}
use Rattle.board.specs.declared.fault.BoardFault.TheVariants.{Outside}
use Rattle.board.specs.Meaning.{Row, inside, with_row}
use Rattle.account.specs.declared.event.Event.TheVariants.{Open, Read, Settle, Pay, Close}
use Rattle.account.specs.declared.fault.AccountFault.TheVariants.{Vacant}
use Rattle.account.specs.declared.hours.Hours.{Hours}
use Rattle.account.specs.declared.hours.Hours.TheVariants.{Day, Night}
use Rattle.account.specs.Kept.{Kept}
use Rattle.account.specs.Steps.{months_to, settled}
use Rattle.account.specs.Tenancy.{Tenancy}
use Rattle.account.specs.Waiting.{waiting_in_all}
use Rattle.accountlaw.proofs.Accepted.{settlement-accepted}
use Rattle.accountlaw.proofs.Staying.{steps-keep-limits}
use Rattle.row.specs.Rows.{row_of}
use Rattle.months.specs.declared.fault.PostFault.TheVariants.{AllPosted, OutsideLimits}
use Rattle.months.specs.Posted.{posted_as, with_month}
use Rattle.ledger.specs.declared.fault.LedgerFault.{LedgerFault}
use Rattle.ledger.specs.declared.fault.LedgerFault.TheVariants.{Board, Account}
use Rattle.ledger.specs.Faults.{ledger_refusal}
use Rattle.ledger.specs.Calls.{load_answer, due_at, due_answer, booked_at}
use Rattle.cabinet.specs.declared.bill.Bill.{Bill}
use Rattle.cabinet.specs.declared.fault.CabinetFault.{CabinetFault}
use Rattle.cabinet.specs.declared.fault.CabinetFault.TheVariants.{Ledger, Post}
use Rattle.cabinet.specs.Faults.{cabinet_refusal}
use Rattle.cabinet.specs.Settling.{bill_of}
use Rattle.cabinet.specs.Books.{Books, books_with, raised, raised_post, priced, billed as booked, settle_next, bill_answer, bill_after, settled_at, settle_answer, settle_after}
use Rattle.law.specs.Transcript.{Call, posting, opening, reading, settling, paying, closing, showing, posted, billed, refusal, Transcript, post_reply, bill_reply, show_reply, reply_of, after_of, New, Reached, start, more}
use Rattle.law.specs.History.{settles, History, since, months_in, with_deed, with_bill, period_of, kwh_on, account_since}
use Rattle.law.specs.Law.{RightBill, Law-stands}
use Rattle.law.proofs.Growing.{settle_is}
use Rattle.law.proofs.Fairness.{fair-settled}
use Rattle.law.proofs.Loading.{named_ok, made_ok, load-outside, load_inside, keep-cases}
use Rattle.law.proofs.Stepping.{Standing, FairAt, fair-at, refused-step, writing, changed-step, standing-as}
use Rattle.law.proofs.Calling.{loaded, found-is, row-there, written-rows, Made, done-step}
use Rattle.law.proofs.Events.{own, another, kept_at, opening-makes, closing-makes, reading-makes, paying-makes}
use Rattle.law.proofs.Billing.{priced-ok, months-ok, usage-is, right-bill}

none-is-some : (h : History) → None ≡ Some h → ⊥
none-is-some h e = let z : ◌≡◌ {A = ℕ} 0 1 = cc in omega arith

pub raised-ok : {X : Type 0} (r : Result X LedgerFault) (x : X) → raised r ≡ Ok x → r ≡ Ok x
raised-ok (Ok y) x h = cc
raised-ok (Err e) x h = err-not-ok (Ledger e) x h

bill-kwh : (hours : Hours) (t : Tenancy) (m : ℕ) (p : Plan) → kwh_on hours (bill_of t m p) ≡ waiting_in_all hours t
bill-kwh Day t m p = refl
bill-kwh Night t m p = refl

-- what an accepted settlement makes of the history of n
module _ (t : Transcript) (n e : ℕ) (sheet : Tariff) where
  settling-makes-with : (months : List (ℕ × ℕ)) → months ≡ months_in t → (g : History) → since n t ≡ Some g → FairAt (Some g) → (m : ℕ) (p : Plan) (o : Option Tenancy)
      → months_to e (account_since g) ≡ Ok m → priced months n e sheet (account_since g, m) ≡ Ok p → booked_at n e p.cents (account_since g) ≡ Ok o
      → Made (settling n e sheet) (billed (bill_of (account_since g) m p)) n t o
  settling-makes-with months same g at f m p o period price booking =
      let a : Tenancy = account_since g in
      let b : Bill = bill_of a m p in
      let ms = months-ok e m a period in
      let pr = priced-ok months n e sheet a m p price in
      let right = subst (λ u. RightBill sheet u b) (usage-is g.opened g.deeds e m months ms.2) (right-bill months e sheet a m p pr.1.0 ms.0 ms.1 pr.1.1 pr.1.2) in
      let s = made_ok Some (settled e p.cents a) o (named_ok n (made Some (settled e p.cents a)) o booking) in
      let u : Tenancy = s.0 in
      let is = settle_is g.opened g.deeds e sheet (months_in t) b u (settlement-accepted e p.cents a u s.1) in
      let k : Kept u = steps-keep-limits (Settle e p.cents) (Some a) u (kept_at (Some g) f) (ap (made Some) s.1) in
      record {
        history = Some (record { opened = g.opened; deeds = settles e sheet (months_in t) b ∷ g.deeds });
        is = own n (with_deed (settles e sheet (months_in t) b) (since n t)) (since n t) ∙ ap (with_deed (settles e sheet (months_in t) b)) at;
        account = ap Some (sym is) ∙ s.2;
        fair = fair-settled g.opened g.deeds f e sheet (months_in t) b (subst (λ ms. RightBill sheet (period_of g.opened g.deeds e ms) b) same right) ms.3
            (subst (λ ms. e < length ms) same pr.0) (λ hours. bill-kwh hours a m p) (subst Kept is k);
      }

  settling-makes-at : (months : List (ℕ × ℕ)) → months ≡ months_in t → (h : Option History) → since n t ≡ h → FairAt h → (d : Tenancy × ℕ) (x : Option Tenancy × Bill)
      → due_at n e (option_map account_since h) ≡ Ok d → settle_next months n e sheet d ≡ Ok x → Made (settling n e sheet) (billed x.1) n t x.0
  settling-makes-at months same None at f d x due next = err-not-ok (Account n Vacant) d due
  settling-makes-at months same (Some g) at f d x due next =
      let a : Tenancy = account_since g in
      let q = made_ok (λ m. (a, m)) (months_to e a) d (named_ok n (made (λ m. (a, m)) (months_to e a)) d due) in
      let c = chained-ok (priced months n e sheet (a, q.0)) (booked n e (a, q.0)) x (ap (settle_next months n e sheet) q.2 ∙ next) in
      let w = made_ok (λ (o : Option Tenancy). (o, bill_of a q.0 c.0)) (raised (booked_at n e c.0.cents a)) x c.2 in
      subst (λ (y : Option Tenancy × Bill). Made (settling n e sheet) (billed y.1) n t y.0) w.2
      (settling-makes-with months same g at f q.0 c.0 w.0 q.1 c.1 (raised-ok (booked_at n e c.0.cents a) w.0 w.1))

module _ (t : Transcript) (b : Books) (s : Standing t b) (n e : ℕ) (sheet : Tariff) where
  settle-refused : (f : CabinetFault) → settle_answer b n e sheet ≡ Err f → settle_after b n e sheet ≡ b → Standing ((settling n e sheet, bill_reply (settle_answer b n e sheet)) ∷ t) (settle_after b n e sheet)
  settle-refused f a d =
      standing-as (settling n e sheet) t (bill_reply (settle_answer b n e sheet)) (refusal (cabinet_refusal f)) (settle_after b n e sheet) b (ap bill_reply a) d (refused-step (settling n e sheet) (cabinet_refusal f) t b tt s)

  settle-accepted : (x : Option Tenancy × Bill) → n < length b.board.rows → Made (settling n e sheet) (billed x.1) n t x.0 → settle_answer b n e sheet ≡ Ok x.1
      → settle_after b n e sheet ≡ books_with b.months (with_row b.board n (option_map row_of x.0)) → Standing ((settling n e sheet, bill_reply (settle_answer b n e sheet)) ∷ t) (settle_after b n e sheet)
  settle-accepted x within m a d =
      standing-as (settling n e sheet) t (bill_reply (settle_answer b n e sheet)) (billed x.1) (settle_after b n e sheet) (books_with b.months (with_row b.board n (option_map writing m.history))) (ap bill_reply a)
      (d ∙ ap (λ (r : Option Row). books_with b.months (with_row b.board n r)) (written-rows x.0 m.history m.account))
      (changed-step (settling n e sheet) (billed x.1) t b n s refl refl tt within (λ k ne. another n k (with_bill e sheet (months_in t) (billed x.1) (since k t)) (since k t) ne) m.history m.is m.fair)

  settle-by : (r : Result (Option Tenancy × Bill) CabinetFault) → settled_at b n e sheet ≡ r → Standing ((settling n e sheet, bill_reply (settle_answer b n e sheet)) ∷ t) (settle_after b n e sheet)
  settle-by (Err f) q = settle-refused f (ap (bill_answer b n) q) (ap (bill_after b n) q)
  settle-by (Ok x) q =
      let c = chained-ok (raised (due_answer b.board n e)) (settle_next b.months n e sheet) x q in
      let l = chained-ok (load_answer b.board n) (due_at n e) c.0 (raised-ok (due_answer b.board n e) c.0 c.1) in
      let i = load_inside b.board n l.0 l.1 in
      let f = found-is t b s n l.0 l.1 in
      let m = settling-makes-at t n e sheet b.months s.law.months (since n t) refl (fair-at t b s.law n) c.0 x (ap (due_at n e) (sym f) ∙ l.2) c.2 in
      ⊎_elim
      (λ k. settle-refused (Ledger k.0) (ap (bill_answer b n) q ∙ ap (λ (r : Result (Unit {0}) LedgerFault). made (λ _. x.1) (raised r)) k.1) (ap (bill_after b n) q ∙ ap (books_with b.months) k.2))
      (λ k. settle-accepted x (row-there t b s n l.0 l.1) m (ap (bill_answer b n) q ∙ ap (λ (r : Result (Unit {0}) LedgerFault). made (λ _. x.1) (raised r)) k.0) (ap (bill_after b n) q ∙ ap (books_with b.months) k.1))
      (keep-cases b.board n x.0 i)

-- posting
module _ (t : Transcript) (b : Books) (st : Standing t b) (s mx nc : ℕ) where
  posted-more : (month : ℕ × ℕ) → month.1 ≡ nc → Standing ((posting s mx nc, posted (length b.months) month.0) ∷ t) (books_with (b.months ++ month ∷ []) b.board)
  posted-more month e = record {
    law = record {
      months = ap (λ (ms : List (ℕ × ℕ)). ms ++ month ∷ []) st.law.months ∙ ap (λ (x : ℕ). months_in t ++ (month.0, x) ∷ []) e;
      rows = st.law.rows;
      fair = st.law.fair;
      showings = (tt, st.law.showings);
    };
    long = st.long;
  }

  posting-at : (o : Option (ℕ × ℕ)) → month_of s mx nc ≡ o → Standing ((posting s mx nc, post_reply (raised_post (posted_as (length b.months) o))) ∷ t) (books_with (with_month b.months o) b.board)
  posting-at None q = refused-step (posting s mx nc) (cabinet_refusal (Post (OutsideLimits (length b.months)))) t b tt st
  posting-at (Some month) q =
      let p = some-if _ (non_fuel s mx, nc) month q in
      posted-more month (sym (ap (λ (x : ℕ × ℕ). x.1) p.1))

  posting-by : (full : Bool) → leb 1200 (length b.months) ≡ full
      → Standing ((posting s mx nc, post_reply (raised_post (cond full (Err (AllPosted (length b.months))) (posted_as (length b.months) (month_of s mx nc))))) ∷ t) (books_with (cond full b.months (with_month b.months (month_of s mx nc))) b.board)
  posting-by true q = refused-step (posting s mx nc) (cabinet_refusal (Post (AllPosted (length b.months)))) t b tt st
  posting-by false q = posting-at (month_of s mx nc) refl

-- showing
module _ (t : Transcript) (b : Books) (s : Standing t b) (n : ℕ) where
  shown-at : (h : Option History) → since n t ≡ h → Standing ((showing n, show_reply (Ok (option_map account_since h))) ∷ t) b
  shown-at None e = record {
    law = record { months = s.law.months ∙ sym (append-nil (months_in t)); rows = s.law.rows; fair = s.law.fair; showings = (e, s.law.showings) };
    long = s.long;
  }
  shown-at (Some g) e = record {
    law = record { months = s.law.months ∙ sym (append-nil (months_in t)); rows = s.law.rows; fair = s.law.fair; showings = (ap (option_map account_since) e, s.law.showings) };
    long = s.long;
  }

  shown_by : (i : Bool) → inside b.board n ≡ i → Standing ((showing n, show_reply (load_answer b.board n)) ∷ t) b
  shown_by true h =
      standing-as (showing n) t (show_reply (load_answer b.board n)) (show_reply (Ok (option_map account_since (since n t)))) b b (ap show_reply (loaded t b s n h)) refl (shown-at (since n t) refl)
  shown_by false h =
      standing-as (showing n) t (show_reply (load_answer b.board n)) (refusal (ledger_refusal (Board (Outside n)))) b b (ap show_reply (load-outside b.board n h)) refl
      (refused-step (showing n) (ledger_refusal (Board (Outside n))) t b refl s)

pub standing-step : (c : Call) (t : Transcript) (b : Books) → Standing t b → Standing ((c, reply_of b c) ∷ t) (after_of b c)
standing-step (posting s mx nc) t b st = posting-by t b st s mx nc (leb 1200 (length b.months)) refl
standing-step (opening n form) t b st = done-step (opening n form) n (Open form) t b st refl (λ r. tt) (λ k ne. another n k _ (since k t) ne) (opening-makes t n (fair-at t b st.law n) form)
standing-step (reading n new) t b st = done-step (reading n new) n (Read new) t b st refl (λ r. tt) (λ k ne. another n k _ (since k t) ne) (reading-makes t n (fair-at t b st.law n) new)
standing-step (settling n e sheet) t b st = settle-by t b st n e sheet (settled_at b n e sheet) refl
standing-step (paying n cents) t b st = done-step (paying n cents) n (Pay cents) t b st refl (λ r. tt) (λ k ne. another n k _ (since k t) ne) (paying-makes t n (fair-at t b st.law n) cents)
standing-step (closing n) t b st = done-step (closing n) n Close t b st refl (λ r. tt) (λ k ne. another n k _ (since k t) ne) (closing-makes t n (fair-at t b st.law n))
standing-step (showing n) t b st = shown_by t b st n (inside b.board n) refl

pub new-stands : (b : Books) → New b → Standing [] b
new-stands b w = record {
  law = record { months = w.months; rows = w.empty; fair = λ n h e. absurd (none-is-some h e); showings = tt };
  long = w.lawful.long;
}

pub standing : {t : Transcript} {b : Books} → Reached t b → Standing t b
standing (start {b} w) = new-stands b w
standing (more {t} {b} c r) = standing-step c t b (standing r)

pub stands : Law-stands
stands t b r = (standing r).law
