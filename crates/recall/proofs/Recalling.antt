-- What a call leaves is remembered.
use Rattle.std.proofs.Common.{◌≡◌, ℕ, ◌<◌, true, false, cond, ◌&&◌, eqb, ltb, ◌⊎◌, List, [], ◌∷◌, length, is_some, Some, None, Ok, Err, Option, Result, unwrap_or, sym, refl, ap, ◌∙◌, subst, ⊎_elim, arith}
use Rattle.std.proofs.lemmas.List.{get_or-set_same, get_or-set_other}
use Rattle.std.proofs.lemmas.Bool.{cases_eq, ltb-true, eq-eqb, and_from, both_ways}
use Rattle.std.specs.Option.{option_map}
use Rattle.common.specs.Outcomes.{chained}
use Rattle.common.proofs.Outcomes.{err-not-ok, chained-ok}
use Rattle.facts.specs.Forms.{made}
use Rattle.sheet.specs.Tariff.{Tariff}
use Rattle.board.specs.declared.fault.BoardFault.TheVariants.{Outside}
use Rattle.board.specs.Meaning.{BoardMeaning, Row, Lawful, row_at, inside, with_row}
use Rattle.account.specs.declared.event.Event.{Event}
use Rattle.account.specs.declared.event.Event.TheVariants.{Open, Read, Settle, Pay, Close}
use Rattle.account.specs.declared.fault.AccountFault.TheVariants.{Vacant}
use Rattle.account.specs.Kept.{Kept, KeptAt}
use Rattle.account.specs.Tenancy.{Tenancy}
use Rattle.account.specs.Steps.{stepped, found, closed, months_to, settled}
use Rattle.accountlaw.proofs.Staying.{steps-keep-limits}
use Rattle.row.specs.Rows.{row_of, account_of}
use Rattle.row.proofs.Inverse.{read_back, written_back}
use Rattle.ledger.specs.declared.fault.LedgerFault.{LedgerFault}
use Rattle.ledger.specs.declared.fault.LedgerFault.TheVariants.{Account}
use Rattle.ledger.specs.Calls.{raised as raised_board, named, found as found_at, blank, load_answer, next_at, due_at, due_answer, booked_at}
use Rattle.cabinet.specs.declared.bill.Bill.{Bill}
use Rattle.cabinet.specs.declared.fault.CabinetFault.{CabinetFault}
use Rattle.cabinet.specs.Settling.{bill_of}
use Rattle.cabinet.specs.Books.{Books, raised, priced, billed, settled_at, settle_next, done_answer, done_after, settle_answer, settle_after}
use Rattle.law.specs.Transcript.{Call, posting, opening, reading, settling, paying, closing, showing, Reply, accepted, done_reply, bill_reply, show_reply, reply_of, after_of}
use Rattle.law.proofs.Loading.{named_ok, made_ok, load-none, load-some, load_inside}
use Rattle.law.proofs.Standings.{raised-ok}
use Rattle.run.specs.Runs.{after_all}
use Rattle.recall.specs.Recall.{Leaves, may_move, Apart, telling, Remembers, Recalled, Recall-stands}
use Rattle.recall.proofs.Changing.{Outcome, refusing, keeping, done-outcome, settle-outcome}

-- what was read at a number keeps the limits of an account
load_kept : (m : BoardMeaning Row) (n : ℕ) (o : Option Tenancy) → load_answer m n ≡ Ok o → KeptAt o
load_kept m n o h = at (row_at m n) refl
  where
    i : inside m n ≡ true
    i = load_inside m n o h

    at : (r : Option Row) → row_at m n ≡ r → KeptAt o
    at None e = let z : Ok None ≡ Ok o = sym (load-none m n i e) ∙ h in let q : None ≡ o = cc in subst KeptAt q tt
    at (Some row) e =
        let read : load_answer m n ≡ named n (made Some (account_of row)) = rw (i, e) refl in
        let p = made_ok Some (account_of row) o (named_ok n (made Some (account_of row)) o (sym read ∙ h)) in
        subst KeptAt p.2 (written_back row p.0 p.1).0

step_kept : (e : Event) (o next : Option Tenancy) → KeptAt o → stepped e o ≡ Ok next → KeptAt next
step_kept e o None k h = tt
step_kept e o (Some u) k h = steps-keep-limits e o u k h

-- what an event leaves does too
next-kept : (m : BoardMeaning Row) (n : ℕ) (e : Event) (o : Option Tenancy) → next_at m n (stepped e) ≡ Ok o → KeptAt o
next-kept m n e o h =
    let l = chained-ok (load_answer m n) (λ x. named n (stepped e x)) o h in
    step_kept e l.0 o (load_kept m n l.0 l.1) (named_ok n (stepped e l.0) o l.2)

-- and the account that is due
due-kept : (n e : ℕ) (o : Option Tenancy) (d : Tenancy × ℕ) → KeptAt o → due_at n e o ≡ Ok d → Kept d.0
due-kept n e None d k h = err-not-ok (Account n Vacant) d h
due-kept n e (Some t) d k h =
    let p = made_ok (λ m. (t, m)) (months_to e t) d (named_ok n (made (λ m. (t, m)) (months_to e t)) d h) in
    subst (λ (x : Tenancy × ℕ). Kept x.0) p.2 k

-- and what a settlement leaves
settled-kept : (b : Books) (n e : ℕ) (sheet : Tariff) (x : Option Tenancy × Bill) → settled_at b n e sheet ≡ Ok x → KeptAt x.0
settled-kept b n e sheet x h =
    let c = chained-ok (raised (due_answer b.board n e)) (settle_next b.months n e sheet) x h in
    let l = chained-ok (load_answer b.board n) (due_at n e) c.0 (raised-ok (due_answer b.board n e) c.0 c.1) in
    let a : Tenancy = c.0.0 in
    let k : Kept a = due-kept n e l.0 c.0 (load_kept b.board n l.0 l.1) l.2 in
    let p = chained-ok (priced b.months n e sheet c.0) (billed n e c.0) x c.2 in
    let w = made_ok (λ (o : Option Tenancy). (o, bill_of a c.0.1 p.0)) (raised (booked_at n e p.0.cents a)) x p.2 in
    let s = named_ok n (made Some (settled e p.0.cents a)) w.0 (raised-ok (booked_at n e p.0.cents a) w.0 w.1) in
    subst (λ (y : Option Tenancy × Bill). KeptAt y.0) w.2 (step_kept (Settle e p.0.cents) (Some a) w.0 k s)

-- what is read at n hangs on n's row alone
row_read : ℕ → ℕ → Option Row → Result (Option Tenancy) LedgerFault
row_read n c r = chained (raised_board (cond (ltb n c) (Ok (is_some r)) (Err (Outside n)))) (found_at n (cond (ltb n c) (unwrap_or r blank) blank))

load-other : (m : BoardMeaning Row) (k n : ℕ) (r : Option Row) → (n ≡ k → ⊥) → load_answer (with_row m k r) n ≡ load_answer m n
unfolding row_read
load-other m k n r ne = ap (row_read n m.capacity) (get_or-set_other m.rows k n r None ne)

-- what was kept at n is read there
load-kept-row : (m : BoardMeaning Row) (n : ℕ) (o : Option Tenancy) → inside m n ≡ true → n < length m.rows → KeptAt o → load_answer (with_row m n (option_map row_of o)) n ≡ Ok o
load-kept-row m n None i l k = load-none (with_row m n None) n i (get_or-set_same m.rows n None None l)
load-kept-row m n (Some t) i l k = load-some (with_row m n (Some (row_of t))) n (row_of t) t i (get_or-set_same m.rows n (Some (row_of t)) None l) (read_back t k)

module _ {X : Type 0} (b : Books) (k : ℕ) (left : Option Tenancy → X → Type 0) (reply : Result X CabinetFault → Reply) (r : Result X CabinetFault) (d : Books) where
  -- a call that is refused, or on another number, leaves what is read at n
  spared-by : (n : ℕ) → ((x : X) → accepted (reply (Ok x)) ≡ true) → Outcome b k left r d → (eqb k n && accepted (reply r)) ≡ false → load_answer d.board n ≡ load_answer b.board n
  spared-by n takes (refusing f a e) h = ap (λ (y : Books). load_answer y.board n) e
  spared-by n takes (keeping x o l i a e) h =
      ⊎_elim (λ q. absurd (both_ways (eqb k n && accepted (reply r)) h (and_from (eqb k n) (accepted (reply r)) (eq-eqb k n q) (ap (λ (y : Result X CabinetFault). accepted (reply y)) a ∙ takes x))))
      (λ ne. ap (λ (y : Books). load_answer y.board n) e ∙ load-other b.board k n (option_map row_of o) (λ q. ne (sym q))) (cases_eq k n)

  -- what an accepted call left is read there
  left_by : Lawful b.board → ((f : CabinetFault) → accepted (reply (Err f)) ≡ false) → ((o : Option Tenancy) (x : X) → left o x → KeptAt o) → Outcome b k left r d → accepted (reply r) ≡ true
      → (o : Option Tenancy) × (x : X) × left o x × (load_answer d.board k ≡ Ok o)
  left_by w not_taken kept (refusing f a e) h = absurd (both_ways (accepted (reply r)) (ap (λ (y : Result X CabinetFault). accepted (reply y)) a ∙ not_taken f) h)
  left_by w not_taken kept (keeping x o l i a e) h =
      let within : k < length b.board.rows = omega (arith, ltb-true k b.board.capacity i, w.long) in
      (o, x, l, ap (λ (y : Books). load_answer y.board k) e ∙ load-kept-row b.board k o i within (kept o x l))

spared-done : (b : Books) (k : ℕ) (e : Event) (n : ℕ) → (eqb k n && accepted (done_reply (done_answer b k e))) ≡ false → load_answer (done_after b k e).board n ≡ load_answer b.board n
spared-done b k e n h = spared-by b k (λ o x. next_at b.board k (stepped e) ≡ Ok o) done_reply (done_answer b k e) (done_after b k e) n (λ x. refl) (done-outcome b k e) h

spared : (b : Books) (c : Call) (n : ℕ) → (may_move n c && accepted (reply_of b c)) ≡ false → load_answer (after_of b c).board n ≡ load_answer b.board n
spared b (posting s mx nc) n h = refl
spared b (opening k form) n h = spared-done b k (Open form) n h
spared b (reading k indices) n h = spared-done b k (Read indices) n h
spared b (settling k e sheet) n h =
    spared-by b k (λ o x. settled_at b k e sheet ≡ Ok (o, x)) bill_reply (settle_answer b k e sheet) (settle_after b k e sheet) n (λ x. refl) (settle-outcome b k e sheet) h
spared b (paying k cents) n h = spared-done b k (Pay cents) n h
spared b (closing k) n h = spared-done b k Close n h
spared b (showing k) n h = refl

show-tells : (o : Option Tenancy) → show_reply (Ok o) ≡ telling o
show-tells None = refl
show-tells (Some t) = refl

-- what is read at n is told by a showing, whatever came between
remembers : (n : ℕ) (o : Option Tenancy) (calls : List Call) (b : Books) → load_answer b.board n ≡ Ok o → Apart n b calls → reply_of (after_all b calls) (showing n) ≡ telling o
remembers n o [] b h a = ap show_reply h ∙ show-tells o
remembers n o (c ∷ calls) b h a = remembers n o calls (after_of b c) (spared b c n a.0 ∙ h) a.1

-- the number of a call by another name
recalled-at : (b : Books) (c : Call) (k n : ℕ) → Some k ≡ Some n → (o : Option Tenancy) → Leaves b c o → load_answer (after_of b c).board k ≡ Ok o → (x : Option Tenancy) × Leaves b c x × Remembers (after_of b c) n x
recalled-at b c k n e o l h =
    let same : k ≡ n = cc in
    (o, l, λ calls a. remembers n o calls (after_of b c) (subst (λ (j : ℕ). load_answer (after_of b c).board j ≡ Ok o) same h) a)

recalled-done : (b : Books) (k : ℕ) (e : Event) → Lawful b.board → accepted (done_reply (done_answer b k e)) ≡ true → (o : Option Tenancy) × (next_at b.board k (stepped e) ≡ Ok o) × (load_answer (done_after b k e).board k ≡ Ok o)
recalled-done b k e w h =
    let p = left_by b k (λ o x. next_at b.board k (stepped e) ≡ Ok o) done_reply (done_answer b k e) (done_after b k e) w (λ f. refl) (λ o x l. next-kept b.board k e o l) (done-outcome b k e) h in
    (p.0, p.2, p.3)

-- a closing leaves none
closing-leaves : (m : BoardMeaning Row) (n : ℕ) (o : Option Tenancy) → next_at m n (stepped Close) ≡ Ok o → o ≡ None
closing-leaves m n o h =
    let l = chained-ok (load_answer m n) (λ x. named n (stepped Close x)) o h in
    let p = made_ok (λ _. None) (chained (found l.0) closed) o (named_ok n (stepped Close l.0) o l.2) in
    sym p.2

-- a showing that is not refused found something, or nothing
show-found : (r : Result (Option Tenancy) LedgerFault) → accepted (show_reply r) ≡ true → (o : Option Tenancy) × (r ≡ Ok o)
show-found (Ok o) h = (o, refl)
show-found (Err f) h = absurd (both_ways false refl h)

pub recalls : Recall-stands
recalls b (posting s mx nc) w n e h = absurd (let z : ◌≡◌ {A = ℕ} 0 1 = cc in omega arith)
recalls b (opening k form) w n e h = let p = recalled-done b k (Open form) w h in recalled-at b (opening k form) k n e p.0 p.1 p.2
recalls b (reading k indices) w n e h = let p = recalled-done b k (Read indices) w h in recalled-at b (reading k indices) k n e p.0 p.1 p.2
recalls b (settling k t sheet) w n e h =
    let p = left_by b k (λ o x. settled_at b k t sheet ≡ Ok (o, x)) bill_reply (settle_answer b k t sheet) (settle_after b k t sheet) w (λ f. refl) (λ o x l. settled-kept b k t sheet (o, x) l) (settle-outcome b k t sheet) h in
    recalled-at b (settling k t sheet) k n e p.0 (p.1, p.2) p.3
recalls b (paying k cents) w n e h = let p = recalled-done b k (Pay cents) w h in recalled-at b (paying k cents) k n e p.0 p.1 p.2
recalls b (closing k) w n e h = let p = recalled-done b k Close w h in recalled-at b (closing k) k n e p.0 (closing-leaves b.board k p.0 p.1) p.2
recalls b (showing k) w n e h = let p = show-found (load_answer b.board k) h in recalled-at b (showing k) k n e p.0 p.1 p.1

-- the same with the answer and the books that a cabinet gave
pub recalled-as : (b : Books) (c : Call) (r : Reply) (d : Books) → Lawful b.board → r ≡ reply_of b c → d ≡ after_of b c → Recalled b c r d
recalled-as b c r d w p q = subst (Recalled b c r) (sym q) (subst (λ (x : Reply). Recalled b c x (after_of b c)) (sym p) (recalls b c w))
