-- Calls on one account: refused with nothing moved, or accepted with its row set.
use Rattle.std.proofs.Common.{◌≡◌, ℕ, ◌<◌, true, ◌⊎◌, [], ◌∷◌, length, Some, None, Ok, Err, Option, Result, sym, refl, ap, ◌∙◌, ⊎_elim, arith}
use Rattle.std.proofs.lemmas.Bool.Decides.{nat_tests}
use Rattle.std.specs.Option.{option_map}
use Rattle.common.specs.Outcomes.{chained}
use Rattle.common.proofs.Outcomes.{chained-ok}
use Rattle.board.specs.Meaning.{Row, row_at, inside, with_row}
use Rattle.account.specs.declared.event.Event.{Event}
use Rattle.account.specs.Tenancy.{Tenancy}
use Rattle.account.specs.Steps.{stepped}
use Rattle.row.specs.Rows.{row_of}
use Rattle.ledger.specs.declared.fault.LedgerFault.{LedgerFault}
use Rattle.ledger.specs.Calls.{named, load_answer, next_at, keep_answer, kept_after}
use Rattle.cabinet.specs.Faults.{cabinet_refusal}
use Rattle.cabinet.specs.declared.fault.CabinetFault.TheVariants.{Ledger}
use Rattle.cabinet.specs.Books.{Books, books_with, raised, done_answer, done_after}
use Rattle.law.specs.Transcript.{Call, Reply, done, refusal, done_reply, Transcript}
use Rattle.law.specs.History.{History, since, moved, months_in, posted_by, account_since}
use Rattle.law.specs.Law.{Showed}
use Rattle.law.proofs.Loading.{named_ok, load-none, load-some, load_inside, keep-cases}
use Rattle.law.proofs.Stepping.{Standing, FairAt, fair-at, refused-step, writing, changed-step, standing-as}

-- what stands at a number is what its history makes
pub loaded : (t : Transcript) (b : Books) → Standing t b → (n : ℕ) → inside b.board n ≡ true → load_answer b.board n ≡ Ok (option_map account_since (since n t))
loaded t b s n h = at (since n t) (s.law.rows n) (fair-at t b s.law n)
  where
    at : (o : Option History) → row_at b.board n ≡ option_map writing o → FairAt o → load_answer b.board n ≡ Ok (option_map account_since o)
    at None e f = load-none b.board n h e
    at (Some g) e f = load-some b.board n (writing g) (account_since g) h e f.row

-- what was found there is what the history makes
pub found-is : (t : Transcript) (b : Books) → Standing t b → (n : ℕ) (o : Option Tenancy) → load_answer b.board n ≡ Ok o → o ≡ option_map account_since (since n t)
found-is t b s n o h = let l = loaded t b s n (load_inside b.board n o h) in let e : Ok o ≡ Ok (option_map account_since (since n t)) = sym h ∙ l in cc

pub row-there : (t : Transcript) (b : Books) → Standing t b → (n : ℕ) (o : Option Tenancy) → load_answer b.board n ≡ Ok o → n < length b.board.rows
row-there t b s n o h = let i = load_inside b.board n o h in let l = s.long in grind (arith, nat_tests)

pub written-rows : (o : Option Tenancy) (h : Option History) → option_map account_since h ≡ o → option_map row_of o ≡ option_map writing h
written-rows o h e = ap (option_map row_of) (sym e) ∙ at h
  where
    at : (g : Option History) → option_map row_of (option_map account_since g) ≡ option_map writing g
    at None = refl
    at (Some g) = refl

-- what an accepted event makes of the history of n
pub record Made (c : Call) (r : Reply) (n : ℕ) (t : Transcript) (o : Option Tenancy) : Type 0 where
  pub history : Option History
  pub is : moved n c r (months_in t) (since n t) ≡ history
  pub account : option_map account_since history ≡ o
  pub fair : FairAt history

module _ (c : Call) (n : ℕ) (e : Event) (t : Transcript) (b : Books) (s : Standing t b) (quiet : posted_by c done ≡ []) (shows : (r : Reply) → Showed c r t)
    (others : (k : ℕ) → (k ≡ n → ⊥) → moved k c done (months_in t) (since k t) ≡ since k t)
    (makes : (o : Option Tenancy) → stepped e (option_map account_since (since n t)) ≡ Ok o → Made c done n t o) where
  refused-here : (f : LedgerFault) → done_answer b n e ≡ Err (Ledger f) → done_after b n e ≡ b → Standing ((c, done_reply (done_answer b n e)) ∷ t) (done_after b n e)
  refused-here f a d =
      standing-as c t (done_reply (done_answer b n e)) (refusal (cabinet_refusal (Ledger f))) (done_after b n e) b (ap done_reply a) d
      (refused-step c (cabinet_refusal (Ledger f)) t b (shows (refusal (cabinet_refusal (Ledger f)))) s)

  accepted-here : (o : Option Tenancy) → n < length b.board.rows → Made c done n t o → done_answer b n e ≡ Ok tt → done_after b n e ≡ books_with b.months (with_row b.board n (option_map row_of o)) → Standing ((c, done_reply (done_answer b n e)) ∷ t) (done_after b n e)
  accepted-here o within m a d =
      standing-as c t (done_reply (done_answer b n e)) done (done_after b n e) (books_with b.months (with_row b.board n (option_map writing m.history))) (ap done_reply a)
      (d ∙ ap (λ (r : Option Row). books_with b.months (with_row b.board n r)) (written-rows o m.history m.account))
      (changed-step c done t b n s refl quiet (shows done) within others m.history m.is m.fair)

  by_next : (r : Result (Option Tenancy) LedgerFault) → next_at b.board n (stepped e) ≡ r → Standing ((c, done_reply (done_answer b n e)) ∷ t) (done_after b n e)
  by_next (Err f) q =
      refused-here f (ap (λ (x : Result (Option Tenancy) LedgerFault). raised (chained x (keep_answer b.board n))) q) (ap (λ (x : Result (Option Tenancy) LedgerFault). books_with b.months (kept_after b.board n x)) q)
  by_next (Ok o) q =
      let l = chained-ok (load_answer b.board n) (λ x. named n (stepped e x)) o q in
      let i = load_inside b.board n l.0 l.1 in
      let f = found-is t b s n l.0 l.1 in
      let m = makes o (ap (stepped e) (sym f) ∙ named_ok n (stepped e l.0) o l.2) in
      ⊎_elim
      (λ k.
      refused-here k.0 (ap (λ (x : Result (Option Tenancy) LedgerFault). raised (chained x (keep_answer b.board n))) q ∙ ap raised k.1)
      (ap (λ (x : Result (Option Tenancy) LedgerFault). books_with b.months (kept_after b.board n x)) q ∙ ap (books_with b.months) k.2))
      (λ k.
      accepted-here o (row-there t b s n l.0 l.1) m (ap (λ (x : Result (Option Tenancy) LedgerFault). raised (chained x (keep_answer b.board n))) q ∙ ap raised k.0)
      (ap (λ (x : Result (Option Tenancy) LedgerFault). books_with b.months (kept_after b.board n x)) q ∙ ap (books_with b.months) k.1))
      (keep-cases b.board n o i)

  pub done-step : Standing ((c, done_reply (done_answer b n e)) ∷ t) (done_after b n e)
  done-step = by_next (next_at b.board n (stepped e)) refl
