-- Calls on a cabinet with what they were answered, and the transcripts that a new cabinet can come to.
use Rattle.std.specs.Prelude.{◌≡◌, ℕ, Bool, true, false, List, [], ◌∷◌, Some, None, Ok, Err, Option, Result}
use Rattle.refusal.specs.declared.Refusal.{Refusal}
use Rattle.sheet.specs.Tariff.{Tariff}
use Rattle.board.specs.Meaning.{Lawful, row_at}
use Rattle.account.specs.declared.event.OpeningForm.{OpeningForm}
use Rattle.account.specs.declared.event.Event.TheVariants.{Open, Read, Pay, Close}
use Rattle.account.specs.Tenancy.{Tenancy}
use Rattle.ledger.specs.declared.fault.LedgerFault.{LedgerFault}
use Rattle.ledger.specs.Faults.{ledger_refusal}
use Rattle.ledger.specs.Calls.{load_answer}
use Rattle.cabinet.specs.declared.bill.Bill.{Bill}
use Rattle.cabinet.specs.declared.fault.CabinetFault.{CabinetFault}
use Rattle.cabinet.specs.Faults.{cabinet_refusal}
use Rattle.cabinet.specs.Books.{Books, posted_answer, posted_after, done_answer, done_after, settle_answer, settle_after, shown_after}

-- a call with what it was handed, any numbers; a settlement holds what its sheet means
pub data Call : Type 0 where
  posting : ℕ → ℕ → ℕ → Call
  opening : ℕ → OpeningForm → Call
  reading : ℕ → List ℕ → Call
  settling : ℕ → ℕ → Tariff → Call
  paying : ℕ → ℕ → Call
  closing : ℕ → Call
  showing : ℕ → Call

-- what a call is answered: a month with its N_E, done, a bill, an account, vacant, or a refusal
pub data Reply : Type 0 where
  posted : ℕ → ℕ → Reply
  done : Reply
  billed : Bill → Reply
  shown : Tenancy → Reply
  vacant : Reply
  refusal : Refusal → Reply

-- a call that is not refused is accepted
abbrev pub accepted : Reply → Bool
accepted (posted month ne) = true
accepted done = true
accepted (billed b) = true
accepted (shown t) = true
accepted vacant = true
accepted (refusal r) = false

-- calls with their answers, the newest first
abbrev pub Transcript : Type 0
Transcript = List (Call × Reply)

abbrev pub post_reply : Result (ℕ × ℕ) CabinetFault → Reply
post_reply (Ok p) = posted p.0 p.1
post_reply (Err f) = refusal (cabinet_refusal f)

abbrev pub done_reply : Result (Unit {0}) CabinetFault → Reply
done_reply (Ok u) = done
done_reply (Err f) = refusal (cabinet_refusal f)

abbrev pub bill_reply : Result Bill CabinetFault → Reply
bill_reply (Ok b) = billed b
bill_reply (Err f) = refusal (cabinet_refusal f)

abbrev pub show_reply : Result (Option Tenancy) LedgerFault → Reply
show_reply (Ok None) = vacant
show_reply (Ok (Some t)) = shown t
show_reply (Err f) = refusal (ledger_refusal f)

-- what a call is answered where these books stand
abbrev pub reply_of : Books → Call → Reply
reply_of b (posting s mx nc) = post_reply (posted_answer b s mx nc)
reply_of b (opening n form) = done_reply (done_answer b n (Open form))
reply_of b (reading n indices) = done_reply (done_answer b n (Read indices))
reply_of b (settling n e sheet) = bill_reply (settle_answer b n e sheet)
reply_of b (paying n cents) = done_reply (done_answer b n (Pay cents))
reply_of b (closing n) = done_reply (done_answer b n Close)
reply_of b (showing n) = show_reply (load_answer b.board n)

-- and the books that stand then
abbrev pub after_of : Books → Call → Books
after_of b (posting s mx nc) = posted_after b s mx nc
after_of b (opening n form) = done_after b n (Open form)
after_of b (reading n indices) = done_after b n (Read indices)
after_of b (settling n e sheet) = settle_after b n e sheet
after_of b (paying n cents) = done_after b n (Pay cents)
after_of b (closing n) = done_after b n Close
after_of b (showing n) = shown_after b n

-- the books of a new cabinet: no month, and a board that keeps its meaning and holds no rows
pub record New (b : Books) : Type 0 where
  pub months : b.months ≡ []
  pub lawful : Lawful b.board
  pub empty : (n : ℕ) → row_at b.board n ≡ None

-- the transcript t of a new cabinet ends in the books b
pub data Reached : Transcript → Books → Type 0 where
  start : {b : Books} → New b → Reached [] b
  more : {t : Transcript} {b : Books} (c : Call) → Reached t b → Reached ((c, reply_of b c) ∷ t) (after_of b c)
