-- What a cabinet means, and what each call answers and leaves.
use Rattle.std.specs.Prelude.{ℕ, Bool, cond, List, length, Some, None, Ok, Err, Option, Result, nat_lt}
use Rattle.common.specs.Outcomes.{chained}
use Rattle.facts.specs.Forms.{made}
use Rattle.facts.specs.Usage.{Usage}
use Rattle.sheet.specs.declared.plan.Plan.{Plan}
use Rattle.sheet.specs.Tariff.{Tariff}
use Rattle.sheet.specs.Choice.{chosen}
use Rattle.board.specs.Meaning.{BoardMeaning, Row, read_after}
use Rattle.account.specs.declared.event.Event.{Event}
use Rattle.account.specs.Tenancy.{Tenancy}
use Rattle.account.specs.Steps.{stepped}
use Rattle.ledger.specs.declared.fault.LedgerFault.{LedgerFault}
use Rattle.ledger.specs.Calls as ledger
use Rattle.ledger.specs.Calls.{keep_answer, keep_after, call_answer, call_after, show_answer, due_answer, booked_at}
use Rattle.months.specs.declared.fault.PostFault.{PostFault}
use Rattle.months.specs.Posted.{posted_of, post_answer, post_after, ne_sum_of, nc_sum_of}
use Rattle.cabinet.specs.declared.bill.Bill.{Bill}
use Rattle.cabinet.specs.declared.cabinet.Cabinet.{Cabinet}
use Rattle.cabinet.specs.declared.fault.CabinetFault.{CabinetFault}
use Rattle.cabinet.specs.declared.fault.CabinetFault.TheVariants.{Ledger, Post, NotPosted, NoPlan}
use Rattle.cabinet.specs.Settling.{usage_with, bill_of}

-- the books of a cabinet: the figures of the months posted, the first one first, and what its board means
pub record Books : Type 0 where
  pub months : List (ℕ × ℕ)
  pub board : BoardMeaning Row

abbrev pub books_with : List (ℕ × ℕ) → BoardMeaning Row → Books
books_with months board = record { months = months; board = board }

abbrev pub books_of : {B : Type 0} → (B → BoardMeaning Row) → Cabinet B → Books
books_of meaning c = books_with (posted_of c.months) (meaning c.ledger.board)

-- an answer of the ledger, and of posting, as the cabinet's
abbrev pub raised : {X : Type 0} → Result X LedgerFault → Result X CabinetFault
raised (Ok x) = Ok x
raised (Err f) = Err (Ledger f)

abbrev pub raised_post : {X : Type 0} → Result X PostFault → Result X CabinetFault
raised_post (Ok x) = Ok x
raised_post (Err f) = Err (Post f)

-- posting
abbrev pub posted_answer : Books → ℕ → ℕ → ℕ → Result (ℕ × ℕ) CabinetFault
posted_answer b s mx nc = raised_post (post_answer b.months s mx nc)

abbrev pub posted_after : Books → ℕ → ℕ → ℕ → Books
posted_after b s mx nc = books_with (post_after b.months s mx nc) b.board

-- opening, reading, paying and closing: an event on the account of n
abbrev pub done_answer : Books → ℕ → Event → Result (Unit {0}) CabinetFault
done_answer b n e = raised (call_answer b.board n (stepped e))

abbrev pub done_after : Books → ℕ → Event → Books
done_after b n e = books_with b.months (call_after b.board n (stepped e))

-- showing
abbrev pub shown_answer : Books → ℕ → Result Bool CabinetFault
shown_answer b n = raised (show_answer b.board n)

abbrev pub shown_after : Books → ℕ → Books
shown_after b n = books_with b.months (read_after b.board n)

-- reading a number's row as the board holds it
abbrev pub row_answer : Books → ℕ → Result Bool CabinetFault
row_answer b n = raised (ledger.row_answer b.board n)

abbrev pub row_after : Books → ℕ → Books
row_after b n = books_with b.months (read_after b.board n)

-- settling: the usage of an account's next m months
abbrev pub usage_at : List (ℕ × ℕ) → Tenancy → ℕ → Usage
usage_at months t m = usage_with t m (ne_sum_of months t.next m) (nc_sum_of months t.next m)

abbrev pub planned : ℕ → Option Plan → Result Plan CabinetFault
planned n None = Err (NoPlan n)
planned n (Some p) = Ok p

-- the cheapest plan for these months up to e, where they are posted
abbrev pub priced : List (ℕ × ℕ) → ℕ → ℕ → Tariff → Tenancy × ℕ → Result Plan CabinetFault
priced months n e sheet d =
    cond (nat_lt e (length months)) (planned n (chosen sheet (usage_at months d.0 d.1))) (Err (NotPosted n))

-- the account with a plan's cents booked, and the bill, or why not
abbrev pub billed : ℕ → ℕ → Tenancy × ℕ → Plan → Result (Option Tenancy × Bill) CabinetFault
billed n e d p = made (λ next. (next, bill_of d.0 d.1 p)) (raised (booked_at n e p.cents d.0))

-- what stands at n after the settlement of an account's period, with its bill, or why not
abbrev pub settle_next : List (ℕ × ℕ) → ℕ → ℕ → Tariff → Tenancy × ℕ → Result (Option Tenancy × Bill) CabinetFault
settle_next months n e sheet d = chained (priced months n e sheet d) (billed n e d)

-- the bill is answered once the account is kept, and a refusal leaves the books
abbrev pub bill_answer : Books → ℕ → Result (Option Tenancy × Bill) CabinetFault → Result Bill CabinetFault
bill_answer b n (Err f) = Err f
bill_answer b n (Ok x) = made (λ _. x.1) (raised (keep_answer b.board n x.0))

abbrev pub bill_after : Books → ℕ → Result (Option Tenancy × Bill) CabinetFault → Books
bill_after b n (Err f) = b
bill_after b n (Ok x) = books_with b.months (keep_after b.board n x.0)

-- settling
abbrev pub settled_at : Books → ℕ → ℕ → Tariff → Result (Option Tenancy × Bill) CabinetFault
settled_at b n e sheet = chained (raised (due_answer b.board n e)) (settle_next b.months n e sheet)

abbrev pub settle_answer : Books → ℕ → ℕ → Tariff → Result Bill CabinetFault
settle_answer b n e sheet = bill_answer (shown_after b n) n (settled_at b n e sheet)

abbrev pub settle_after : Books → ℕ → ℕ → Tariff → Books
settle_after b n e sheet = bill_after (shown_after b n) n (settled_at b n e sheet)
