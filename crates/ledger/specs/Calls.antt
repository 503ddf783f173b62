-- What a call on one account answers, and what the board means afterwards: its row is read once, and stored or cleared at most once.
use Rattle.std.specs.Prelude.{ℕ, Bool, true, false, replicate, is_some, Some, None, Ok, Err, Option, Result}
use Rattle.common.specs.Outcomes.{chained}
use Rattle.facts.specs.Forms.{made}
use Rattle.board.specs.declared.fault.BoardFault.{BoardFault}
use Rattle.board.specs.Meaning.{BoardMeaning, Row, read_answer, read_place, read_after, store_answer, stored, clear_answer, cleared}
use Rattle.account.specs.declared.fault.AccountFault.{AccountFault}
use Rattle.account.specs.declared.fault.AccountFault.TheVariants.{Vacant}
use Rattle.account.specs.Tenancy.{Tenancy, tenancy_of}
use Rattle.account.specs.Steps.{months_to, settled}
use Rattle.row.specs.Rows.{row_of, account_of}
use Rattle.ledger.specs.declared.due.Due.{Due}
use Rattle.ledger.specs.declared.fault.LedgerFault.{LedgerFault}
use Rattle.ledger.specs.declared.fault.LedgerFault.TheVariants.{Board, Account}

-- a board's answer as the ledger's
abbrev pub raised : {X : Type 0} → Result X BoardFault → Result X LedgerFault
raised (Ok x) = Ok x
raised (Err f) = Err (Board f)

-- an account's answer as the ledger's, with the number of the account
abbrev pub named : {X : Type 0} → ℕ → Result X AccountFault → Result X LedgerFault
named n (Ok x) = Ok x
named n (Err f) = Err (Account n f)

-- the account that a row is, where one was found
abbrev pub found : ℕ → Row → Bool → Result (Option Tenancy) LedgerFault
found n row false = Ok None
found n row true = named n (made Some (account_of row))

-- where a row is read to
unfoldable pub blank : Row
blank = replicate 128 0

-- what stands at a number
abbrev pub load_answer : BoardMeaning Row → ℕ → Result (Option Tenancy) LedgerFault
load_answer m n = chained (raised (read_answer m n)) (found n (read_place m n blank))

-- storing an account's row, or clearing it
abbrev pub keep_answer : BoardMeaning Row → ℕ → Option Tenancy → Result (Unit {0}) LedgerFault
keep_answer m n (Some t) = raised (store_answer m n)
keep_answer m n None = raised (clear_answer m n)

abbrev pub keep_after : BoardMeaning Row → ℕ → Option Tenancy → BoardMeaning Row
keep_after m n (Some t) = stored m n (row_of t)
keep_after m n None = cleared m n

-- what stands at a number after an event on what stood there, or why not
abbrev pub next_at : BoardMeaning Row → ℕ → (Option Tenancy → Result (Option Tenancy) AccountFault) → Result (Option Tenancy) LedgerFault
next_at m n next = chained (load_answer m n) (λ o. named n (next o))

-- what an event on the account of a number answers
abbrev pub call_answer : BoardMeaning Row → ℕ → (Option Tenancy → Result (Option Tenancy) AccountFault) → Result (Unit {0}) LedgerFault
call_answer m n next = chained (next_at m n next) (keep_answer (read_after m n) n)

-- and the board afterwards: a refusal leaves it
abbrev pub kept_after : BoardMeaning Row → ℕ → Result (Option Tenancy) LedgerFault → BoardMeaning Row
kept_after m n (Ok o) = keep_after m n o
kept_after m n (Err f) = m

abbrev pub call_after : BoardMeaning Row → ℕ → (Option Tenancy → Result (Option Tenancy) AccountFault) → BoardMeaning Row
call_after m n next = kept_after (read_after m n) n (next_at m n next)

-- what showing answers, and what the caller's place holds then
abbrev pub show_answer : BoardMeaning Row → ℕ → Result Bool LedgerFault
show_answer m n = made is_some (load_answer m n)

abbrev pub show_place : Result (Option Tenancy) LedgerFault → Tenancy → Tenancy
show_place (Err f) place = place
show_place (Ok None) place = place
show_place (Ok (Some t)) place = t

-- what reading a number's row as it stands answers; the place and the board afterwards are the board's own
abbrev pub row_answer : BoardMeaning Row → ℕ → Result Bool LedgerFault
row_answer m n = raised (read_answer m n)

-- settling, the ledger's first half: the account and the months of its period up to e
abbrev pub due_at : ℕ → ℕ → Option Tenancy → Result (Tenancy × ℕ) LedgerFault
due_at n e None = Err (Account n Vacant)
due_at n e (Some t) = named n (made (λ m. (t, m)) (months_to e t))

abbrev pub due_answer : BoardMeaning Row → ℕ → ℕ → Result (Tenancy × ℕ) LedgerFault
due_answer m n e = chained (load_answer m n) (due_at n e)

-- and its second half: the account with so many cents booked, or why not
abbrev pub booked_at : ℕ → ℕ → ℕ → Tenancy → Result (Option Tenancy) LedgerFault
booked_at n e cents t = named n (made Some (settled e cents t))

abbrev pub book_answer : BoardMeaning Row → ℕ → ℕ → ℕ → Tenancy → Result (Unit {0}) LedgerFault
book_answer m n e cents t = chained (booked_at n e cents t) (keep_answer m n)

abbrev pub book_after : BoardMeaning Row → ℕ → ℕ → ℕ → Tenancy → BoardMeaning Row
book_after m n e cents t = kept_after m n (booked_at n e cents t)

-- an account and the months of its period, as plain figures
abbrev pub due_of : Due → Tenancy × ℕ
due_of d = (tenancy_of d.account, d.months)
