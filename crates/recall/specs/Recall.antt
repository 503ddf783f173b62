-- What an accepted call leaves at its number is what the next showing of that number tells.
use Rattle.std.specs.Prelude.{◌≡◌, ℕ, Bool, true, false, ◌&&◌, List, [], ◌∷◌, Some, None, Ok, Option, ◌==◌}
use Rattle.board.specs.Meaning.{Lawful}
use Rattle.account.specs.declared.event.Event.TheVariants.{Open, Read, Pay}
use Rattle.account.specs.Tenancy.{Tenancy}
use Rattle.account.specs.Steps.{stepped}
use Rattle.ledger.specs.Calls.{load_answer, next_at}
use Rattle.cabinet.specs.declared.bill.Bill.{Bill}
use Rattle.cabinet.specs.Books.{Books, settled_at}
use Rattle.law.specs.Transcript.{Call, posting, opening, reading, settling, paying, closing, showing, Reply, shown, vacant, accepted, reply_of, after_of}
use Rattle.run.specs.Runs.{after_all}

-- the number that a call is on; a posting is on none
abbrev pub number_of : Call → Option ℕ
number_of (posting s mx nc) = None
number_of (opening n form) = Some n
number_of (reading n indices) = Some n
number_of (settling n e sheet) = Some n
number_of (paying n cents) = Some n
number_of (closing n) = Some n
number_of (showing n) = Some n

-- what a call leaves at its number: what its event or its settlement makes of what stood there; a closing leaves none, and a showing what it found
abbrev pub Leaves : Books → Call → Option Tenancy → Type 0
Leaves b (posting s mx nc) o = ⊥
Leaves b (opening n form) o = next_at b.board n (stepped (Open form)) ≡ Ok o
Leaves b (reading n indices) o = next_at b.board n (stepped (Read indices)) ≡ Ok o
Leaves b (settling n e sheet) o = (bill : Bill) × (settled_at b n e sheet ≡ Ok (o, bill))
Leaves b (paying n cents) o = next_at b.board n (stepped (Pay cents)) ≡ Ok o
Leaves b (closing n) o = o ≡ None
Leaves b (showing n) o = load_answer b.board n ≡ Ok o

-- a call that may move the account of n: an opening, a reading, a settlement, a payment or a closing of n
abbrev pub may_move : ℕ → Call → Bool
may_move n (posting s mx nc) = false
may_move n (opening k form) = k == n
may_move n (reading k indices) = k == n
may_move n (settling k e sheet) = k == n
may_move n (paying k cents) = k == n
may_move n (closing k) = k == n
may_move n (showing k) = false

-- calls made from the books b on leave the account of n: each is a posting, a showing, on another number, or refused
abbrev pub Apart : ℕ → Books → List Call → Type 0
Apart n b [] = Unit {0}
Apart n b (c ∷ calls) = ((may_move n c && accepted (reply_of b c)) ≡ false) × Apart n (after_of b c) calls

-- what a showing tells where this stands
abbrev pub telling : Option Tenancy → Reply
telling None = vacant
telling (Some t) = shown t

-- from the books b on, whatever calls that leave n's account come between, a showing of n tells o
abbrev pub Remembers : Books → ℕ → Option Tenancy → Type 0
Remembers b n o = (calls : List Call) → Apart n b calls → reply_of (after_all b calls) (showing n) ≡ telling o

-- a call on n, made where the books b stand and answered r, and the books d afterwards: if it was accepted, what it left at n is remembered
abbrev pub Recalled : Books → Call → Reply → Books → Type 0
Recalled b c r d = (n : ℕ) → number_of c ≡ Some n → accepted r ≡ true → (o : Option Tenancy) × Leaves b c o × Remembers d n o

-- so it is for every cabinet on every board, whatever rows the board held at the making
abbrev pub Recall-stands : Type 0
Recall-stands = (b : Books) (c : Call) → Lawful b.board → Recalled b c (reply_of b c) (after_of b c)
