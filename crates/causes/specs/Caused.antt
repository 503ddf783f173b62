-- No refusal without its cause.
use Rattle.std.specs.Prelude.{◌≡◌, ℕ, true, ◌⊎◌, List, [], ◌∷◌, Some, None, Option, ◌≢◌}
use Rattle.refusal.specs.declared.Refusal.{Refusal}
use Rattle.cabinet.specs.Books.{Books}
use Rattle.law.specs.Transcript.{Call, Reply, posted, done, billed, shown, vacant, refusal, accepted, reply_of, Transcript, Reached}
use Rattle.causes.specs.Causes.{Cause, causes_of}

-- the refusal in an answer, if it is one
abbrev pub refusal_in : Reply → Option Refusal
refusal_in (posted month ne) = None
refusal_in done = None
refusal_in (billed b) = None
refusal_in (shown t) = None
refusal_in vacant = None
refusal_in (refusal r) = Some r

-- the first of these causes that stands gives the refusal, and there is none where none stands
abbrev pub ByFirst : List Cause → Option Refusal → Type 0
ByFirst [] o = o ≡ None
ByFirst (c ∷ causes) o = (c.stands × (o ≡ Some c.gives)) ⊎ ((c.stands → ⊥) × ByFirst causes o)

-- none of these causes stands
abbrev pub NoneStands : List Cause → Type 0
NoneStands [] = Unit {0}
NoneStands (c ∷ causes) = (c.stands → ⊥) × NoneStands causes

-- a call answered r after the transcript t, on a board of this capacity and limit:
pub record Caused (capacity limit : ℕ) (t : Transcript) (c : Call) (r : Reply) : Type 0 where
  -- it is refused by the first of its causes that stands, with that cause's number, layer and place;
  pub first : ByFirst (causes_of capacity limit t c) (refusal_in r)
  -- it is accepted exactly if none of them stands;
  pub free : NoneStands (causes_of capacity limit t c) → accepted r ≡ true
  pub freed : accepted r ≡ true → NoneStands (causes_of capacity limit t c)
  -- and never is a row found that is no account's.
  pub whole : (x : Refusal) → refusal_in r ≡ Some x → x.number ≢ 17

-- a call answered r where these books stand, after any transcript of a new cabinet that ends in them
abbrev pub CausedAt : Books → Call → Reply → Type 0
CausedAt b c r = (t : Transcript) → Reached t b → Caused b.board.capacity b.board.limit t c r

-- so it is of every call that a cabinet answers
abbrev pub Causes-stand : Type 0
Causes-stand = (b : Books) (c : Call) → CausedAt b c (reply_of b c)
