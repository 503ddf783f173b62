-- Calls one after the other: what they are answered, the books that stand then, and how a transcript goes on.
use Rattle.std.specs.Prelude.{ℕ, ◌-◌, Bool, cond, List, [], ◌∷◌, map, drop, nat_le}
use Rattle.cabinet.specs.Books.{Books}
use Rattle.law.specs.Transcript.{Call, Reply, Transcript, Reached, reply_of, after_of}
use Rattle.law.specs.Law.{Law}
use Rattle.run.specs.declared.answer.Answer.{Answer}
use Rattle.run.specs.Asked.{told}

-- each call's answer, after the calls before it
abbrev pub replies_of : Books → List Call → List Reply
replies_of b [] = []
replies_of b (c ∷ calls) = reply_of b c ∷ replies_of (after_of b c) calls

-- the books after all of them
abbrev pub after_all : Books → List Call → Books
after_all b [] = b
after_all b (c ∷ calls) = after_all (after_of b c) calls

-- a transcript that goes on by calls and their answers
abbrev pub heard : Transcript → List Call → List Reply → Transcript
heard t [] replies = t
heard t (c ∷ calls) [] = t
heard t (c ∷ calls) (r ∷ replies) = heard ((c, r) ∷ t) calls replies

-- a place with so much room reserved, so much of it taken, has room for so many answers more
abbrev pub has_room : ℕ → ℕ → ℕ → Bool
has_room reserved taken count = nat_le count (reserved - taken)

-- what a run adds to its place, and the books that it leaves: without room nothing, and as they were
abbrev pub replies_given : Bool → Books → List Call → List Reply
replies_given room b calls = cond room (replies_of b calls) []

abbrev pub books_left : Bool → Books → List Call → Books
books_left room b calls = cond room (after_all b calls) b

-- what the answers behind the first n tell
abbrev pub replies_behind : ℕ → List Answer → List Reply
replies_behind n answers = map told (drop n answers)

-- a transcript of a new cabinet that ends in the books b goes on by these calls and answers to the books d
abbrev pub ReachedRun : Books → List Call → List Reply → Books → Type 0
ReachedRun b calls replies d = (t : Transcript) → Reached t b → Reached (heard t calls replies) d

-- and the law holds of it
abbrev pub LawfulRun : Books → List Call → List Reply → Books → Type 0
LawfulRun b calls replies d = (t : Transcript) → Reached t b → Law (heard t calls replies) d
