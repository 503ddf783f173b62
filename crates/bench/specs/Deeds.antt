-- What is done to what stands: rows looked at, rows of an earlier user of the board, and calls on the cabinet.
use Rattle.std.specs.Prelude.{ℕ, Bool, ◌∷◌, Some, None, Ok, Err, Option, Result}
use Rattle.refusal.specs.declared.Refusal.{Refusal}
use Rattle.board.specs.declared.fault.BoardFault.{BoardFault}
use Rattle.board.specs.Faults.{board_refusal}
use Rattle.board.specs.Meaning.{BoardMeaning, Row, read_answer, read_place, store_answer, stored, clear_answer, cleared}
use Rattle.cabinet.specs.Books.{Books, books_with}
use Rattle.cabinet.specs.Books as books
use Rattle.law.specs.Transcript.{Call, Reply, Transcript, Reached, reply_of, after_of}
use Rattle.law.specs.Law.{Law}
use Rattle.bench.specs.Stands.{Stand, nothing, board, cabinet}

-- an answer with its refusal
abbrev pub refused_as : {X E : Type 0} → (E → Refusal) → Result X E → Result X Refusal
refused_as refusal (Ok x) = Ok x
refused_as refusal (Err e) = Err (refusal e)

-- what a board answers that is asked for a row
abbrev pub row_read : BoardMeaning Row → ℕ → Result Bool Refusal
row_read m n = refused_as board_refusal (read_answer m n)

-- a row as the board holds it, under a cabinet or not; none where nothing stands
abbrev pub row_reply : Stand → ℕ → Option (Result Bool Refusal)
row_reply nothing n = None
row_reply (board b) n = Some (row_read b.board n)
row_reply (cabinet b) n = Some (row_read b.board n)

abbrev pub row_place : Stand → ℕ → Row → Row
row_place nothing n place = place
row_place (board b) n place = read_place b.board n place
row_place (cabinet b) n place = read_place b.board n place

abbrev pub row_after : Stand → ℕ → Stand
row_after nothing n = nothing
row_after (board b) n = board (books.row_after b n)
row_after (cabinet b) n = cabinet (books.row_after b n)

-- an earlier user stores a row; none once a cabinet has taken the board
abbrev pub store_reply : Stand → ℕ → Option (Result (Unit {0}) BoardFault)
store_reply nothing n = None
store_reply (board b) n = Some (store_answer b.board n)
store_reply (cabinet b) n = None

abbrev pub store_after : Stand → ℕ → Row → Stand
store_after nothing n row = nothing
store_after (board b) n row = board (books_with b.months (stored b.board n row))
store_after (cabinet b) n row = cabinet b

-- or clears one
abbrev pub clear_reply : Stand → ℕ → Option (Result (Unit {0}) BoardFault)
clear_reply nothing n = None
clear_reply (board b) n = Some (clear_answer b.board n)
clear_reply (cabinet b) n = None

abbrev pub clear_after : Stand → ℕ → Stand
clear_after nothing n = nothing
clear_after (board b) n = board (books_with b.months (cleared b.board n))
clear_after (cabinet b) n = cabinet b

-- a call; the first one makes the cabinet over the board as it stands
abbrev pub call_reply : Stand → Call → Option Reply
call_reply nothing c = None
call_reply (board b) c = Some (reply_of b c)
call_reply (cabinet b) c = Some (reply_of b c)

abbrev pub call_after : Stand → Call → Stand
call_after nothing c = nothing
call_after (board b) c = cabinet (after_of b c)
call_after (cabinet b) c = cabinet (after_of b c)

-- a transcript of a new cabinet that ends in the books b goes on by a call and its answer to the books d, and the law over runs holds of it
abbrev pub GoesOn : Books → Call → Option Reply → Books → Type 0
GoesOn b c None d = ⊥
GoesOn b c (Some reply) d = (t : Transcript) → Reached t b → (Reached ((c, reply) ∷ t) d × Law ((c, reply) ∷ t) d)

-- where a cabinet stands then
abbrev pub GoesOnTo : Books → Call → Option Reply → Stand → Type 0
GoesOnTo b c reply nothing = ⊥
GoesOnTo b c reply (board d) = ⊥
GoesOnTo b c reply (cabinet d) = GoesOn b c reply d

-- a call on what stands keeps the law
abbrev pub KeepsLaw : Stand → Call → Option Reply → Stand → Type 0
KeepsLaw nothing c reply after = Unit {0}
KeepsLaw (board b) c reply after = GoesOnTo b c reply after
KeepsLaw (cabinet b) c reply after = GoesOnTo b c reply after
