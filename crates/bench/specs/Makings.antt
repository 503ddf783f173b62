-- A new board on the bench.
use Rattle.std.specs.Prelude.{ℕ, Bool, [], Ok, Err, Result}
use Rattle.facts.specs.Forms.{made}
use Rattle.board.specs.Meaning.{BoardMeaning, Row}
use Rattle.boards.specs.declared.making.NotMade.{NotMade}
use Rattle.boards.specs.Makings.{table_made, journal_made}
use Rattle.callforms.specs.declared.forms.BoardForm.{BoardForm}
use Rattle.callforms.specs.declared.forms.BoardForm.TheVariants.{Table, Journal}
use Rattle.cabinet.specs.Books.{books_with}
use Rattle.law.specs.Transcript.{Reached}
use Rattle.bench.specs.Stands.{Stand, nothing, board, cabinet}

-- the board of a form, where memory is found or not
abbrev pub form_made : Bool → BoardForm → Result (BoardMeaning Row) NotMade
form_made memory (Table c len) = table_made memory c len
form_made memory (Journal c l len) = journal_made memory c l len

-- a new board is answered by its capacity and its limit
abbrev pub figures_of : BoardMeaning Row → ℕ × ℕ
figures_of m = (m.capacity, m.limit)

abbrev pub make_answer : Bool → BoardForm → Result (ℕ × ℕ) NotMade
make_answer memory form = made figures_of (form_made memory form)

-- it stands in place of what stood, with no month posted; where none is made, what stood stays
abbrev pub made_after : Result (BoardMeaning Row) NotMade → Stand → Stand
made_after (Ok m) s = board (books_with [] m)
made_after (Err e) s = s

abbrev pub make_after : Bool → BoardForm → Stand → Stand
make_after memory form s = made_after (form_made memory form) s

-- a run of calls can start there: these are the books of a new cabinet
abbrev pub StartsAt : Stand → Type 0
StartsAt nothing = ⊥
StartsAt (board b) = Reached [] b
StartsAt (cabinet b) = ⊥

-- it can where a board was made
abbrev pub Starts : Result (ℕ × ℕ) NotMade → Stand → Type 0
Starts (Ok figures) s = StartsAt s
Starts (Err e) s = Unit {0}
