-- A new board is where a run of calls can start.
use Rattle.std.proofs.Common.{◌≡◌, ℕ, Bool, [], None, Ok, refl}
use Rattle.board.specs.Meaning.{BoardMeaning, Row, Lawful, row_at}
use Rattle.boards.proofs.Emptiness.{new-table, new-journal}
use Rattle.callforms.specs.declared.forms.BoardForm.{BoardForm}
use Rattle.callforms.specs.declared.forms.BoardForm.TheVariants.{Table, Journal}
use Rattle.cabinet.specs.Books.{books_with}
use Rattle.law.specs.Transcript.{Reached, start}
use Rattle.bench.specs.Makings.{form_made}

no_rows : (memory : Bool) (form : BoardForm) (m : BoardMeaning Row) → form_made memory form ≡ Ok m → (n : ℕ) → row_at m n ≡ None
no_rows memory (Table c len) m h = new-table memory m c len h
no_rows memory (Journal c l len) m h = new-journal memory m c l len h

pub starts-new : (memory : Bool) (form : BoardForm) (m : BoardMeaning Row) → form_made memory form ≡ Ok m → Lawful m → Reached [] (books_with [] m)
starts-new memory form m h lawful = start (record { months = refl; lawful = lawful; empty = no_rows memory form m h })
