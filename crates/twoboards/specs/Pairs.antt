-- Two cabinets side by side.
use Rattle.std.specs.Prelude.{◌≡◌, ℕ, ◌+◌, ◌*◌, min}
use Rattle.cabinet.specs.Books.{Books, books_of}
use Rattle.journal.specs.Journals.{journal_meaning}
use Rattle.table.specs.Tables.{table_meaning}
use Rattle.twoboards.specs.declared.pair.Pair.{Pair}

-- the bytes of a journal with eight entries to spare
abbrev pub journal_length : ℕ → ℕ
journal_length numbers = 131 * (min numbers 4096 + 8)

-- the books of each
abbrev pub table_books : Pair → Books
table_books p = books_of table_meaning p.table

abbrev pub journal_books : Pair → Books
journal_books p = books_of journal_meaning p.journal

-- both have the same books
abbrev pub SameBooks : Pair → Type 0
SameBooks p = journal_books p ≡ table_books p
