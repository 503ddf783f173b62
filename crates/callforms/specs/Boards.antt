-- The boards that lines ask for.
use Rattle.std.specs.Prelude.{ℕ, ◌-◌, ◌*◌, ◌^◌, min, cond, List, length, Some, None, codes, Option, ◌==◌, slice_index}
use Rattle.words.specs.Words.{is_word, word_of, rest_of}
use Rattle.words.specs.Numbers.{numbers_of}
use Rattle.callforms.specs.declared.forms.BoardForm.{BoardForm}
use Rattle.callforms.specs.declared.forms.BoardForm.TheVariants.{Table, Journal}

-- the length of a table's memory where a line gives none, 129 bytes for each number, as far as that fits 64 bits
abbrev pub table_length : ℕ → ℕ
table_length capacity = min (capacity * 129) (2 ^ 64 - 1)

-- `table C [LENGTH]`
abbrev pub table_form : Option (List ℕ) → Option BoardForm
table_form None = None
table_form (Some n) =
    cond (length n == 1) (Some (Table (slice_index n 0) (table_length (slice_index n 0))))
    (cond (length n == 2) (Some (Table (slice_index n 0) (slice_index n 1))) None)

-- `journal C L LENGTH`
abbrev pub journal_form : Option (List ℕ) → Option BoardForm
journal_form None = None
journal_form (Some n) = cond (length n == 3) (Some (Journal (slice_index n 0) (slice_index n 1) (slice_index n 2))) None

-- a board by its kind
abbrev pub board_with : List ℕ → Option (List ℕ) → Option BoardForm
board_with word n = cond (is_word word (codes "table")) (table_form n) (cond (is_word word (codes "journal")) (journal_form n) None)

abbrev pub board_in : List ℕ → Option BoardForm
board_in text = board_with (word_of text) (numbers_of 26 (rest_of text))
