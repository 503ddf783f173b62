-- What the lines of a script ask for.
use Rattle.std.specs.Prelude.{ℕ, Bool, cond, ◌&&◌, ◌||◌, List, length, Some, None, Option, ◌==◌, slice_index}
use Rattle.std.specs.Borrow.{Bor}
use Rattle.std.specs.Option.{option_map}
use Rattle.facts.specs.declared.form.FactsForm.{FactsForm}
use Rattle.words.specs.Words.{word_of, rest_of}
use Rattle.words.specs.Numbers.{is_end, number_of, numbers_of}
use Rattle.words.specs.Hex.{is_hex}
use Rattle.script.specs.declared.line.SheetName.{SheetName}
use Rattle.script.specs.Lines.{sheet_at}
use Rattle.lineforms.specs.declared.verb.Verb.{Verb}
use Rattle.lineforms.specs.declared.verb.Verb.TheVariants as verb
use Rattle.lineforms.specs.Verbs.{verb_of}
use Rattle.lineforms.specs.Forms.{facts_in}
use Rattle.callforms.specs.Boards.{board_in}
use Rattle.callforms.specs.Calls.{account_in, call_in}
use Rattle.scriptlines.specs.declared.line.Line.{Line}
use Rattle.scriptlines.specs.declared.line.Line.TheVariants.{Silent, Unreadable, Rating, House, Price, Choose, Board, Call, Row, Store, Clear}

-- a line with the bytes that it holds
abbrev pub said : Line (Bor (List ℕ)) → Line (List ℕ)
said Silent = Silent
said Unreadable = Unreadable
said (Rating network ampere) = Rating network ampere
said (House text) = House text.now
said (Price sheet code facts) = Price sheet code facts
said (Choose sheet facts) = Choose sheet facts
said (Board form) = Board form
said (Call call) = Call call
said (Row account) = Row account
said (Store account text) = Store account text.now
said (Clear account) = Clear account

-- `rating NETWORK AMPERE`
abbrev pub rating_line : Option (List ℕ) → Option (Line (List ℕ))
rating_line None = None
rating_line (Some n) = cond (length n == 2) (Some (Rating (slice_index n 0) (slice_index n 1))) None

abbrev pub rating_in : List ℕ → Option (Line (List ℕ))
rating_in rest = rating_line (numbers_of 26 rest)

-- `house HEX`
abbrev pub house_in : List ℕ → Option (Line (List ℕ))
house_in rest = cond (is_hex (word_of rest) && is_end (rest_of rest)) (Some (House (word_of rest))) None

-- `price SHEET CODE` and facts
abbrev pub price_line : Option SheetName → Option ℕ → Option FactsForm → Option (Line (List ℕ))
price_line None code facts = None
price_line (Some sheet) None facts = None
price_line (Some sheet) (Some code) None = None
price_line (Some sheet) (Some code) (Some facts) = Some (Price sheet code facts)

abbrev pub price_in : List ℕ → Option (Line (List ℕ))
price_in rest = price_line (sheet_at (word_of rest)) (number_of (word_of (rest_of rest))) (facts_in (rest_of (rest_of rest)))

-- `choose SHEET` and facts
abbrev pub choose_line : Option SheetName → Option FactsForm → Option (Line (List ℕ))
choose_line None facts = None
choose_line (Some sheet) None = None
choose_line (Some sheet) (Some facts) = Some (Choose sheet facts)

abbrev pub choose_in : List ℕ → Option (Line (List ℕ))
choose_in rest = choose_line (sheet_at (word_of rest)) (facts_in (rest_of rest))

-- a row's 128 bytes in hexadecimal digits
abbrev pub is_row_text : List ℕ → Bool
is_row_text text = length text == 256 && is_hex text

-- `store ACCOUNT HEX`
abbrev pub store_line : Option ℕ → List ℕ → Bool → Option (Line (List ℕ))
store_line None text last = None
store_line (Some account) text last = cond (is_row_text text && last) (Some (Store account text)) None

abbrev pub store_in : List ℕ → Option (Line (List ℕ))
store_in rest = store_line (number_of (word_of rest)) (word_of (rest_of rest)) (is_end (rest_of (rest_of rest)))

-- what a verb and the text behind it ask for, none where they are of no form
abbrev pub asked : Verb → List ℕ → Option (Line (List ℕ))
asked verb.Rating rest = rating_in rest
asked verb.House rest = house_in rest
asked verb.Price rest = price_in rest
asked verb.Choose rest = choose_in rest
asked verb.Board rest = option_map (λ form. Board form) (board_in rest)
asked verb.Row rest = option_map (λ account. Row account) (account_in rest)
asked verb.Store rest = store_in rest
asked verb.Clear rest = option_map (λ account. Clear account) (account_in rest)
asked (verb.Call v) rest = option_map (λ call. Call call) (call_in v rest)

-- a line that asks for nothing is unreadable
abbrev pub readable : Option (Line (List ℕ)) → Line (List ℕ)
readable None = Unreadable
readable (Some line) = line

-- a line by its verb and the text behind it
abbrev pub line_by : Option Verb → List ℕ → Line (List ℕ)
line_by None rest = Unreadable
line_by (Some v) rest = readable (asked v rest)

-- a line by its first word and the text behind it; `#` begins a comment
abbrev pub line_with : List ℕ → List ℕ → Line (List ℕ)
line_with word rest = cond (length word == 0 || slice_index word 0 == 35) Silent (line_by (verb_of word) rest)

-- what a line asks for
abbrev pub line_of : List ℕ → Line (List ℕ)
line_of line = line_with (word_of line) (rest_of line)
