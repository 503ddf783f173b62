-- The calls on a cabinet that lines ask for, by what stands behind their first word.
use Rattle.std.specs.Prelude.{ℕ, Bool, cond, List, length, Some, None, Option, ◌==◌, slice_index}
use Rattle.std.specs.Option.{option_map}
use Rattle.account.specs.declared.event.OpeningForm.{OpeningForm}
use Rattle.run.specs.declared.call.Call.{Call}
use Rattle.run.specs.declared.call.Call.TheVariants.{Post, Open, Read, Settle, Pay, Close, Show}
use Rattle.words.specs.Words.{word_of, rest_of}
use Rattle.words.specs.Numbers.{is_end, number_of, numbers_of}
use Rattle.script.specs.declared.line.SheetName.{SheetName}
use Rattle.lineforms.specs.declared.verb.CallVerb.{CallVerb}
use Rattle.lineforms.specs.declared.verb.CallVerb.TheVariants as verb
use Rattle.script.specs.Lines.{sheet_at}
use Rattle.lineforms.specs.Forms.{opening_in, indices_in}

-- one number
abbrev pub alone : Option (List ℕ) → Option ℕ
alone None = None
alone (Some n) = cond (length n == 1) (Some (slice_index n 0)) None

-- the account that a text names
abbrev pub account_in : List ℕ → Option ℕ
account_in text = alone (numbers_of 26 text)

-- `post S MX NC`
abbrev pub post_call : Option (List ℕ) → Option (Call SheetName)
post_call None = None
post_call (Some n) = cond (length n == 3) (Some (Post (slice_index n 0) (slice_index n 1) (slice_index n 2))) None

abbrev pub post_in : List ℕ → Option (Call SheetName)
post_in rest = post_call (numbers_of 26 rest)

-- `open ACCOUNT` and an opening
abbrev pub open_call : Option ℕ → Option OpeningForm → Option (Call SheetName)
open_call None form = None
open_call (Some account) None = None
open_call (Some account) (Some form) = Some (Open account form)

abbrev pub open_in : List ℕ → Option (Call SheetName)
open_in rest = open_call (number_of (word_of rest)) (opening_in (rest_of rest))

-- `read ACCOUNT` and the registers' indices
abbrev pub read_call : Option ℕ → Option (List ℕ) → Option (Call SheetName)
read_call None indices = None
read_call (Some account) None = None
read_call (Some account) (Some indices) = Some (Read account indices)

abbrev pub read_in : List ℕ → Option (Call SheetName)
read_in rest = read_call (number_of (word_of rest)) (indices_in (rest_of rest))

-- `settle ACCOUNT END SHEET`, where nothing stands behind the sheet
abbrev pub settle_call : Option ℕ → Option ℕ → Option SheetName → Bool → Option (Call SheetName)
settle_call None end sheet last = None
settle_call (Some account) None sheet last = None
settle_call (Some account) (Some end) None last = None
settle_call (Some account) (Some end) (Some sheet) last = cond last (Some (Settle account end sheet)) None

abbrev pub settle_in : List ℕ → Option (Call SheetName)
settle_in rest =
    settle_call (number_of (word_of rest)) (number_of (word_of (rest_of rest))) (sheet_at (word_of (rest_of (rest_of rest)))) (is_end (rest_of (rest_of (rest_of rest))))

-- `pay ACCOUNT AMOUNT`
abbrev pub pay_call : Option (List ℕ) → Option (Call SheetName)
pay_call None = None
pay_call (Some n) = cond (length n == 2) (Some (Pay (slice_index n 0) (slice_index n 1))) None

abbrev pub pay_in : List ℕ → Option (Call SheetName)
pay_in rest = pay_call (numbers_of 26 rest)

-- the call that a verb and the text behind it ask for
abbrev pub call_in : CallVerb → List ℕ → Option (Call SheetName)
call_in verb.Post rest = post_in rest
call_in verb.Open rest = open_in rest
call_in verb.Read rest = read_in rest
call_in verb.Settle rest = settle_in rest
call_in verb.Pay rest = pay_in rest
call_in verb.Close rest = option_map (λ account. Close account) (account_in rest)
call_in verb.Show rest = option_map (λ account. Show account) (account_in rest)
