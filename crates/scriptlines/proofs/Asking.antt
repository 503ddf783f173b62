-- A line asks for nothing but what its first word says.
use Rattle.std.proofs.Common.{◌≡◌, ℕ, Bool, cond, ◌&&◌, ◌||◌, eqb, List, length, get_or, IfSome, Some, None, Option, sym, refl, ap, subst}
use Rattle.std.specs.Option.{option_map}
use Rattle.std.proofs.lemmas.Bool.{cond_both}
use Rattle.facts.specs.declared.form.FactsForm.{FactsForm}
use Rattle.run.specs.declared.call.Call as run
use Rattle.words.specs.Words.{word_of, rest_of}
use Rattle.words.specs.Numbers.{is_end, number_of, numbers_of}
use Rattle.words.specs.Hex.{is_hex}
use Rattle.script.specs.declared.line.SheetName.{SheetName}
use Rattle.lineforms.specs.declared.verb.CallVerb.{CallVerb}
use Rattle.lineforms.specs.declared.verb.Verb.{Verb}
use Rattle.lineforms.specs.declared.verb.Verb.TheVariants as verb
use Rattle.script.specs.Lines.{sheet_at}
use Rattle.lineforms.specs.Forms.{facts_in}
use Rattle.lineforms.specs.Verbs.{verb_name, verb_of, Says}
use Rattle.lineforms.proofs.Saying.{says}
use Rattle.callforms.specs.Boards.{board_in}
use Rattle.callforms.specs.Calls.{account_in, call_in}
use Rattle.callforms.proofs.Asking.{CallOf, own-call}
use Rattle.scriptlines.specs.declared.line.Line.{Line}
use Rattle.scriptlines.specs.declared.line.Line.TheVariants.{Silent, Rating, House, Board, Call, Row, Store, Clear}
use Rattle.scriptlines.specs.Lines.{rating_line, price_line, choose_line, is_row_text, store_line, asked, readable, line_by, line_of}
use Rattle.scriptlines.specs.Saying.{line_verb, SaidBy}

-- what is asked for is the verb's
abbrev LineOf : Verb → Option (Line (List ℕ)) → Type 0
LineOf v o = IfSome o (λ line. line_verb line ≡ Some v)

-- a line under a test
tested : (v : Verb) (b : Bool) (line : Line (List ℕ)) → line_verb line ≡ Some v → LineOf v (cond b (Some line) None)
tested v b line h = cond_both b (Some line) None (LineOf v) (λ _. h) (λ _. tt)

ratings : (o : Option (List ℕ)) → LineOf verb.Rating (rating_line o)
ratings None = tt
ratings (Some n) = tested verb.Rating (eqb (length n) 2) (Rating (get_or n 0 0) (get_or n 1 0)) refl

prices : (sheet : Option SheetName) (code : Option ℕ) (facts : Option FactsForm) → LineOf verb.Price (price_line sheet code facts)
prices None code facts = tt
prices (Some sheet) None facts = tt
prices (Some sheet) (Some code) None = tt
prices (Some sheet) (Some code) (Some facts) = refl

chooses : (sheet : Option SheetName) (facts : Option FactsForm) → LineOf verb.Choose (choose_line sheet facts)
chooses None facts = tt
chooses (Some sheet) None = tt
chooses (Some sheet) (Some facts) = refl

stores : (account : Option ℕ) (text : List ℕ) (last : Bool) → LineOf verb.Store (store_line account text last)
stores None text last = tt
stores (Some account) text last = tested verb.Store (is_row_text text && last) (Store account text) refl

-- a line of one part
holds : {A : Type 0} (v : Verb) (line : A → Line (List ℕ)) → ((a : A) → line_verb (line a) ≡ Some v) → (o : Option A) → LineOf v (option_map line o)
holds v line h None = tt
holds v line h (Some a) = h a

calls : (v : CallVerb) (o : Option (run.Call SheetName)) → CallOf v o → LineOf (verb.Call v) (option_map (λ call. Call call) o)
calls v None h = tt
calls v (Some call) h = ap (λ c. Some (verb.Call c)) h

own_line : (v : Verb) (rest : List ℕ) → LineOf v (asked v rest)
own_line verb.Rating rest = ratings (numbers_of 26 rest)
own_line verb.House rest = tested verb.House (is_hex (word_of rest) && is_end (rest_of rest)) (House (word_of rest)) refl
own_line verb.Price rest = prices (sheet_at (word_of rest)) (number_of (word_of (rest_of rest))) (facts_in (rest_of (rest_of rest)))
own_line verb.Choose rest = chooses (sheet_at (word_of rest)) (facts_in (rest_of rest))
own_line verb.Board rest = holds verb.Board (λ form. Board form) (λ _. refl) (board_in rest)
own_line verb.Row rest = holds verb.Row (λ account. Row account) (λ _. refl) (account_in rest)
own_line verb.Store rest = stores (number_of (word_of rest)) (word_of (rest_of rest)) (is_end (rest_of (rest_of rest)))
own_line verb.Clear rest = holds verb.Clear (λ account. Clear account) (λ _. refl) (account_in rest)
own_line (verb.Call v) rest = calls v (call_in v rest) (own-call v rest)

-- a line of its own verb is said by the verb's word
by-own : (word : List ℕ) (v : Verb) → word ≡ verb_name v → (o : Option (Line (List ℕ))) → LineOf v o → SaidBy word (readable o)
by-own word v e None h = tt
by-own word v e (Some line) h =
    let P : Option Verb → Type 0 = λ o. IfSome o (λ u. word ≡ verb_name u) in
    subst P (sym h) e

by-verb : (word rest : List ℕ) (o : Option Verb) → Says word o → SaidBy word (line_by o rest)
by-verb word rest None h = tt
by-verb word rest (Some v) h = by-own word v h (asked v rest) (own_line v rest)

pub said-by : (line : List ℕ) → SaidBy (word_of line) (line_of line)
said-by line =
    let word = word_of line in
    cond_both (eqb (length word) 0 || eqb (get_or word 0 0) 35) Silent (line_by (verb_of word) (rest_of line)) (SaidBy word) (λ _. tt)
    (λ _. by-verb word (rest_of line) (verb_of word) (says word))
