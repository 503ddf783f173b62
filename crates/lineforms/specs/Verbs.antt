-- The first words of lines.
use Rattle.std.specs.Prelude.{◌≡◌, ℕ, List, [], ◌∷◌, Some, None, codes, Option, ◌≢◌}
use Rattle.std.specs.List.{find}
use Rattle.words.specs.Words.{is_word}
use Rattle.lineforms.specs.declared.verb.CallVerb.{CallVerb}
use Rattle.lineforms.specs.declared.verb.CallVerb.TheVariants.{Post, Open, Read, Settle, Pay, Close, Show}
use Rattle.lineforms.specs.declared.verb.Verb.{Verb}
use Rattle.lineforms.specs.declared.verb.Verb.TheVariants.{Rating, House, Price, Choose, Board, Row, Store, Clear, Call}

-- the word of a call
abbrev pub call_name : CallVerb → List ℕ
call_name Post = codes "post"
call_name Open = codes "open"
call_name Read = codes "read"
call_name Settle = codes "settle"
call_name Pay = codes "pay"
call_name Close = codes "close"
call_name Show = codes "show"

-- the word that says a verb
abbrev pub verb_name : Verb → List ℕ
verb_name Rating = codes "rating"
verb_name House = codes "house"
verb_name Price = codes "price"
verb_name Choose = codes "choose"
verb_name Board = codes "board"
verb_name Row = codes "row"
verb_name Store = codes "store"
verb_name Clear = codes "clear"
verb_name (Call v) = call_name v

abbrev pub verbs : List Verb
verbs =
    Rating ∷ House ∷ Price ∷ Choose ∷ Board ∷ Row ∷ Store ∷ Clear ∷
    Call Post ∷ Call Open ∷ Call Read ∷ Call Settle ∷ Call Pay ∷ Call Close ∷ Call Show ∷ []

-- the verb that a word says, the first of them
unfoldable pub verb_of : List ℕ → Option Verb
verb_of word = find (λ v. is_word word (verb_name v)) verbs

-- the word is the one that says this verb; or it says none, whichever verb is asked for
abbrev pub Says : List ℕ → Option Verb → Type 0
Says word (Some v) = word ≡ verb_name v
Says word None = (v : Verb) → word ≢ verb_name v
