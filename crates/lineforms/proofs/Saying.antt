-- A word says the verb that is found for it, and no verb where none is found.
use Rattle.std.proofs.Common.{◌≡◌, ℕ, zero, suc, ◌<◌, List, [], ◌∷◌, length, get_or, Some, None, Decides, Option, arith, lit<}
use Rattle.std.specs.List.{find}
use Rattle.std.proofs.lemmas.Slice.Eq.{bytes_eq-Decides}
use Rattle.std.proofs.lemmas.Bool.Decides.{not_from_Decides}
use Rattle.std.proofs.lemmas.Bool.{cond_both}
use Rattle.words.specs.Words.{is_word}
use Rattle.lineforms.specs.declared.verb.CallVerb.TheVariants.{Post, Open, Read, Settle, Pay, Close, Show}
use Rattle.lineforms.specs.declared.verb.Verb.{Verb}
use Rattle.lineforms.specs.declared.verb.Verb.TheVariants.{Rating, House, Price, Choose, Board, Row, Store, Clear, Call}
use Rattle.lineforms.specs.Verbs.{verb_name, verbs, verb_of, Says}

is_word-decides : (word name : List ℕ) → Decides (is_word word name) (word ≡ name)
unfolding is_word
is_word-decides word name = bytes_eq-Decides word name

-- the same of the verbs of a list
abbrev SaysAmong : List Verb → List ℕ → Option Verb → Type 0
SaysAmong vs word (Some v) = word ≡ verb_name v
SaysAmong vs word None = (k : ℕ) → k < length vs → word ≡ verb_name (get_or vs k Rating) → ⊥

-- one verb more before those of a list, which the word does not say
more : (v : Verb) (vs : List Verb) (word : List ℕ) → (word ≡ verb_name v → ⊥) → (o : Option Verb) → SaysAmong vs word o → SaysAmong (v ∷ vs) word o
more v vs word not-said (Some u) h = h
more v vs word not-said None h = λ k. elim k as (λ n. n < length (v ∷ vs) → word ≡ verb_name (get_or (v ∷ vs) n Rating) → ⊥) [ zero ↦ λ _. not-said | suc n ↦ λ l. h n (omega arith) ]

-- the verb that is found for a word in a list
abbrev found : List Verb → List ℕ → Option Verb
found vs word = find (λ v. is_word word (verb_name v)) vs

says-among : (vs : List Verb) (word : List ℕ) → SaysAmong vs word (found vs word)
says-among [] word = λ k l. absurd (omega arith)
says-among (v ∷ vs) word =
    let d = is_word-decides word (verb_name v) in
    cond_both (is_word word (verb_name v)) (Some v) (found vs word) (SaysAmong (v ∷ vs) word) d.0
    (λ e. more v vs word (not_from_Decides (is_word word (verb_name v)) d e) (found vs word) (says-among vs word))

-- what holds of each place in the list of verbs holds of each verb
every : (word : List ℕ) → SaysAmong verbs word None → (v : Verb) → word ≡ verb_name v → ⊥
every word h Rating = h 0 (lit< tt)
every word h House = h 1 (lit< tt)
every word h Price = h 2 (lit< tt)
every word h Choose = h 3 (lit< tt)
every word h Board = h 4 (lit< tt)
every word h Row = h 5 (lit< tt)
every word h Store = h 6 (lit< tt)
every word h Clear = h 7 (lit< tt)
every word h (Call Post) = h 8 (lit< tt)
every word h (Call Open) = h 9 (lit< tt)
every word h (Call Read) = h 10 (lit< tt)
every word h (Call Settle) = h 11 (lit< tt)
every word h (Call Pay) = h 12 (lit< tt)
every word h (Call Close) = h 13 (lit< tt)
every word h (Call Show) = h 14 (lit< tt)

-- every verb is in the list
whole : (word : List ℕ) (o : Option Verb) → SaysAmong verbs word o → Says word o
whole word (Some v) h = h
whole word None h = every word h

pub says : (word : List ℕ) → Says word (verb_of word)
unfolding verb_of
says word = whole word (found verbs word) (says-among verbs word)
