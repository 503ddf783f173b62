-- A word that is matched byte by byte.
use Rattle.std.proofs.Common.{◌≡◌, ℕ, ◌+◌, ◌<◌, ◌≤◌, Bool, true, false, ◌&&◌, eqb, ltb, List, [], ◌∷◌, length, get_or, drop, refl, ap, ◌⊎◌, inl, inr, ◌∙◌, sym, arith}
use Rattle.std.specs.Str.{bytes_eq}
use Rattle.std.proofs.lemmas.Bool.{and_right, and_parts, ne_eqb, eqb-true}
use Rattle.std.proofs.lemmas.Bool.Decides.{nat_tests}
use Rattle.std.proofs.lemmas.List.{at_drop_more, at_drop_all}
use Rattle.words.specs.Words.{is_word}

-- the bytes from index i on are those of the name, and the word ends there
abbrev reads : List ℕ → ℕ → List ℕ → Bool
reads word i [] = eqb (length word) i
reads word i (byte ∷ name) = eqb (get_or word i 0) byte && reads word (i + 1) name

past : (word : List ℕ) (i : ℕ) (name : List ℕ) → length word < i → reads word i name ≡ false
past word i [] h = ne_eqb (length word) i (λ e. omega arith)
past word i (byte ∷ name) h = and_right (eqb (get_or word i 0) byte) (reads word (i + 1) name) (past word (i + 1) name (omega arith))

ends : (word : List ℕ) (i : ℕ) → i ≤ length word → (b : Bool) → ltb i (length word) ≡ b → bytes_eq (drop i word) [] ≡ eqb (length word) i
ends word i h true t = let m : bytes_eq (drop i word) [] ≡ false = at_drop_more (λ l. bytes_eq l []) word i 0 (grind (arith, nat_tests)) in grind (arith, nat_tests)
ends word i h false t = let m : bytes_eq (drop i word) [] ≡ true = at_drop_all (λ l. bytes_eq l []) word i (grind (arith, nat_tests)) in grind (arith, nat_tests)

goes_on : (word : List ℕ) (i byte : ℕ) (name : List ℕ) → (i < length word → bytes_eq (drop (i + 1) word) name ≡ reads word (i + 1) name) → (b : Bool) → ltb i (length word) ≡ b
    → i ≤ length word → bytes_eq (drop i word) (byte ∷ name) ≡ (eqb (get_or word i 0) byte && reads word (i + 1) name)
goes_on word i byte name more true t h =
    let inside : i < length word = grind (arith, nat_tests) in
    at_drop_more (λ l. bytes_eq l (byte ∷ name)) word i 0 inside ∙ ap (λ b. eqb (get_or word i 0) byte && b) (more inside)
goes_on word i byte name more false t h =
    let end : length word ≤ i = grind (arith, nat_tests) in
    at_drop_all (λ l. bytes_eq l (byte ∷ name)) word i end
    ∙ sym (and_right (eqb (get_or word i 0) byte) (reads word (i + 1) name) (past word (i + 1) name (omega arith)))

from : (word : List ℕ) (i : ℕ) (name : List ℕ) → i ≤ length word → bytes_eq (drop i word) name ≡ reads word i name
from word i [] h = ends word i h (ltb i (length word)) refl
from word i (byte ∷ name) h = goes_on word i byte name (λ inside. from word (i + 1) name (omega arith)) (ltb i (length word)) refl h

-- the bytes from index i on begin with those of the name
abbrev pub begins : List ℕ → ℕ → List ℕ → Bool
begins word i [] = true
begins word i (byte ∷ name) = eqb (get_or word i 0) byte && begins word (i + 1) name

swapped : (a b c : Bool) → (a && (b && c)) ≡ (b && (a && c))
swapped true b c = refl
swapped false true c = refl
swapped false false c = refl

long : (b : Bool) → b ≡ (b && true)
long true = refl
long false = refl

length_first : (word : List ℕ) (i : ℕ) (name : List ℕ) → reads word i name ≡ (eqb (length word) (i + length name) && begins word i name)
length_first word i [] = let none : i ≡ i + 0 = omega arith in ap (eqb (length word)) none ∙ long (eqb (length word) (i + 0))
length_first word i (byte ∷ name) =
    let more : i + 1 + length name ≡ i + length (byte ∷ name) = omega arith in
    ap (λ b. eqb (get_or word i 0) byte && b) (length_first word (i + 1) name)
    ∙ swapped (eqb (get_or word i 0) byte) (eqb (length word) (i + 1 + length name)) (begins word (i + 1) name)
    ∙ ap (λ n. eqb (length word) n && (eqb (get_or word i 0) byte && begins word (i + 1) name)) more

-- the tests of a word's length and of its bytes, one by one
pub word_reads : (word name : List ℕ) → is_word word name ≡ (eqb (length word) (length name) && begins word 0 name)
unfolding is_word
word_reads word name =
    let none : 0 + length name ≡ length name = omega arith in
    from word 0 name (omega arith) ∙ length_first word 0 name ∙ ap (λ n. eqb (length word) n && begins word 0 name) none

abbrev pub Has : List ℕ → ℕ → List ℕ → Type 0
Has word i [] = Unit {0}
Has word i (byte ∷ name) = (get_or word i 0 ≡ byte) × Has word (i + 1) name

has : (word : List ℕ) (i : ℕ) (name : List ℕ) → begins word i name ≡ true → Has word i name
has word i [] h = tt
has word i (byte ∷ name) h =
    let parts = and_parts (eqb (get_or word i 0) byte) (begins word (i + 1) name) h in
    (eqb-true (get_or word i 0) byte parts.0, has word (i + 1) name parts.1)

-- a word is the one of a name, with its length and bytes, or another one
abbrev pub IsOrNot : List ℕ → List ℕ → Type 0
IsOrNot word name =
    ((is_word word name ≡ true) × (length word ≡ length name) × Has word 0 name)
    ⊎ ((is_word word name ≡ false) × ((eqb (length word) (length name) && begins word 0 name) ≡ false))

told : (word name : List ℕ) (b : Bool) → is_word word name ≡ b → is_word word name ≡ (eqb (length word) (length name) && begins word 0 name) → IsOrNot word name
told word name true t e =
    let parts = and_parts (eqb (length word) (length name)) (begins word 0 name) (sym e ∙ t) in
    inl (t, eqb-true (length word) (length name) parts.0, has word 0 name parts.1)
told word name false t e = inr (t, sym e ∙ t)

pub word_or_not : (word name : List ℕ) → ((is_word word name ≡ true) × (length word ≡ length name) × Has word 0 name) ⊎ ((is_word word name ≡ false) × ((eqb (length word) (length name) && begins word 0 name) ≡ false))
word_or_not word name = told word name (is_word word name) refl (word_reads word name)
