-- The words of a line.
use Rattle.std.specs.Prelude.{ℕ, ◌+◌, Bool, true, false, cond, ◌||◌, List, [], ◌∷◌, take, drop, ◌==◌}
use Rattle.std.specs.Bool.{beq}
use Rattle.std.specs.Str.{bytes_eq}

-- a space or a tab
abbrev pub is_blank : ℕ → Bool
is_blank byte = byte == 32 || byte == 9

-- how many bytes at the front are blank, or are not
abbrev pub span_of : Bool → List ℕ → ℕ
span_of blank [] = 0
span_of blank (byte ∷ bytes) = cond (beq (is_blank byte) blank) (1 + span_of blank bytes) 0

-- the line without the blanks at its front
abbrev pub text_of : List ℕ → List ℕ
text_of line = drop (span_of true line) line

-- its first word, empty where there is none
abbrev pub word_of : List ℕ → List ℕ
word_of line = take (span_of false (text_of line)) (text_of line)

-- what stands behind the first word
abbrev pub rest_of : List ℕ → List ℕ
rest_of line = drop (span_of false (text_of line)) (text_of line)

-- the word is the one of this name
unfoldable pub is_word : List ℕ → List ℕ → Bool
is_word word name = bytes_eq word name
