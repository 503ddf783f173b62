-- What single words of an answer stand for.
use Rattle.std.specs.Prelude.{ℕ, ◌-◌, ◌^◌, cond, ◌&&◌, List, length, drop, ℤ, pos, negsuc, Some, None, codes, Option, ◌==◌, nat_le, nat_lt, slice_index}
use Rattle.refusal.specs.declared.Layer.{Layer}
use Rattle.refusal.specs.declared.Layer.TheVariants.{Board, Ledger, Cabinet, Sheet, Rating}
use Rattle.words.specs.Words.{is_word}
use Rattle.words.specs.Numbers.{number_of}
use Rattle.words.specs.Hex.{is_hex, bytes_of}
use Rattle.answerwords.specs.Front.{bound}

-- a number of 64 bits with its sign: below zero, −2^63 the least
abbrev pub below_zero : ℕ → Option ℤ
below_zero n = cond (nat_le 1 n && nat_le n (2 ^ 63)) (Some (negsuc (n - 1))) None

abbrev pub from_zero : ℕ → Option ℤ
from_zero n = cond (nat_lt n (2 ^ 63)) (Some (pos n)) None

-- what stands behind the `-` of a word that begins with one
abbrev pub behind_minus : List ℕ → Option (List ℕ)
behind_minus word = cond (nat_le 1 (length word) && slice_index word 0 == 45) (Some (drop 1 word)) None

-- `-` and digits below zero, digits alone from zero on
abbrev pub signed_at : List ℕ → Option (List ℕ) → Option ℤ
signed_at word (Some digits) = bound (number_of digits) below_zero
signed_at word None = bound (number_of word) from_zero

abbrev pub signed_of : List ℕ → Option ℤ
signed_of word = signed_at word (behind_minus word)

-- the number of an account's state
abbrev pub state_of : List ℕ → Option ℕ
state_of word = cond (is_word word (codes "running")) (Some 1) (cond (is_word word (codes "ready")) (Some 2) None)

abbrev pub layer_of : List ℕ → Option Layer
layer_of word =
    cond (is_word word (codes "board")) (Some Board)
    (cond (is_word word (codes "ledger")) (Some Ledger)
    (cond (is_word word (codes "cabinet")) (Some Cabinet)
    (cond (is_word word (codes "sheet")) (Some Sheet)
    (cond (is_word word (codes "rating")) (Some Rating) None))))

-- 128 bytes in hexadecimal digits
abbrev pub row_of : List ℕ → Option (List ℕ)
row_of word = cond (is_hex word && length word == 256) (Some (bytes_of word)) None
