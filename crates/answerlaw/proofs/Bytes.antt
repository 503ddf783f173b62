-- Bytes in hexadecimal digits are read back.
use Rattle.std.proofs.Common.{◌≡◌, ℕ, zero, suc, ◌+◌, ◌*◌, ◌/◌, ◌%◌, ◌<◌, true, cond, not, ◌&&◌, eqb, leb, List, [], ◌∷◌, map, length, get_or, Some, None, codes, sym, refl, ap, ◌∙◌, arith}
use Rattle.std.specs.List.{range_with_len, AllByRecursion}
use Rattle.std.proofs.lemmas.List.FromFn.{fill_by_all}
use Rattle.std.proofs.lemmas.Bool.{and_from, or_right}
use Rattle.std.proofs.lemmas.Bool.Decides.{nat_tests}
use Rattle.words.specs.Words.{is_blank, is_word}
use Rattle.words.specs.Hex.{is_hex_digit, digit_of, are_hex_digits, is_hex, byte_of, byte_at, bytes_of}
use Rattle.answers.specs.Texts.{hex_digit, hex_text}
use Rattle.answerwords.specs.Words.{row_of}
use Rattle.answerlaw.proofs.Spaces.{solid, Solid}

-- the digit of a value below 16
module _ (v : ℕ) (h : v < 16) where
  digit_value : digit_of (hex_digit v) ≡ v
  digit_value = grind (arith, nat_tests)

  digit-hex : is_hex_digit (hex_digit v) ≡ true
  digit-hex = grind (arith, nat_tests)

  digit-solid : not (is_blank (hex_digit v)) ≡ true
  digit-solid = grind (arith, nat_tests)

abbrev Bytes : List ℕ → Type 0
Bytes bytes = AllByRecursion (λ b. b < 256) bytes

length-hex : (bytes : List ℕ) → length (hex_text bytes) ≡ 2 * length bytes
length-hex [] = refl
length-hex (b ∷ bytes) = let more = length-hex bytes in omega arith

hex-digits : (bytes : List ℕ) → Bytes bytes → are_hex_digits (hex_text bytes) ≡ true
hex-digits [] h = refl
hex-digits (b ∷ bytes) h =
    let small : b < 256 = h.0 in
    and_from (is_hex_digit (hex_digit (b / 16))) (is_hex_digit (hex_digit (b % 16)) && are_hex_digits (hex_text bytes)) (digit-hex (b / 16) (omega arith))
    (and_from (is_hex_digit (hex_digit (b % 16))) (are_hex_digits (hex_text bytes)) (digit-hex (b % 16) (omega arith)) (hex-digits bytes h.1))

hex-solid : (bytes : List ℕ) → Bytes bytes → solid (hex_text bytes) ≡ true
hex-solid [] h = refl
hex-solid (b ∷ bytes) h =
    let small : b < 256 = h.0 in
    and_from (not (is_blank (hex_digit (b / 16)))) (not (is_blank (hex_digit (b % 16))) && solid (hex_text bytes)) (digit-solid (b / 16) (omega arith))
    (and_from (not (is_blank (hex_digit (b % 16)))) (solid (hex_text bytes)) (digit-solid (b % 16) (omega arith)) (hex-solid bytes h.1))

byte-back : (b : ℕ) → b < 256 → byte_of (hex_digit (b / 16)) (hex_digit (b % 16)) ≡ b
byte-back b h =
    let all : 16 * (b / 16) + b % 16 ≡ b = omega arith in
    (λ i. 16 * digit_value (b / 16) (omega arith) i + digit_value (b % 16) (omega arith) i) ∙ all

byte-at : (bytes : List ℕ) (k : ℕ) → Bytes bytes → k < length bytes → get_or bytes k 0 ≡ byte_at (hex_text bytes) k
byte-at [] k h l = absurd (omega arith)
byte-at (b ∷ bytes) zero h l = sym (byte-back b h.0)
byte-at (b ∷ bytes) (suc k) h l =
    let text : List ℕ = hex_text (b ∷ bytes) in
    let even : 2 * suc k ≡ suc (suc (2 * k)) = omega arith in
    let odd : 2 * suc k + 1 ≡ suc (suc (2 * k + 1)) = omega arith in
    byte-at bytes k h.1 (omega arith) ∙ sym (λ i. byte_of (get_or text (even i) 0) (get_or text (odd i) 0))

bytes_back : (bytes : List ℕ) → Bytes bytes → bytes_of (hex_text bytes) ≡ bytes
bytes_back bytes h =
    let long = length-hex bytes in
    let half : length (hex_text bytes) / 2 ≡ length bytes = omega arith in
    ap (λ n. map (byte_at (hex_text bytes)) (range_with_len 0 n)) half
    ∙ sym (fill_by_all (byte_at (hex_text bytes)) bytes (length bytes) 0 refl (λ k l. byte-at bytes k h l))

-- 128 bytes
module _ (bytes : List ℕ) (l : length bytes ≡ 128) (h : Bytes bytes) where
  long : length (hex_text bytes) ≡ 256
  long = length-hex bytes ∙ ap (λ n. 2 * n) l

  is-hex : is_hex (hex_text bytes) ≡ true
  is-hex =
      or_right (is_word (hex_text bytes) (codes "-")) (leb 1 (length (hex_text bytes)) && eqb (length (hex_text bytes) % 2) 0 && are_hex_digits (hex_text bytes))
      (λ i. leb 1 (long i) && eqb (long i % 2) 0 && hex-digits bytes h i)

  pub row_back : row_of (hex_text bytes) ≡ Some bytes
  row_back = λ i. cond (is-hex i && eqb (long i) 256) (Some (bytes_back bytes h i)) None

  pub solid-row : Solid (hex_text bytes)
  solid-row = let n = long in record { some = omega arith; whole = hex-solid bytes h }
