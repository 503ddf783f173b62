-- Words that are parted by single spaces are found again.
use Rattle.std.proofs.Common.{◌≡◌, ℕ, ◌+◌, ◌<◌, Bool, true, false, cond, not, ◌&&◌, eqb, List, [], ◌∷◌, ◌++◌, length, take, drop, sym, refl, ap, ◌∙◌, append-nil, one-add, arith}
use mathlib.Core.Bool.{beq}
use Rattle.std.proofs.lemmas.List.{take_at, drop_at}
use Rattle.std.proofs.lemmas.Bool.{and_parts, not-true, ne_eqb}
use Rattle.words.specs.Words.{is_blank, span_of, text_of, word_of, rest_of}
use Rattle.words.specs.Numbers.{is_end}

-- no blank in it
abbrev pub solid : List ℕ → Bool
solid [] = true
solid (b ∷ bs) = not (is_blank b) && solid bs

-- a word: some bytes, no blank among them
pub record Solid (w : List ℕ) : Type 0 where
  pub some : 0 < length w
  pub whole : solid w ≡ true

-- no word goes on at its front
abbrev pub Stops : List ℕ → Type 0
Stops t = span_of false t ≡ 0

blank-not : (b : ℕ) (bs : List ℕ) → solid (b ∷ bs) ≡ true → is_blank b ≡ false
blank-not b bs h = not-true (is_blank b) (and_parts (not (is_blank b)) (solid bs) h).0

span-word : (w t : List ℕ) → solid w ≡ true → Stops t → span_of false (w ++ t) ≡ length w
span-word [] t h e = e
span-word (b ∷ w) t h e =
    ap (λ x. cond (beq x false) (1 + span_of false (w ++ t)) 0) (blank-not b w h)
    ∙ ap (λ n. 1 + n) (span-word w t (and_parts (not (is_blank b)) (solid w) h).1 e)
    ∙ one-add (length w)

-- a text that begins with a word
text-word : (w t : List ℕ) → 0 < length w → solid w ≡ true → text_of (w ++ t) ≡ w ++ t
text-word [] t some h = absurd (omega arith)
text-word (b ∷ w) t some h =
    ap (λ n. drop n (b ∷ (w ++ t))) (ap (λ x. cond (beq x true) (1 + span_of true (w ++ t)) 0) (blank-not b w h))

module _ (w t : List ℕ) (s : Solid w) (e : Stops t) where
  pub first_word : word_of (w ++ t) ≡ w
  first_word =
      ap (λ (l : List ℕ). take (span_of false l) l) (text-word w t s.some s.whole)
      ∙ ap (λ n. take n (w ++ t)) (span-word w t s.whole e) ∙ take_at w t (length w) refl

  pub first_rest : rest_of (w ++ t) ≡ t
  first_rest =
      ap (λ (l : List ℕ). drop (span_of false l) l) (text-word w t s.some s.whole)
      ∙ ap (λ n. drop n (w ++ t)) (span-word w t s.whole e) ∙ drop_at w t (length w) refl

-- a space before a text changes no word
text-space : (l : List ℕ) → text_of (32 ∷ l) ≡ text_of l
text-space l = ap (λ n. drop n (32 ∷ l)) (one-add (span_of true l))

module _ (w t : List ℕ) (s : Solid w) (e : Stops t) where
  pub next_word : word_of (32 ∷ (w ++ t)) ≡ w
  next_word = ap (λ (l : List ℕ). take (span_of false l) l) (text-space (w ++ t)) ∙ first_word w t s e

  pub next-rest : rest_of (32 ∷ (w ++ t)) ≡ t
  next-rest = ap (λ (l : List ℕ). drop (span_of false l) l) (text-space (w ++ t)) ∙ first_rest w t s e

  pub not_end : is_end (32 ∷ (w ++ t)) ≡ false
  not_end =
      ap (λ (v : List ℕ). eqb (length v) 0) next_word ∙ ne_eqb (length w) 0 (λ z. let some = s.some in omega arith)

-- the last word
pub last_word : (w : List ℕ) → Solid w → word_of (32 ∷ w) ≡ w
last_word w s = ap (λ (l : List ℕ). word_of (32 ∷ l)) (sym (append-nil w)) ∙ next_word w [] s refl

pub last_rest : (w : List ℕ) → Solid w → rest_of (32 ∷ w) ≡ []
last_rest w s = ap (λ (l : List ℕ). rest_of (32 ∷ l)) (sym (append-nil w)) ∙ next-rest w [] s refl

pub last-not-end : (w : List ℕ) → Solid w → is_end (32 ∷ w) ≡ false
last-not-end w s = ap (λ (l : List ℕ). is_end (32 ∷ l)) (sym (append-nil w)) ∙ not_end w [] s refl
