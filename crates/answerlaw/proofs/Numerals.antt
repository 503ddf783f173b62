-- Numbers in decimal digits are read back.
use Rattle.std.proofs.Common.{◌≡◌, ℕ, suc, ◌+◌, ◌-◌, ◌*◌, ◌/◌, ◌%◌, ◌^◌, ◌<◌, ◌≤◌, true, false, cond, not, ◌&&◌, eqb, ltb, leb, List, [], ◌∷◌, ◌++◌, length, get_or, ℤ, pos, negsuc, Some, None, decimal, Option, sym, refl, ap, ◌∙◌, append_assoc, append-nil, arith}
use lib.Signed.{mag}
use Rattle.std.specs.Option.{option_map}
use Rattle.std.specs.Fmt.{signed_decimal}
use Rattle.std.specs.List.{AllByRecursion}
use Rattle.std.proofs.lemmas.Fmt.{decimal_by_steps, decimal_nonempty, length-decimal-le}
use Rattle.std.proofs.ByRecursion.{All-push}
use Rattle.std.proofs.lemmas.Bool.{and_from, cond-true, cond-false, le-leb, lt-ltb, ne_eqb, and_right}
use Rattle.std.proofs.lemmas.Bool.Decides.{nat_tests}
use Rattle.words.specs.Words.{is_blank, word_of}
use Rattle.words.specs.Numbers.{is_digit, digit_more, number_from, number_of}
use Rattle.answers.specs.Texts.{spaced_all}
use Rattle.answerwords.specs.Front.{bound, before, front_of, ended, exactly}
use Rattle.answerwords.specs.Words.{below_zero, from_zero, signed_at, signed_of}
use Rattle.answerlaw.specs.Fits.{Fit64}
use Rattle.answerlaw.proofs.Spaces.{solid, Solid, Stops, next_word, next-rest}

number_from-append : (o : Option ℕ) (ds es : List ℕ) → number_from o (ds ++ es) ≡ number_from (number_from o ds) es
number_from-append None ds es = refl
number_from-append (Some v) [] es = refl
number_from-append (Some v) (d ∷ ds) es = number_from-append (digit_more v d) ds es

digit-more : (v d : ℕ) → d < 10 → v * 10 + d < 2 ^ 64 → digit_more v (48 + d) ≡ Some (v * 10 + d)
digit-more v d h fits =
    let e : 48 + d - 48 ≡ d = omega arith in
    ap (λ x. cond (is_digit (48 + d) && ltb (v * 10 + x) (2 ^ 64)) (Some (v * 10 + x)) None) e
    ∙ cond-true (is_digit (48 + d) && ltb (v * 10 + d) (2 ^ 64)) (Some (v * 10 + d)) None
    (and_from (is_digit (48 + d)) (ltb (v * 10 + d) (2 ^ 64))
    (and_from (leb 48 (48 + d)) (leb (48 + d) 57) (le-leb 48 (48 + d) (omega arith)) (le-leb (48 + d) 57 (omega arith)))
    (lt-ltb (v * 10 + d) (2 ^ 64) fits))

-- ds are digits, and the number n
abbrev Reads : ℕ → List ℕ → Type 0
Reads n ds = n < 2 ^ 64 → (number_from (Some 0) ds ≡ Some n) × AllByRecursion (λ b. (48 ≤ b) × (b ≤ 57)) ds

one : (n : ℕ) → n < 10 → Reads n ((48 + n) ∷ [])
one n h fits =
    (ap (λ o. number_from o []) (digit-more 0 n h (omega arith)) ∙ ap Some (omega arith), ((omega arith, omega arith), tt))

more : (n : ℕ) (ds : List ℕ) → 10 ≤ n → Reads (n / 10) ds → Reads n (ds ++ ((48 + n % 10) ∷ []))
more n ds h front fits =
    let p = front (omega arith) in
    let low : n % 10 < 10 = omega arith in
    let all : n / 10 * 10 + n % 10 ≡ n = omega arith in (
      number_from-append (Some 0) ds ((48 + n % 10) ∷ []) ∙ ap (λ o. number_from o ((48 + n % 10) ∷ [])) p.0
          ∙ ap (λ o. number_from o []) (digit-more (n / 10) (n % 10) low (omega arith)) ∙ ap Some all,
      All-push (λ b. (48 ≤ b) × (b ≤ 57)) ds (48 + n % 10) p.1 (omega arith, omega arith),
    )

decimal-reads : (n : ℕ) → n < 2 ^ 64 → (number_from (Some 0) (decimal n) ≡ Some n) × AllByRecursion (λ b. (48 ≤ b) × (b ≤ 57)) (decimal n)
decimal-reads n h = decimal_by_steps Reads one more n h h

solid-digits : (ds : List ℕ) → AllByRecursion (λ b. (48 ≤ b) × (b ≤ 57)) ds → solid ds ≡ true
solid-digits [] h = refl
solid-digits (b ∷ ds) h =
    let low : 48 ≤ b = h.0.0 in
    let blank : not (is_blank b) ≡ true = grind (arith, nat_tests) in
    and_from (not (is_blank b)) (solid ds) blank (solid-digits ds h.1)

pub solid-decimal : (n : ℕ) → n < 2 ^ 64 → Solid (decimal n)
solid-decimal n h = record { some = decimal_nonempty n h; whole = solid-digits (decimal n) (decimal-reads n h).1 }

pub number-decimal : (n : ℕ) → n < 2 ^ 64 → number_of (decimal n) ≡ Some n
number-decimal n h =
    let w : List ℕ = decimal n in
    cond-true (leb 1 (length w) && leb (length w) 20) (number_from (Some 0) w) None
    (and_from (leb 1 (length w)) (leb (length w) 20) (le-leb 1 (length w) (decimal_nonempty n h)) (le-leb (length w) 20 (length-decimal-le 20 n (omega arith) (omega arith) h)))
    ∙ (decimal-reads n h).0

-- numbers behind spaces
pub stops-spaced : (ns t : List ℕ) → Stops t → Stops (spaced_all ns ++ t)
stops-spaced [] t e = e
stops-spaced (n ∷ ns) t e = refl

-- one number
module _ (n : ℕ) (h : n < 2 ^ 64) (t : List ℕ) (e : Stops t) where
  pub number-next : number_of (word_of (32 ∷ (decimal n ++ t))) ≡ Some n
  number-next = ap number_of (next_word (decimal n) t (solid-decimal n h) e) ∙ number-decimal n h

-- a list of them
pub front-spaced : (ns t : List ℕ) → Fit64 ns → Stops t → front_of (length ns) (spaced_all ns ++ t) ≡ Some (ns, t)
unfolding front_of
front-spaced [] t h e = refl
front-spaced (n ∷ ns) t h e =
    let rest : List ℕ = spaced_all ns ++ t in
    let stops : Stops rest = stops-spaced ns t e in
    ap (λ (l : List ℕ). front_of (suc (length ns)) (32 ∷ l)) (append_assoc (decimal n) (spaced_all ns) t)
    ∙ (λ i. bound (number-next n h.0 rest stops i) (λ x. option_map (before x) (front_of (length ns) (next-rest (decimal n) rest (solid-decimal n h.0) stops i))))
    ∙ ap (option_map (before n)) (front-spaced ns t h.1 e)

-- the same of a list whose length is known
pub front-array : (count : ℕ) (ns t : List ℕ) → length ns ≡ count → Fit64 ns → Stops t → front_of count (spaced_all ns ++ t) ≡ Some (ns, t)
front-array count ns t l h e = ap (λ k. front_of k (spaced_all ns ++ t)) (sym l) ∙ front-spaced ns t h e

pub exactly-spaced : (ns : List ℕ) → Fit64 ns → exactly (length ns) (spaced_all ns) ≡ Some ns
exactly-spaced ns h =
    ap (λ o. bound o (λ front. ended front.1 front.0))
    (ap (front_of (length ns)) (sym (append-nil (spaced_all ns))) ∙ front-spaced ns [] h refl)

-- numbers with a sign
first-digit : (w : List ℕ) → AllByRecursion (λ b. (48 ≤ b) × (b ≤ 57)) w → get_or w 0 0 ≡ 45 → ⊥
first-digit [] h e = omega arith
first-digit (b ∷ w) h e = let low : 48 ≤ b = h.0.0 in omega arith

pub signed_back : (z : ℤ) → mag z < 2 ^ 63 → signed_of (signed_decimal z) ≡ Some z
signed_back (pos n) h =
    let w : List ℕ = decimal n in
    let no_minus : (leb 1 (length w) && eqb (get_or w 0 0) 45) ≡ false =
    and_right (leb 1 (length w)) (eqb (get_or w 0 0) 45) (ne_eqb (get_or w 0 0) 45 (first-digit w (decimal-reads n (omega arith)).1)) in
    ap (signed_at w) (cond-false (leb 1 (length w) && eqb (get_or w 0 0) 45) _ None no_minus)
    ∙ ap (λ o. bound o from_zero) (number-decimal n (omega arith))
    ∙ cond-true (ltb n (2 ^ 63)) (Some (pos n)) None (lt-ltb n (2 ^ 63) h)
signed_back (negsuc n) h =
    let ds : List ℕ = decimal (suc n) in
    let minus : (leb 1 (suc (length ds)) && eqb 45 45) ≡ true = and_from (leb 1 (suc (length ds))) true (le-leb 1 (suc (length ds)) (omega arith)) refl in
    let same : suc n - 1 ≡ n = omega arith in
    ap (signed_at (45 ∷ ds)) (cond-true (leb 1 (suc (length ds)) && eqb 45 45) (Some ds) None minus)
    ∙ ap (λ o. bound o below_zero) (number-decimal (suc n) (omega arith))
    ∙ cond-true (leb 1 (suc n) && leb (suc n) (2 ^ 63)) (Some (negsuc (suc n - 1))) None
    (and_from (leb 1 (suc n)) (leb (suc n) (2 ^ 63)) (le-leb 1 (suc n) (omega arith)) (le-leb (suc n) (2 ^ 63) (omega arith)))
    ∙ ap (λ k. Some (negsuc k)) same

pub solid-signed : (z : ℤ) → mag z < 2 ^ 63 → Solid (signed_decimal z)
solid-signed (pos n) h = solid-decimal n (omega arith)
solid-signed (negsuc n) h = let s = solid-decimal (suc n) (omega arith) in record { some = omega arith; whole = s.whole }
