-- Codes and plans correspond one to one.
use Rattle.std.proofs.Common.{◌≡◌, ℕ, zero, suc, ◌+◌, ◌*◌, ◌/◌, ◌%◌, ◌^◌, ◌<◌, ◌≤◌, true, false, ltb, List, length, get_or, is_some, Some, None, Option, unwrap_or, sym, refl, ap, ◌∙◌, arith}
use Rattle.std.specs.Option.{option_map}
use Rattle.std.proofs.lemmas.Nat.{div-add-mod', mod_below}
use Rattle.std.proofs.lemmas.List.FromFn.{length-map-range_with_len}
use Rattle.std.proofs.lemmas.List.{ext_get_or}
use Rattle.std.proofs.lemmas.Bool.Decides.{nat_tests}
use Rattle.decreeplan.specs.declared.plan.Base.{Base}
use Rattle.decreeplan.specs.declared.plan.Base.TheVariants.{Normal, TwoRate, Normal30, TwoRate30, Extended, Extended30}
use Rattle.decreeplan.specs.declared.plan.Place.{Place}
use Rattle.decreeplan.specs.declared.plan.Place.TheVariants.{Main, ExclusiveNight, PeakShed}
use Rattle.decreeplan.specs.Codes.{base_number, base_at, place_number, digit_place, code_of, base_of, place_in, places_of, plan_at, Coded}
use Rattle.decreeplan.proofs.Digits.{rest_more, get_or-places_of}

place-back : (p : Place) → digit_place (place_number p) ≡ p
place-back Main = refl
place-back ExclusiveNight = refl
place-back PeakShed = refl

place-small : (p : Place) → place_number p < 3
place-small Main = omega arith
place-small ExclusiveNight = omega arith
place-small PeakShed = omega arith

base_back : (b : Base) → base_at (base_number b) ≡ Some b
base_back Normal = refl
base_back TwoRate = refl
base_back Normal30 = refl
base_back TwoRate30 = refl
base_back Extended = refl
base_back Extended30 = refl

digit-back : (d : ℕ) → d < 3 → place_number (digit_place d) ≡ d
digit-back zero h = refl
digit-back (suc zero) h = refl
digit-back (suc (suc zero)) h = refl
digit-back (suc (suc (suc d))) h = absurd (omega arith)

-- what holds of six numbers holds of each below six
each-of-six : (P : ℕ → Type 0) → P 0 → P 1 → P 2 → P 3 → P 4 → P 5 → (i : ℕ) → i < 6 → P i
each-of-six P a b c d e f zero h = a
each-of-six P a b c d e f (suc zero) h = b
each-of-six P a b c d e f (suc (suc zero)) h = c
each-of-six P a b c d e f (suc (suc (suc zero))) h = d
each-of-six P a b c d e f (suc (suc (suc (suc zero)))) h = e
each-of-six P a b c d e f (suc (suc (suc (suc (suc zero))))) h = f
each-of-six P a b c d e f (suc (suc (suc (suc (suc (suc i)))))) h = absurd (omega arith)

-- a number of six digits to the base three, with what stands above them
module _ (b d0 d1 d2 d3 d4 d5 : ℕ) (h0 : d0 < 3) (h1 : d1 < 3) (h2 : d2 < 3) (h3 : d3 < 3) (h4 : d4 < 3) (h5 : d5 < 3) where
  abbrev six : ℕ
  six = 729 * b + (0 + d0 * 1 + d1 * 3 + d2 * 9 + d3 * 27 + d4 * 81 + d5 * 243)

  top : six / 729 ≡ b
  top = omega arith

  digit0 : six / 1 % 3 ≡ d0
  digit0 = omega arith

  digit1 : six / 3 % 3 ≡ d1
  digit1 = omega arith

  digit2 : six / 9 % 3 ≡ d2
  digit2 = omega arith

  digit3 : six / 27 % 3 ≡ d3
  digit3 = omega arith

  digit4 : six / 81 % 3 ≡ d4
  digit4 = omega arith

  digit5 : six / 243 % 3 ≡ d5
  digit5 = omega arith

place-in-code : (b : Base) (places : List Place) (i : ℕ) → i < 6 → place_in (code_of b places) i ≡ get_or places i Main
unfolding code_of
place-in-code b places =
    let n : ℕ → ℕ = λ i. place_number (get_or places i Main) in
    let s : (i : ℕ) → n i < 3 = λ i. place-small (get_or places i Main) in
    let k = place-back in
    each-of-six (λ i. place_in (code_of b places) i ≡ get_or places i Main)
    (ap digit_place (digit0 (base_number b) (n 0) (n 1) (n 2) (n 3) (n 4) (n 5) (s 0) (s 1) (s 2) (s 3) (s 4) (s 5)) ∙ k (get_or places 0 Main))
    (ap digit_place (digit1 (base_number b) (n 0) (n 1) (n 2) (n 3) (n 4) (n 5) (s 0) (s 1) (s 2) (s 3) (s 4) (s 5)) ∙ k (get_or places 1 Main))
    (ap digit_place (digit2 (base_number b) (n 0) (n 1) (n 2) (n 3) (n 4) (n 5) (s 0) (s 1) (s 2) (s 3) (s 4) (s 5)) ∙ k (get_or places 2 Main))
    (ap digit_place (digit3 (base_number b) (n 0) (n 1) (n 2) (n 3) (n 4) (n 5) (s 0) (s 1) (s 2) (s 3) (s 4) (s 5)) ∙ k (get_or places 3 Main))
    (ap digit_place (digit4 (base_number b) (n 0) (n 1) (n 2) (n 3) (n 4) (n 5) (s 0) (s 1) (s 2) (s 3) (s 4) (s 5)) ∙ k (get_or places 4 Main))
    (ap digit_place (digit5 (base_number b) (n 0) (n 1) (n 2) (n 3) (n 4) (n 5) (s 0) (s 1) (s 2) (s 3) (s 4) (s 5)) ∙ k (get_or places 5 Main))

base-in-code : (b : Base) (places : List Place) → base_of (code_of b places) ≡ Some b
unfolding code_of
base-in-code b places =
    let n : ℕ → ℕ = λ i. place_number (get_or places i Main) in
    let s : (i : ℕ) → n i < 3 = λ i. place-small (get_or places i Main) in
    ap base_at (top (base_number b) (n 0) (n 1) (n 2) (n 3) (n 4) (n 5) (s 0) (s 1) (s 2) (s 3) (s 4) (s 5)) ∙ base_back b

-- a code has six places
pub six-places : (code : ℕ) → length (places_of code) ≡ 6
unfolding places_of
six-places code = length-map-range_with_len (place_in code) 0 6

-- the plan of a plan's code is the plan
pub plan-of-code : (b : Base) (places : List Place) → length places ≡ 6 → plan_at (code_of b places) ≡ Some (b, places)
plan-of-code b places l =
    let s = six-places (code_of b places) in
    let e : places_of (code_of b places) ≡ places =
    ext_get_or Main (places_of (code_of b places)) places (omega arith)
    (λ i h. let k : i < 6 = omega arith in get_or-places_of (code_of b places) i k ∙ place-in-code b places i k) in
    ap (option_map (λ x. (x, places_of (code_of b places)))) (base-in-code b places) ∙ ap (λ p. Some (b, p)) e

base-number : (b : Base) (n : ℕ) → base_at n ≡ Some b → base_number b ≡ n
base-number Normal n e = grind (arith, nat_tests)
base-number TwoRate n e = grind (arith, nat_tests)
base-number Normal30 n e = grind (arith, nat_tests)
base-number TwoRate30 n e = grind (arith, nat_tests)
base-number Extended n e = grind (arith, nat_tests)
base-number Extended30 n e = grind (arith, nat_tests)

-- the digits of a number, put together again
together : (q0 q1 q2 q3 q4 q5 q6 d0 d1 d2 d3 d4 d5 : ℕ)
    → q1 * 3 + d0 ≡ q0 → q2 * 3 + d1 ≡ q1 → q3 * 3 + d2 ≡ q2 → q4 * 3 + d3 ≡ q3 → q5 * 3 + d4 ≡ q4 → q6 * 3 + d5 ≡ q5
    → 729 * q6 + (0 + d0 * 1 + d1 * 3 + d2 * 9 + d3 * 27 + d4 * 81 + d5 * 243) ≡ q0
together q0 q1 q2 q3 q4 q5 q6 d0 d1 d2 d3 d4 d5 e0 e1 e2 e3 e4 e5 = omega arith

-- the code of a code's plan is the code
pub code-of-plan : (b : Base) (code : ℕ) → base_of code ≡ Some b → code_of b (places_of code) ≡ code
unfolding code_of
code-of-plan b code e =
    let d : ℕ → ℕ = λ i. place_number (get_or (places_of code) i Main) in
    let w : (i : ℕ) → i < 6 → code / 3 ^ (i + 1) * 3 + d i ≡ code / 3 ^ i =
    λ i h. let r = code / 3 ^ i in
    let x : d i ≡ r % 3 = ap place_number (get_or-places_of code i h) ∙ digit-back (r % 3) (mod_below r 3 (omega arith)) in
    ap (λ z. z * 3 + d i) (rest_more code i) ∙ ap (λ z. r / 3 * 3 + z) x ∙ div-add-mod' r 3 in
    ap (λ z. 729 * z + (0 + d 0 * 1 + d 1 * 3 + d 2 * 9 + d 3 * 27 + d 4 * 81 + d 5 * 243)) (base-number b (code / 729) e)
    ∙ together (code / 1) (code / 3) (code / 9) (code / 27) (code / 81) (code / 243) (code / 729) (d 0) (d 1) (d 2) (d 3) (d 4) (d 5)
    (w 0 (omega arith)) (w 1 (omega arith)) (w 2 (omega arith)) (w 3 (omega arith)) (w 4 (omega arith)) (w 5 (omega arith))
    ∙ omega arith

base-below : (b : Base) → base_number b < 6
base-below Normal = omega arith
base-below TwoRate = omega arith
base-below Normal30 = omega arith
base-below TwoRate30 = omega arith
base-below Extended = omega arith
base-below Extended30 = omega arith

below-some : (b : Base) (code : ℕ) → base_of code ≡ Some b → true ≡ ltb code 4374
below-some b code e =
    let n = base-number b (code / 729) e in
    let h = base-below b in
    let l : code < 4374 = omega arith in
    grind (arith, nat_tests)

below_none : (code : ℕ) → base_of code ≡ None → false ≡ ltb code 4374
below_none code e =
    let n : 6 ≤ code / 729 = grind (arith, nat_tests) in
    let l : 4374 ≤ code = omega arith in
    grind (arith, nat_tests)

-- the plan of a code is the only one that has it
coded-some : (b : Base) (code : ℕ) → base_of code ≡ Some b → Coded code (Some (b, places_of code))
coded-some b code e = (
  six-places code,
  code-of-plan b code e,
  λ c places l q.
      let p : Some (c, places) ≡ Some (b, places_of code) =
      sym (plan-of-code c places l) ∙ ap plan_at q ∙ ap (option_map (λ x. (x, places_of code))) e in
      (ap (λ (o : Option (Base × List Place)). (unwrap_or {T = Base × List Place} o (c, places)).0) p, ap (λ (o : Option (Base × List Place)). (unwrap_or {T = Base × List Place} o (c, places)).1) p),
)

coded_none : (code : ℕ) → base_of code ≡ None → Coded code None
coded_none code e = λ c places l q.
    let p : ◌≡◌ {A = Option (Base × List Place)} (Some (c, places)) None = sym (plan-of-code c places l) ∙ ap plan_at q ∙ ap (option_map (λ x. (x, places_of code))) e in
    let z : ◌≡◌ {A = ℕ} 0 1 = cc in
    omega arith

-- of the plan of any code
pub coded-all : (code : ℕ) (o : Option Base) → base_of code ≡ o → Coded code (option_map (λ b. (b, places_of code)) o)
coded-all code None e = coded_none code e
coded-all code (Some b) e = coded-some b code e

pub below_all : (code : ℕ) (o : Option Base) → base_of code ≡ o → is_some (option_map {U = Base × List Place} (λ b. (b, places_of code)) o) ≡ ltb code 4374
below_all code None e = below_none code e
below_all code (Some b) e = below-some b code e
