use Rattle.std.proofs.Common.{◌≡◌, ℕ, ◌+◌, Bool, true, false, not, cond, List, length, refl, tests, sym, ap, ◌∙◌, rules, arith}
use Rattle.std.specs.Bool.{beq}
use Rattle.std.specs.Option.{unwrap_or}
use Rattle.std.specs.List.{position, position_or_len}
use Rattle.std.proofs.lemmas.Bool.Decides.{nat_tests}
use Rattle.std.proofs.lemmas.Iterator.{YieldsList-from_slice}
use Rattle.std.proofs.lemmas.Iterator.Search.{position_from_yields_List}
use Rattle.std.proofs.lemmas.List.Sums.{prefix_len-le-length}
use Rattle.std.proofs.lemmas.List.Recursion.{is_position_or_len}
use Rattle.words.specs.Words.{is_blank, span_of}
use Rattle.words.proofs.word.span.Goals as goal

turned : (b : Bool) (m n : ℕ) → cond b m n ≡ cond (not b) n m
turned true m n = refl
turned false m n = refl

-- the first that passes, or else the length
found_or_all : (p : ℕ → Bool) (xs : List ℕ) → unwrap_or (position p xs) (length xs) ≡ position_or_len p xs
found_or_all p xs = let all = prefix_len-le-length (λ x. not (p x)) xs in grind (arith, nat_tests)

pub returns-clause-value : goal.returns-clause-value
returns-clause-value c =
    let bytes = c.args.bytes.now in
    let blank = c.args.blank in
    let other : ℕ → Bool = λ b. not (beq (is_blank b) blank) in
    let found : c.position.result ≡ position other bytes = position_from_yields_List other _ _ c.position.result c.position.ensures.ran (YieldsList-from_slice _ c.iter.ensures.rest) (λ x b q k. search (rules, tests)) in
    let span : span_of blank bytes ≡ position_or_len other bytes = is_position_or_len (span_of blank) other refl (λ x xs. turned (beq (is_blank x) blank) (1 + span_of blank xs) 0) bytes in
    c.unwrap_or.ensures ∙ ap (λ o. unwrap_or o (length bytes)) found ∙ found_or_all other bytes ∙ sym span
