use Rattle.std.proofs.Common.{◌≡◌, ℕ, suc, ◌+◌, ◌-◌, ◌<◌, true, false, eqb, List, [], ◌∷◌, ◌++◌, length, Some, None, sym, ap, ◌∙◌, subst, arith, length-append}
use Rattle.std.proofs.lemmas.Bool.Decides.{nat_tests}
use Rattle.std.specs.Option.{option_map}
use Rattle.words.specs.Words.{word_of}
use Rattle.words.specs.Numbers.{is_end, number_of, numbers_of}
use Rattle.words.proofs.Gathered.{at-end, at_other, at-full, at_more}
use Rattle.words.proofs.gather.all_numbers.Goals as goal

pub returns-then-is_empty : goal.returns-then-is_empty
returns-then-is_empty c =
    let h : is_end c.loop-word.rest.now ≡ true = sym (c.if-is_empty.ensures ∙ ap (λ (w : List ℕ). eqb (length w) 0) c.split_word.ensures.word) in
    sym (at-end c.loop-word.numbers c.loop-word.rest.now (26 - length c.loop-word.numbers) (numbers_of 26 c.args.line.now) c.loop-word.invariant.1 h)

pub returns-in_err-number : goal.returns-in_err-number
returns-in_err-number c =
    let h : is_end c.loop-word.rest.now ≡ false = sym (c.if-is_empty.ensures ∙ ap (λ (w : List ℕ). eqb (length w) 0) c.split_word.ensures.word) in
    let n : number_of (word_of c.loop-word.rest.now) ≡ None = sym (c.in_err-number.ensures ∙ ap number_of c.split_word.ensures.word) in
    c.from_residual.ensures ∙ sym (at_other c.loop-word.numbers c.loop-word.rest.now (26 - length c.loop-word.numbers) (numbers_of 26 c.args.line.now) c.loop-word.invariant.1 h n)

pub returns-in_err-ok : goal.returns-in_err-ok
returns-in_err-ok c =
    let h : is_end c.loop-word.rest.now ≡ false = sym (c.if-is_empty.ensures ∙ ap (λ (w : List ℕ). eqb (length w) 0) c.split_word.ensures.word) in
    let none : 26 - length c.loop-word.numbers ≡ 0 = grind (arith, nat_tests) in
    let e = subst (λ k. numbers_of 26 c.args.line.now ≡ option_map (λ xs. c.loop-word.numbers ++ xs) (numbers_of k c.loop-word.rest.now)) none c.loop-word.invariant.1 in
    c.from_residual-in_err-ok.ensures ∙ sym (at-full c.loop-word.numbers c.loop-word.rest.now (numbers_of 26 c.args.line.now) e h)

pub loop-word-preserved : goal.loop-word-preserved
loop-word-preserved c =
    let h : is_end c.loop-word.rest.now ≡ false = sym (c.if-is_empty.ensures ∙ ap (λ (w : List ℕ). eqb (length w) 0) c.split_word.ensures.word) in
    let x = c.in_ok-number.field-0 in
    let n : number_of (word_of c.loop-word.rest.now) ≡ Some x = sym (c.in_ok-number.ensures ∙ ap number_of c.split_word.ensures.word) in
    let room : length c.loop-word.numbers < 26 = grind (arith, nat_tests) in
    let pushed : c.push.new.self ≡ c.loop-word.numbers ++ x ∷ [] = grind (arith, nat_tests) in
    let more = length-append c.loop-word.numbers (x ∷ []) in
    let long : length c.push.new.self ≡ length c.loop-word.numbers + 1 = ap length pushed ∙ more in
    let less : 26 - length c.loop-word.numbers ≡ suc (26 - length c.push.new.self) = omega arith in
    let e = subst (λ k. numbers_of 26 c.args.line.now ≡ option_map (λ xs. c.loop-word.numbers ++ xs) (numbers_of k c.loop-word.rest.now)) less c.loop-word.invariant.1 in
    let m = at_more c.loop-word.numbers c.loop-word.rest.now (26 - length c.push.new.self) x (numbers_of 26 c.args.line.now) e h n in (
      omega arith,
      subst (λ (front : List ℕ). numbers_of 26 c.args.line.now ≡ option_map (λ xs. front ++ xs) (numbers_of (26 - length c.push.new.self) c.split_word.result.1.now)) (sym pushed)
          (subst (λ (rest : List ℕ). numbers_of 26 c.args.line.now ≡ option_map (λ xs. (c.loop-word.numbers ++ x ∷ []) ++ xs) (numbers_of (26 - length c.push.new.self) rest)) (sym c.split_word.ensures.rest) m),
    )
