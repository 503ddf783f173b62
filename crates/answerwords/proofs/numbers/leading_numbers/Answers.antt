use Rattle.std.proofs.Common.{◌≡◌, ℕ, suc, ◌+◌, ◌-◌, ◌<◌, ◌≤◌, List, [], ◌∷◌, ◌++◌, length, take, set, Some, None, sym, ap, ◌∙◌, subst, arith, length-set}
use lib.ListN.{length-replicate}
use Rattle.std.specs.Option.{option_map}
use Rattle.std.proofs.lemmas.List.{take_more_set, take_all}
use Rattle.words.specs.Words.{word_of}
use Rattle.words.specs.Numbers.{number_of}
use Rattle.answerwords.specs.Front.{front_of, seen}
use Rattle.answerwords.proofs.Fronts.{behind, at_first, at_none, at_more, at-end}
use Rattle.answerwords.proofs.numbers.leading_numbers.Goals as goal

pub loop-i-init : goal.loop-i-init
loop-i-init g c =
    let text = c.args.text.now in
    let all : g.row.N ≡ g.row.N - 0 = omega arith in
    (length-replicate g.row.N 0, subst (λ k. front_of g.row.N text ≡ option_map (behind []) (front_of k text)) all (at_first (front_of g.row.N text)))

pub returns-in_err-numbers : goal.returns-in_err-numbers
returns-in_err-numbers g c =
    let text = c.args.text.now in
    let ns = take c.loop-i.i c.loop-i.numbers in
    let less : g.row.N - c.loop-i.i ≡ suc (g.row.N - (c.loop-i.i + 1)) = omega arith in
    let e = subst (λ k. front_of g.row.N text ≡ option_map (behind ns) (front_of k c.loop-i.rest.now)) less c.loop-i.invariant.1 in
    let n : number_of (word_of c.loop-i.rest.now) ≡ None = sym (c.in_err-numbers.ensures ∙ ap number_of c.split_word.ensures.word) in
    ap (option_map seen) c.from_residual.ensures ∙ sym (at_none ns c.loop-i.rest.now (front_of g.row.N text) (g.row.N - (c.loop-i.i + 1)) e n)

pub loop-i-preserved : goal.loop-i-preserved
loop-i-preserved g c =
    let text = c.args.text.now in
    let i = c.loop-i.i in
    let numbers = c.loop-i.numbers in
    let x = c.in_ok-numbers.field-0 in
    let less : g.row.N - i ≡ suc (g.row.N - (i + 1)) = omega arith in
    let e = subst (λ k. front_of g.row.N text ≡ option_map (behind (take i numbers)) (front_of k c.loop-i.rest.now)) less c.loop-i.invariant.1 in
    let n : number_of (word_of c.loop-i.rest.now) ≡ Some x = sym (c.in_ok-numbers.ensures ∙ ap number_of c.split_word.ensures.word) in
    let m = at_more (take i numbers) c.loop-i.rest.now (front_of g.row.N text) (g.row.N - (i + 1)) x e n in
    let inside : i < length numbers = omega arith in
    let t : take (i + 1) (set numbers i x) ≡ take i numbers ++ x ∷ [] = take_more_set numbers i x inside in (
      length-set numbers i x ∙ c.loop-i.invariant.0,
      subst (λ (ns : List ℕ). front_of g.row.N text ≡ option_map (behind ns) (front_of (g.row.N - (i + 1)) c.split_word.result.1.now)) (sym t)
          (subst (λ (rest : List ℕ). front_of g.row.N text ≡ option_map (behind (take i numbers ++ x ∷ [])) (front_of (g.row.N - (i + 1)) rest)) (sym c.split_word.ensures.rest) m),
    )

pub returns : goal.returns
returns g c =
    let text = c.args.text.now in
    let numbers = c.loop-i.numbers in
    let none : g.row.N - c.loop-i.i ≡ 0 = omega arith in
    let long : length numbers ≤ c.loop-i.i = omega arith in
    let e = subst (λ k. front_of g.row.N text ≡ option_map (behind (take c.loop-i.i numbers)) (front_of k c.loop-i.rest.now)) none c.loop-i.invariant.1 in
    let f = subst (λ (ns : List ℕ). front_of g.row.N text ≡ option_map (behind ns) (front_of 0 c.loop-i.rest.now)) (take_all c.loop-i.i numbers long) e in
    sym (at-end numbers c.loop-i.rest.now (front_of g.row.N text) f)
