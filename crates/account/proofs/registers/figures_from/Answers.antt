use Rattle.std.proofs.Common.{◌≡◌, ℕ, ◌<◌, true, false, length, get_or, Some, ap, ◌∙◌, subst, arith, length-set}
use Rattle.std.proofs.lemmas.Bool.Decides.{nat_tests}
use Rattle.std.proofs.lemmas.List.Edits.{fill_by_more}
use Rattle.std.proofs.lemmas.List.FromFn.{fill_by_all}
use Rattle.common.specs.Counts.{all_to}
use Rattle.common.proofs.Counted.{all_to-more, all_to-not, all_to-at}
use Rattle.account.specs.Registers.{kind_of, figure_fits, register_fits}
use Rattle.account.proofs.registers.figures_from.Goals as goal

pub returns-then-not-figure_fits : goal.returns-then-not-figure_fits
returns-then-not-figure_fits c =
    let f : register_fits c.args.figure c.args.kinds.now c.args.numbers.now c.loop-i.i ≡ false = grind (arith, nat_tests) in
    let n = all_to-not (register_fits c.args.figure c.args.kinds.now c.args.numbers.now) 12 c.loop-i.i (omega arith) f in
    record { value = rw n; limits = tt }

pub loop-i-preserved : goal.loop-i-preserved
loop-i-preserved c =
    let h : c.loop-i.i < length c.loop-i.figures = omega arith in
    let f : register_fits c.args.figure c.args.kinds.now c.args.numbers.now c.loop-i.i ≡ true = grind (arith, nat_tests) in
    let m = all_to-more (register_fits c.args.figure c.args.kinds.now c.args.numbers.now) c.loop-i.i in (
      simp length-set c.loop-i.invariant.0,
      fill_by_more (λ k. get_or c.args.numbers.now k 0) c.loop-i.figures c.loop-i.i 0 h c.loop-i.invariant.1,
      grind arith,
    )

pub returns : goal.returns
returns c =
    let figure = c.args.figure in
    let kinds = c.args.kinds.now in
    let numbers = c.args.numbers.now in
    let e : c.loop-i.i ≡ 12 = omega arith in
    let t : all_to (register_fits figure kinds numbers) 12 ≡ true = subst (λ n. all_to (register_fits figure kinds numbers) n ≡ true) e c.loop-i.invariant.2 in
    let at : (k : ℕ) → k < 12 → get_or c.loop-i.figures k 0 ≡ get_or numbers k 0 = λ k h. c.loop-i.invariant.1 k (omega arith) in
    let o = fill_by_all (λ k. get_or numbers k 0) c.loop-i.figures 12 0 c.loop-i.invariant.0 at in
    record {
      value = rw t (ap Some o);
      limits = λ i h. ap (figure_fits figure (kind_of kinds i)) (at i h) ∙ all_to-at (register_fits figure kinds numbers) 12 t i h;
    }
