use Rattle.std.proofs.Common.{◌++◌, string_bytes, ap, ◌∙◌}
use Rattle.cases.proofs.Joined.{lines_of, lines_more, lines-all}
use Rattle.cases.proofs.lines.lines.Goals as goal

pub loop-case-init : goal.loop-case-init
loop-case-init c = ap (λ x. x ++ lines_of c.args.cases.now) c.new-text.ensures.bytes

pub loop-case-preserved : goal.loop-case-preserved
loop-case-preserved c =
    let before = string_bytes c.loop-case.text in
    lines_more c.args.cases.now c.loop-case.case-index _ before _ _ c.loop-case-test.true c.in_ok-line.ensures
    (c.in_ok-push_str.ensures.bytes ∙ ap (λ x. before ++ x) c.as_str.ensures.value) c.loop-case.invariant

pub returns : goal.returns
returns c = lines-all c.args.cases.now c.loop-case.case-index (string_bytes c.loop-case.text) c.loop-case-test.false c.loop-case.invariant
