use Rattle.std.proofs.Common.{true, refl, arith}
use Rattle.answers.specs.Texts.{spaced}
use Rattle.answers.proofs.Pieces.{put-none, put_next, put_all}
use Rattle.answers.proofs.numbers.SpacedDisplay.fmt.Goals as goal

pub loop-number-init : goal.loop-number-init
loop-number-init g c = put-none g.W.Write.write_str_gives c.args.f.now

pub loop-number-preserved : goal.loop-number-preserved
loop-number-preserved g c = λ plain.
    let so_far = c.loop-number.invariant plain in
    put_next g.W.Write.write_str_gives spaced c.args.self.now.0.now c.loop-number.number-index c.args.f.now c.loop-number.f c.write.new.self
    (omega arith) so_far (c.in_ok-write.ensures.writes so_far.plain (refl {a = true}))

pub returns-clause-writes : goal.returns-clause-writes
returns-clause-writes g c = λ plain _.
    put_all g.W.Write.write_str_gives spaced c.args.self.now.0.now c.loop-number.number-index c.args.f.now c.loop-number.f
    (omega arith) (c.loop-number.invariant plain)
