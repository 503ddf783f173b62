use Rattle.std.proofs.Common.{◌≡◌, ℕ, ◌<◌, true, [], ◌∷◌, ◌++◌, get_or, refl, ◌∙◌, arith}
use lib.Utf8.{encode}
use Rattle.std.proofs.lemmas.Str.Ascii.{encode_ascii}
use Rattle.std.proofs.Output.{has_written_of_eq}
use Rattle.answers.specs.Texts.{hex_byte}
use Rattle.answers.proofs.Pieces.{put-none, put_next, put_all}
use Rattle.answers.proofs.numbers.HexDisplay.fmt.Goals as goal

two : (a b : ℕ) → a < 128 → b < 128 → encode a ++ encode b ≡ a ∷ b ∷ []
two a b h k = λ i. encode_ascii a h i ++ encode_ascii b k i

pub loop-byte-init : goal.loop-byte-init
loop-byte-init g c = put-none g.W.Write.write_str_gives c.args.f.now

pub loop-byte-preserved : goal.loop-byte-preserved
loop-byte-preserved g c = λ plain.
    let bytes = c.args.self.now.0.now in
    let i = c.loop-byte.byte-index in
    let high = c.hex_digit-high.result in
    let low = c.hex_digit-low.result in
    let so_far = c.loop-byte.invariant plain in
    let digits : encode high ++ encode low ≡ hex_byte (get_or bytes i 0) =
    two high low c.hex_digit-high.ensures.ascii c.hex_digit-low.ensures.ascii
    ∙ (λ j. c.hex_digit-high.ensures.digit j ∷ c.hex_digit-low.ensures.digit j ∷ []) in
    put_next g.W.Write.write_str_gives hex_byte bytes i c.args.f.now c.loop-byte.f c.write.new.self (omega arith) so_far
    (has_written_of_eq g.W.Write.write_str_gives c.loop-byte.f (encode high ++ encode low) (hex_byte (get_or bytes i 0)) c.write.new.self digits
    (c.in_ok-write.ensures.writes so_far.plain (refl {a = true})))

pub returns-clause-writes : goal.returns-clause-writes
returns-clause-writes g c = λ plain _.
    put_all g.W.Write.write_str_gives hex_byte c.args.self.now.0.now c.loop-byte.byte-index c.args.f.now c.loop-byte.f
    (omega arith) (c.loop-byte.invariant plain)
