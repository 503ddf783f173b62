use Rattle.std.specs.Str.{bytes_eq}
use Rattle.std.proofs.lemmas.Bool.Decides.{same_from_decides, Decides-eqb}
use Rattle.std.proofs.lemmas.Slice.Eq.{slice_eq-Decides, bytes_eq-Decides}
use Rattle.words.specs.Words.{is_word}
use Rattle.words.proofs.word.is_word.Goals as goal

pub returns : goal.returns
unfolding is_word
returns c =
    same_from_decides c.eq.result (bytes_eq c.args.word.now c.args.name.now)
    (slice_eq-Decides Decides-eqb c.args.word.now c.args.name.now c.eq.result c.eq.ensures) (bytes_eq-Decides c.args.word.now c.args.name.now)
