use Rattle.std.proofs.Common.{◌≡◌, sym, subst, rules}
use Rattle.words.specs.Words.{word_of}
use Rattle.scriptlines.specs.Lines.{said, line_of}
use Rattle.scriptlines.specs.Saying.{SaidBy}
use Rattle.scriptlines.proofs.Asking.{said-by}
use Rattle.scriptlines.proofs.reading.read_line.Goals as goal

pub returns : goal.returns
returns c =
    let line = c.args.line.now in
    let e : said c.line_with.result ≡ line_of line = search rules in
    record { value = e; says = subst (SaidBy (word_of line)) (sym e) (said-by line) }
