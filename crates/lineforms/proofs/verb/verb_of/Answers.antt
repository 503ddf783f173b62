use Rattle.std.proofs.Common.{sym, subst}
use Rattle.lineforms.specs.Verbs.{verb_of, Says}
use Rattle.lineforms.proofs.Saying.{says}
use Rattle.lineforms.proofs.verb.verb_of.Goals as goal

pub returns : goal.returns
unfolding verb_of
returns c = record {
  value = c.first_named.ensures;
  says = subst (Says c.args.word.now) (sym c.first_named.ensures) (says c.args.word.now);
}
