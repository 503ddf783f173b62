use Rattle.std.proofs.Common.{◌≡◌, ℕ, true, false, List, codes, Some, sym, refl, ap, ◌∙◌, rules}
use Rattle.std.specs.Option.{option_map}
use Rattle.words.specs.Words.{is_word}
use Rattle.words.proofs.Names.{word_or_not}
use Rattle.answers.specs.declared.answer.Answer.TheVariants.{Refused}
use Rattle.reread.specs.Forms.{refusal_of}
use Rattle.reread.specs.Answers.{row_answer, numbered_of, behind_of}
use Rattle.reread.proofs.reading.behind_of.Goals as goal

-- a first word that is not `account`
module _ (word rest : List ℕ) (a : is_word word (codes "account") ≡ false) where
  as_row : is_word word (codes "row") ≡ true → behind_of word rest ≡ row_answer rest
  as_row r = rw (a, r) refl

  as_refused : is_word word (codes "row") ≡ false → is_word word (codes "refused") ≡ true → behind_of word rest ≡ option_map Refused (refusal_of rest)
  as_refused r f = rw (a, r, f) refl

  as_other : is_word word (codes "row") ≡ false → is_word word (codes "refused") ≡ false → behind_of word rest ≡ numbered_of word rest
  as_other r f = rw (a, r, f) refl

pub returns-in-row : goal.returns-in-row
returns-in-row c =
    let word = c.args.word.now in
    let a : is_word word (codes "account") ≡ false = search (rules, word_or_not) in
    let r : is_word word (codes "row") ≡ true = search (rules, word_or_not) in
    c.row_answer.ensures ∙ sym (as_row word c.args.rest.now a r)

pub returns-in_ok-refusal_of-in-refused : goal.returns-in_ok-refusal_of-in-refused
returns-in_ok-refusal_of-in-refused c =
    let word = c.args.word.now in
    let a : is_word word (codes "account") ≡ false = search (rules, word_or_not) in
    let r : is_word word (codes "row") ≡ false = search (rules, word_or_not) in
    let f : is_word word (codes "refused") ≡ true = search (rules, word_or_not) in
    let s : refusal_of c.args.rest.now ≡ Some c.in_ok-refusal_of-in-refused.field-0 = search rules in
    sym (as_refused word c.args.rest.now a r f ∙ ap (option_map Refused) s)

pub returns-in_default : goal.returns-in_default
returns-in_default c =
    let word = c.args.word.now in
    let a : is_word word (codes "account") ≡ false = search (rules, word_or_not) in
    let r : is_word word (codes "row") ≡ false = search (rules, word_or_not) in
    let f : is_word word (codes "refused") ≡ false = search (rules, word_or_not) in
    c.numbered_of.ensures ∙ sym (as_other word c.args.rest.now a r f)
