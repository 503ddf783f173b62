-- Lines behind lines.
use Rattle.std.proofs.Common.{◌≡◌, ℕ, ◌+◌, ◌<◌, ◌≤◌, List, ◌++◌, map, length, get_or, drop, sym, ap, ◌∙◌, append_assoc, append-nil}
use Rattle.std.proofs.lemmas.List.{at_drop_more, at_drop_all}
use Rattle.cases.specs.declared.case.Question.{Question}
use Rattle.cases.specs.Answering.{answer_of, answered, line_of, written}

abbrev pub lines_of : List (ℕ × Question) → List ℕ
lines_of cases = written (map answered cases)

abbrev line_at : ℕ × Question → List ℕ
line_at c = line_of (c.0, answer_of c.1)

-- the lines from case i on are its line and those behind it
lines_from : (cases : List (ℕ × Question)) (i : ℕ) (d : ℕ × Question) → i < length cases
    → lines_of (drop i cases) ≡ line_at (get_or cases i d) ++ lines_of (drop (i + 1) cases)
unfolding written answered
lines_from cases i d h = at_drop_more lines_of cases i d h

-- with one line more, the lines so far and those to come are still all lines
pub lines_more : (cases : List (ℕ × Question)) (i : ℕ) (d : ℕ × Question) (before line after : List ℕ) → i < length cases
    → line ≡ line_at (get_or cases i d) → after ≡ before ++ line → before ++ lines_of (drop i cases) ≡ lines_of cases
    → after ++ lines_of (drop (i + 1) cases) ≡ lines_of cases
lines_more cases i d before line after h is put held =
    let rest = lines_of (drop (i + 1) cases) in
    ap (λ x. x ++ rest) (put ∙ ap (λ x. before ++ x) is) ∙ append_assoc before (line_at (get_or cases i d)) rest
    ∙ ap (λ x. before ++ x) (sym (lines_from cases i d h)) ∙ held

-- with none to come, the lines so far are all lines
pub lines-all : (cases : List (ℕ × Question)) (i : ℕ) (before : List ℕ) → length cases ≤ i
    → before ++ lines_of (drop i cases) ≡ lines_of cases → before ≡ lines_of cases
unfolding written
lines-all cases i before h held = sym (append-nil before) ∙ ap (λ x. before ++ x) (sym (at_drop_all lines_of cases i h)) ∙ held
