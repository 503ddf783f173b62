-- A line and the pricing line that it is are answered the same, and leave the same house sheet.
use Rattle.std.proofs.Common.{◌≡◌, ℕ, Bool, List, refl, ap, ◌∙◌}
use Rattle.house.specs.declared.line.Line as house
use Rattle.scriptlines.specs.declared.line.Line.{Line}
use Rattle.scriptlines.specs.declared.line.Line.TheVariants.{Silent, Unreadable, Rating, House, Price, Choose, Board, Call, Row, Store, Clear}
use Rattle.pricelines.specs.declared.line.PricingLine.{PricingLine}
use Rattle.pricelines.specs.Lines.{answer_to, lines_after}
use Rattle.pricelines.specs.Pricing.{pricing_of, line_as}

same-answer : (memory : Bool) (lines : List house.Line) (line : Line (List ℕ)) → answer_to memory lines (line_as (pricing_of line)) ≡ answer_to memory lines line
same-answer memory lines Silent = refl
same-answer memory lines Unreadable = refl
same-answer memory lines (Rating network ampere) = refl
same-answer memory lines (House text) = refl
same-answer memory lines (Price sheet code facts) = refl
same-answer memory lines (Choose sheet facts) = refl
same-answer memory lines (Board form) = refl
same-answer memory lines (Call call) = refl
same-answer memory lines (Row number) = refl
same-answer memory lines (Store number text) = refl
same-answer memory lines (Clear number) = refl

same-lines : (memory : Bool) (lines : List house.Line) (line : Line (List ℕ)) → lines_after memory (line_as (pricing_of line)) lines ≡ lines_after memory line lines
same-lines memory lines Silent = refl
same-lines memory lines Unreadable = refl
same-lines memory lines (Rating network ampere) = refl
same-lines memory lines (House text) = refl
same-lines memory lines (Price sheet code facts) = refl
same-lines memory lines (Choose sheet facts) = refl
same-lines memory lines (Board form) = refl
same-lines memory lines (Call call) = refl
same-lines memory lines (Row number) = refl
same-lines memory lines (Store number text) = refl
same-lines memory lines (Clear number) = refl

-- where a pricing line is the one that a line is
module _ (line : Line (List ℕ)) (read : PricingLine (List ℕ)) (e : read ≡ pricing_of line) (memory : Bool) (lines : List house.Line) where
  pub narrowed_answer : answer_to memory lines (line_as read) ≡ answer_to memory lines line
  narrowed_answer = ap (λ r. answer_to memory lines (line_as r)) e ∙ same-answer memory lines line

  pub narrowed_lines : lines_after memory (line_as read) lines ≡ lines_after memory line lines
  narrowed_lines = ap (λ r. lines_after memory (line_as r) lines) e ∙ same-lines memory lines line
