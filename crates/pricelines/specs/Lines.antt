-- What a line is answered from the house sheet alone, and the lines of the sheet after it.
use Rattle.std.specs.Prelude.{◌≡◌, ◌≢◌, ℕ, Bool, true, false, List, Some, None, Option, refl}
use Rattle.facts.specs.Forms.{facts_made}
use Rattle.rating.specs.Ratings.{rating_of}
use Rattle.house.specs.declared.line.Line as house
use Rattle.sheets.specs.Named.{tariff_named}
use Rattle.scriptlines.specs.declared.line.Line.{Line}
use Rattle.scriptlines.specs.declared.line.Line.TheVariants.{Silent, Unreadable, Rating, House, Price, Choose, Board, Call, Row, Store, Clear}
use Rattle.scriptlines.specs.Lines.{line_of}
use Rattle.answers.specs.declared.answer.Answer.{Answer}
use Rattle.answers.specs.declared.answer.Answer.TheVariants as answer
use Rattle.priceanswers.specs.Answers.{rating_answer, price_line_answer, choose_line_answer, house_line_answer, house_line_after}
use Rattle.priceanswers.specs.Moving.{found_memory}
use Rattle.priceanswers.specs.Moving as by

-- a pricing line asks for a rating or a price, or brings a house sheet
abbrev pub is_pricing : Line (List ℕ) → Bool
is_pricing Silent = false
is_pricing Unreadable = false
is_pricing (Rating network ampere) = true
is_pricing (House text) = true
is_pricing (Price sheet code facts) = true
is_pricing (Choose sheet facts) = true
is_pricing (Board form) = false
is_pricing (Call call) = false
is_pricing (Row number) = false
is_pricing (Store number text) = false
is_pricing (Clear number) = false

-- the answer to a line, where the house sheet has these lines and memory is found or not; a line that is not silent and no pricing line is unreadable
abbrev pub answer_to : Bool → List house.Line → Line (List ℕ) → Option Answer
answer_to memory lines Silent = None
answer_to memory lines Unreadable = Some answer.Unreadable
answer_to memory lines (Rating network ampere) = Some (rating_answer (rating_of network ampere))
answer_to memory lines (House text) = Some (house_line_answer memory text)
answer_to memory lines (Price sheet code facts) = Some (price_line_answer (tariff_named sheet lines) code (facts_made facts))
answer_to memory lines (Choose sheet facts) = Some (choose_line_answer (tariff_named sheet lines) (facts_made facts))
answer_to memory lines (Board form) = Some answer.Unreadable
answer_to memory lines (Call call) = Some answer.Unreadable
answer_to memory lines (Row number) = Some answer.Unreadable
answer_to memory lines (Store number text) = Some answer.Unreadable
answer_to memory lines (Clear number) = Some answer.Unreadable

-- a line that is neither silent nor a pricing line is unreadable
pub other-unreadable : (memory : Bool) (lines : List house.Line) (line : Line (List ℕ)) → is_pricing line ≡ false → line ≢ Silent → answer_to memory lines line ≡ Some answer.Unreadable
other-unreadable memory lines Silent other sounds = absurd (sounds refl)
other-unreadable memory lines Unreadable other sounds = refl
other-unreadable memory lines (Rating network ampere) other sounds = absurd (cc other)
other-unreadable memory lines (House text) other sounds = absurd (cc other)
other-unreadable memory lines (Price sheet code facts) other sounds = absurd (cc other)
other-unreadable memory lines (Choose sheet facts) other sounds = absurd (cc other)
other-unreadable memory lines (Board form) other sounds = refl
other-unreadable memory lines (Call call) other sounds = refl
other-unreadable memory lines (Row number) other sounds = refl
other-unreadable memory lines (Store number text) other sounds = refl
other-unreadable memory lines (Clear number) other sounds = refl

-- the lines of the house sheet after a line; only a house line moves them
abbrev pub lines_after : Bool → Line (List ℕ) → List house.Line → List house.Line
lines_after memory Silent lines = lines
lines_after memory Unreadable lines = lines
lines_after memory (Rating network ampere) lines = lines
lines_after memory (House text) lines = house_line_after memory text lines
lines_after memory (Price sheet code facts) lines = lines
lines_after memory (Choose sheet facts) lines = lines
lines_after memory (Board form) lines = lines
lines_after memory (Call call) lines = lines
lines_after memory (Row number) lines = lines
lines_after memory (Store number text) lines = lines
lines_after memory (Clear number) lines = lines

-- a line moves the house sheet exactly where its answer says that N lines were read, and then N lines stand, within their limits
abbrev pub Moved : List house.Line → List house.Line → Option Answer → Type 0
Moved before after None = after ≡ before
Moved before after (Some a) = by.Moved before after a

-- the text of a line is answered, and the house sheet stands after it as the line says
pub record Answered (before : List house.Line) (text : List ℕ) (said : Option Answer) (after : List house.Line) : Type 0 where
  pub answer : said ≡ answer_to (found_memory said) before (line_of text)
  pub stands : after ≡ lines_after (found_memory said) (line_of text) before
  pub moved : Moved before after said
