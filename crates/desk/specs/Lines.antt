-- What each line of a script is answered, and the desk after it.
use Rattle.std.specs.Prelude.{◌≡◌, ℕ, Bool, List, Some, None, Option}
use Rattle.facts.specs.Forms.{facts_made}
use Rattle.rating.specs.Ratings.{rating_of}
use Rattle.sheets.specs.Named.{tariff_named}
use Rattle.scriptlines.specs.declared.line.Line.{Line}
use Rattle.scriptlines.specs.declared.line.Line.TheVariants.{Silent, Unreadable, Rating, House, Price, Choose, Board, Call, Row, Store, Clear}
use Rattle.scriptlines.specs.Lines.{line_of}
use Rattle.answers.specs.declared.answer.Answer.{Answer}
use Rattle.answers.specs.declared.answer.Answer.TheVariants as answer
use Rattle.answerwords.specs.Words.{row_of}
use Rattle.priceanswers.specs.Answers.{rating_answer, price_line_answer, choose_line_answer, house_line_answer, house_line_after}
use Rattle.priceanswers.specs.Moving.{Moved, found_memory}
use Rattle.bench.specs.Makings.{make_after}
use Rattle.bench.specs.Deeds.{row_after, clear_reply, clear_after, call_reply, call_after, KeepsLaw}
use Rattle.benchlines.specs.Answers.{board_line_answer, asked_with, call_line_answer, row_line_answer, deed_answer, store_line_answer, store_line_after, StartsMade}
use Rattle.desk.specs.Desks.{DeskMeaning, desk_with}

-- the answer to a line, where memory is found or not
abbrev pub line_answer : Bool → DeskMeaning → Line (List ℕ) → Option Answer
line_answer memory d Silent = None
line_answer memory d Unreadable = Some answer.Unreadable
line_answer memory d (Rating network ampere) = Some (rating_answer (rating_of network ampere))
line_answer memory d (House text) = Some (house_line_answer memory text)
line_answer memory d (Price sheet code facts) = Some (price_line_answer (tariff_named sheet d.lines) code (facts_made facts))
line_answer memory d (Choose sheet facts) = Some (choose_line_answer (tariff_named sheet d.lines) (facts_made facts))
line_answer memory d (Board form) = Some (board_line_answer memory form)
line_answer memory d (Call call) = Some (call_line_answer d.lines d.stand call)
line_answer memory d (Row number) = Some (row_line_answer d.stand number)
line_answer memory d (Store number text) = Some (store_line_answer d.stand number (row_of text))
line_answer memory d (Clear number) = Some (deed_answer (clear_reply d.stand number))

-- the desk after it: a house line moves the sheet, and a line about a board or a cabinet what stands
abbrev pub line_after : Bool → DeskMeaning → Line (List ℕ) → DeskMeaning
line_after memory d Silent = d
line_after memory d Unreadable = d
line_after memory d (Rating network ampere) = d
line_after memory d (House text) = desk_with (house_line_after memory text d.lines) d.stand
line_after memory d (Price sheet code facts) = d
line_after memory d (Choose sheet facts) = d
line_after memory d (Board form) = desk_with d.lines (make_after memory form d.stand)
line_after memory d (Call call) = desk_with d.lines (call_after d.stand (asked_with d.lines call))
line_after memory d (Row number) = desk_with d.lines (row_after d.stand number)
line_after memory d (Store number text) = desk_with d.lines (store_line_after d.stand number (row_of text))
line_after memory d (Clear number) = desk_with d.lines (clear_after d.stand number)

-- the house sheet is moved exactly where the answer says so
abbrev pub LineMoves : DeskMeaning → Option Answer → DeskMeaning → Type 0
LineMoves d None after = after.lines ≡ d.lines
LineMoves d (Some a) after = Moved d.lines after.lines a

-- from a board that was made a run of calls can start
abbrev pub BoardStarts : Option Answer → DeskMeaning → Type 0
BoardStarts None after = Unit {0}
BoardStarts (Some a) after = StartsMade a after.stand

-- the law over runs holds of what is played: a board that was made is where a transcript starts, and each call on it and its answer carry the transcript on
abbrev pub LineKeepsLaw : DeskMeaning → Line (List ℕ) → Option Answer → DeskMeaning → Type 0
LineKeepsLaw d Silent a after = Unit {0}
LineKeepsLaw d Unreadable a after = Unit {0}
LineKeepsLaw d (Rating network ampere) a after = Unit {0}
LineKeepsLaw d (House text) a after = Unit {0}
LineKeepsLaw d (Price sheet code facts) a after = Unit {0}
LineKeepsLaw d (Choose sheet facts) a after = Unit {0}
LineKeepsLaw d (Board form) a after = BoardStarts a after
LineKeepsLaw d (Call call) a after =
    KeepsLaw d.stand (asked_with d.lines call) (call_reply d.stand (asked_with d.lines call)) after.stand
LineKeepsLaw d (Row number) a after = Unit {0}
LineKeepsLaw d (Store number text) a after = Unit {0}
LineKeepsLaw d (Clear number) a after = Unit {0}

-- the text of a line is answered, the desk stands after it as the line says, and the law over runs holds of it
pub record Answered (before : DeskMeaning) (text : List ℕ) (said : Option Answer) (after : DeskMeaning) : Type 0 where
  pub answer : said ≡ line_answer (found_memory said) before (line_of text)
  pub stands : after ≡ line_after (found_memory said) before (line_of text)
  pub moved : LineMoves before said after
  pub lawful : LineKeepsLaw before (line_of text) said after
