-- What each line about a board or a cabinet is answered. A line about a cabinet where nothing stands is unreadable, and so is one of an earlier user once a cabinet has taken the board.
use Rattle.std.specs.Prelude.{ℕ, Bool, true, false, List, Some, None, Ok, Err, Option, Result}
use Rattle.refusal.specs.declared.Refusal.{Refusal}
use Rattle.board.specs.declared.fault.BoardFault.{BoardFault}
use Rattle.board.specs.Faults.{board_refusal}
use Rattle.board.specs.Meaning.{Row}
use Rattle.boards.specs.declared.making.NotMade.{NotMade}
use Rattle.boards.specs.declared.making.NotMade.TheVariants as unmade
use Rattle.house.specs.declared.line.Line as house
use Rattle.script.specs.declared.line.SheetName.{SheetName}
use Rattle.callforms.specs.declared.forms.BoardForm.{BoardForm}
use Rattle.sheets.specs.Named.{tariff_named}
use Rattle.ledger.specs.Calls.{blank}
use Rattle.law.specs.Transcript as plain
use Rattle.run.specs.declared.call.Call.{Call}
use Rattle.run.specs.Asked.{asked}
use Rattle.answers.specs.declared.answer.Answer.{Answer}
use Rattle.answers.specs.declared.answer.Answer.TheVariants as answer
use Rattle.replies.specs.Replies.{reply_answer}
use Rattle.bench.specs.Stands.{Stand}
use Rattle.bench.specs.Makings.{make_answer, StartsAt}
use Rattle.bench.specs.Deeds.{row_reply, row_place, store_reply, store_after, call_reply}

-- a new board by its capacity and its limit, or why there is none
abbrev pub made_answer : Result (ℕ × ℕ) NotMade → Answer
made_answer (Ok figures) = answer.Made figures.0 figures.1
made_answer (Err (unmade.Refused fault)) = answer.Refused (board_refusal fault)
made_answer (Err unmade.NoMemory) = answer.NoMemory

abbrev pub board_line_answer : Bool → BoardForm → Answer
board_line_answer memory form = made_answer (make_answer memory form)

-- a call with the sheet that it names, where the house sheet has these lines
abbrev pub asked_with : List house.Line → Call SheetName → plain.Call
asked_with lines call = asked (λ name. tariff_named name lines) call

-- what a call was answered, if it could be made
abbrev pub replied : Option plain.Reply → Answer
replied None = answer.Unreadable
replied (Some reply) = reply_answer reply

abbrev pub call_line_answer : List house.Line → Stand → Call SheetName → Answer
call_line_answer lines s call = replied (call_reply s (asked_with lines call))

-- the row that was found
abbrev pub row_told : Option (Result Bool Refusal) → Row → Answer
row_told None row = answer.Unreadable
row_told (Some (Ok true)) row = answer.Row row
row_told (Some (Ok false)) row = answer.Vacant
row_told (Some (Err refusal)) row = answer.Refused refusal

abbrev pub row_line_answer : Stand → ℕ → Answer
row_line_answer s n = row_told (row_reply s n) (row_place s n blank)

-- what an earlier user of the board is answered
abbrev pub deed_answer : Option (Result (Unit {0}) BoardFault) → Answer
deed_answer None = answer.Unreadable
deed_answer (Some (Ok u)) = answer.Done
deed_answer (Some (Err fault)) = answer.Refused (board_refusal fault)

-- a row is stored that has its 128 bytes
abbrev pub store_line_answer : Stand → ℕ → Option Row → Answer
store_line_answer s n None = answer.Unreadable
store_line_answer s n (Some row) = deed_answer (store_reply s n)

abbrev pub store_line_after : Stand → ℕ → Option Row → Stand
store_line_after s n None = s
store_line_after s n (Some row) = store_after s n row

-- where a board was made, a run of calls can start
abbrev pub StartsMade : Answer → Stand → Type 0
StartsMade (answer.Tenths n) s = Unit {0}
StartsMade (answer.Lines n) s = Unit {0}
StartsMade (answer.Parts fixed energy cents) s = Unit {0}
StartsMade answer.NotPermitted s = Unit {0}
StartsMade (answer.Plan code fixed energy cents) s = Unit {0}
StartsMade answer.NoPlan s = Unit {0}
StartsMade (answer.Made capacity limit) s = StartsAt s
StartsMade (answer.Posted month ne) s = Unit {0}
StartsMade answer.Done s = Unit {0}
StartsMade (answer.Bill b) s = Unit {0}
StartsMade (answer.Account a) s = Unit {0}
StartsMade answer.Vacant s = Unit {0}
StartsMade (answer.Row bytes) s = Unit {0}
StartsMade (answer.Refused r) s = Unit {0}
StartsMade answer.Unreadable s = Unit {0}
StartsMade answer.NoMemory s = Unit {0}
