-- What an answer tells of the call that was made.
use Rattle.std.specs.Prelude.{ℕ, Bool, true, false, Some, None, Option}
use Rattle.answers.specs.declared.answer.Answer.{Answer}
use Rattle.answers.specs.declared.answer.Answer.TheVariants.{Tenths, Lines, Parts, NotPermitted, Plan, NoPlan, Made, Posted, Done, Bill, Account, Vacant, Row, Refused, Unreadable, NoMemory}

-- memory was found
abbrev pub had_memory : Answer → Bool
had_memory (Tenths n) = true
had_memory (Lines n) = true
had_memory (Parts fixed energy cents) = true
had_memory NotPermitted = true
had_memory (Plan code fixed energy cents) = true
had_memory NoPlan = true
had_memory (Made capacity limit) = true
had_memory (Posted month ne) = true
had_memory Done = true
had_memory (Bill b) = true
had_memory (Account a) = true
had_memory Vacant = true
had_memory (Row bytes) = true
had_memory (Refused r) = true
had_memory Unreadable = true
had_memory NoMemory = false

-- the count of lines that were read, where an answer says one
abbrev pub lines_read : Answer → Option ℕ
lines_read (Tenths n) = None
lines_read (Lines n) = Some n
lines_read (Parts fixed energy cents) = None
lines_read NotPermitted = None
lines_read (Plan code fixed energy cents) = None
lines_read NoPlan = None
lines_read (Made capacity limit) = None
lines_read (Posted month ne) = None
lines_read Done = None
lines_read (Bill b) = None
lines_read (Account a) = None
lines_read Vacant = None
lines_read (Row bytes) = None
lines_read (Refused r) = None
lines_read Unreadable = None
lines_read NoMemory = None
