-- Calls and answers of the program as the law's plain ones.
use Rattle.std.specs.Prelude.{◌≡◌, ℕ, Some, None, Ok, Err, Option, Result}
use Rattle.sheet.specs.Tariff.{Tariff}
use Rattle.account.specs.Tenancy.{tenancy_of}
use Rattle.cabinet.specs.declared.fault.CabinetFault.{CabinetFault}
use Rattle.cabinet.specs.Faults.{cabinet_refusal}
use Rattle.law.specs.Transcript as plain
use Rattle.run.specs.declared.answer.Answer.{Answer}
use Rattle.run.specs.declared.answer.Answer.TheVariants.{Posted, Done, Billed, Shown, Vacant, Refused}
use Rattle.run.specs.declared.call.Call.{Call}
use Rattle.run.specs.declared.call.Call.TheVariants.{Post, Open, Read, Settle, Pay, Close, Show}

-- what a call asks; a settlement by what its sheet means
abbrev pub asked : {S : Type 0} → (S → Tariff) → Call S → plain.Call
asked tariff (Post s mx nc) = plain.posting s mx nc
asked tariff (Open number form) = plain.opening number form
asked tariff (Read number indices) = plain.reading number indices
asked tariff (Settle number end sheet) = plain.settling number end (tariff sheet)
asked tariff (Pay number cents) = plain.paying number cents
asked tariff (Close number) = plain.closing number
asked tariff (Show number) = plain.showing number

-- what an answer tells; a shown account by its plain figures
abbrev pub told : Answer → plain.Reply
told (Posted month ne) = plain.posted month ne
told Done = plain.done
told (Billed bill) = plain.billed bill
told (Shown account) = plain.shown (tenancy_of account)
told Vacant = plain.vacant
told (Refused refusal) = plain.refusal refusal

-- what an outcome tells: its answer, or the refusal that its fault stands for
abbrev pub told_by : Result Answer CabinetFault → plain.Reply
told_by (Ok answer) = told answer
told_by (Err fault) = plain.refusal (cabinet_refusal fault)

-- the number that a call is on; a posting is on none
abbrev pub number_of : {S : Type 0} → Call S → Option ℕ
number_of (Post s mx nc) = None
number_of (Open number form) = Some number
number_of (Read number indices) = Some number
number_of (Settle number end sheet) = Some number
number_of (Pay number cents) = Some number
number_of (Close number) = Some number
number_of (Show number) = Some number

-- the same call on another type of sheet: every number as it was, and at a settlement a sheet that was made of the old one
abbrev pub Mapped : {S T : Type 0} → (S → T → Type 0) → Call S → Call T → Type 0
Mapped made (Post s mx nc) d = d ≡ Post s mx nc
Mapped made (Open number form) d = d ≡ Open number form
Mapped made (Read number indices) d = d ≡ Read number indices
Mapped {S} {T} made (Settle number end sheet) d = (t : T) × made sheet t × (d ≡ Settle number end t)
Mapped made (Pay number cents) d = d ≡ Pay number cents
Mapped made (Close number) d = d ≡ Close number
Mapped made (Show number) d = d ≡ Show number
