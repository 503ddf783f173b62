-- How an answer is written.
use Rattle.std.specs.Prelude.{ℕ, List, [], ◌∷◌, ◌++◌, codes}
use Rattle.std.specs.Fmt.{signed_decimal}
use Rattle.refusal.specs.declared.Refusal.{Refusal}
use Rattle.refusal.specs.Refusals.{layer_name}
use Rattle.account.specs.declared.form.AccountForm.{AccountForm}
use Rattle.answers.specs.declared.answer.Answer.{Answer}
use Rattle.answers.specs.declared.answer.Answer.TheVariants.{Tenths, Lines, Parts, NotPermitted, Plan, NoPlan, Made, Posted, Done, Bill, Account, Vacant, Row, Refused, Unreadable, NoMemory}
use Rattle.answers.specs.Bills.{bill_numbers}
use Rattle.answers.specs.Texts.{spaced, spaced_all, hex_text, state_text}

abbrev pub refusal_text : Refusal → List ℕ
refusal_text r = codes "refused" ++ (spaced r.number ++ (codes " " ++ (layer_name r.layer ++ spaced r.place)))

-- class, marks, power and exempt power, the kinds, the next month, the indices and the waiting kWh
abbrev pub account_text : AccountForm → List ℕ
account_text a =
    codes "account "
    ++ (state_text a.state
    ++ (spaced_all (a.profile.class ∷ a.profile.marks ∷ a.profile.power ∷ a.profile.exempt ∷ [])
    ++ (spaced_all a.profile.kinds
    ++ (spaced a.next ++ (spaced_all a.indices ++ (spaced_all a.waiting ++ (codes " " ++ signed_decimal a.balance)))))))

abbrev pub row_text : List ℕ → List ℕ
row_text bytes = codes "row " ++ hex_text bytes

abbrev pub answer_text : Answer → List ℕ
answer_text (Tenths n) = codes "tenths" ++ spaced_all (n ∷ [])
answer_text (Lines n) = codes "lines" ++ spaced_all (n ∷ [])
answer_text (Parts fixed energy cents) = codes "parts" ++ spaced_all (fixed ∷ energy ∷ cents ∷ [])
answer_text NotPermitted = codes "not-permitted"
answer_text (Plan code fixed energy cents) = codes "plan" ++ spaced_all (code ∷ fixed ∷ energy ∷ cents ∷ [])
answer_text NoPlan = codes "none"
answer_text (Made capacity limit) = codes "made" ++ spaced_all (capacity ∷ limit ∷ [])
answer_text (Posted month ne) = codes "posted" ++ spaced_all (month ∷ ne ∷ [])
answer_text Done = codes "done"
answer_text (Bill b) = codes "bill" ++ spaced_all (bill_numbers b)
answer_text (Account a) = account_text a
answer_text Vacant = codes "vacant"
answer_text (Row bytes) = row_text bytes
answer_text (Refused r) = refusal_text r
answer_text Unreadable = codes "unreadable"
answer_text NoMemory = codes "no-memory"
