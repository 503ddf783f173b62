-- The numbers of an answer fit their types.
use Rattle.std.specs.Prelude.{◌≡◌, ℕ, ◌^◌, ◌<◌, ◌⊎◌, List, [], ◌∷◌, length}
use Rattle.std.specs.Int.Signed.{mag}
use Rattle.std.specs.List.{AllByRecursion}
use Rattle.account.specs.declared.form.AccountForm.{AccountForm}
use Rattle.answers.specs.declared.answer.Answer.{Answer}
use Rattle.answers.specs.declared.answer.Answer.TheVariants.{Tenths, Lines, Parts, NotPermitted, Plan, NoPlan, Made, Posted, Done, Bill, Account, Vacant, Row, Refused, Unreadable, NoMemory}
use Rattle.answers.specs.Bills.{bill_numbers}

-- numbers of 64 bits
abbrev pub Fit64 : List ℕ → Type 0
Fit64 ns = AllByRecursion (λ n. n < 2 ^ 64) ns

-- so many of them
abbrev pub Array64 : ℕ → List ℕ → Type 0
Array64 count ns = (length ns ≡ count) × Fit64 ns

-- an account is running or ready, and its balance has 64 bits with its sign
pub record AccountFits (a : AccountForm) : Type 0 where
  pub state : (a.state ≡ 1) ⊎ (a.state ≡ 2)
  pub powers : Fit64 (a.profile.class ∷ a.profile.marks ∷ a.profile.power ∷ a.profile.exempt ∷ [])
  pub kinds : Array64 6 a.profile.kinds
  pub next : a.next < 2 ^ 64
  pub indices : Array64 12 a.indices
  pub waiting : Array64 12 a.waiting
  pub balance : mag a.balance < 2 ^ 63

abbrev pub AnswerFits : Answer → Type 0
AnswerFits (Tenths n) = n < 2 ^ 16
AnswerFits (Lines n) = Fit64 (n ∷ [])
AnswerFits (Parts fixed energy cents) = Fit64 (fixed ∷ energy ∷ cents ∷ [])
AnswerFits NotPermitted = Unit {0}
AnswerFits (Plan code fixed energy cents) = Fit64 (code ∷ fixed ∷ energy ∷ cents ∷ [])
AnswerFits NoPlan = Unit {0}
AnswerFits (Made capacity limit) = Fit64 (capacity ∷ limit ∷ [])
AnswerFits (Posted month ne) = Fit64 (month ∷ ne ∷ [])
AnswerFits Done = Unit {0}
AnswerFits (Bill b) = Fit64 (bill_numbers b)
AnswerFits (Account a) = AccountFits a
AnswerFits Vacant = Unit {0}
AnswerFits (Row bytes) = (length bytes ≡ 128) × AllByRecursion (λ b. b < 256) bytes
AnswerFits (Refused r) = (r.number < 256) × (r.place < 2 ^ 64)
AnswerFits Unreadable = Unit {0}
AnswerFits NoMemory = Unit {0}
