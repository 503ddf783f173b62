-- The twelve known cases of the rules, with their results.
use Rattle.std.specs.Prelude.{ℕ, List, [], ◌∷◌, map, Some, Option}
use Rattle.cases.specs.declared.case.Question.{Question}
use Rattle.cases.specs.declared.case.Question.TheVariants.{Month, OnDecree, OnProtected, Register}
use Rattle.cases.specs.declared.case.Answer.{Answer}
use Rattle.cases.specs.declared.case.Answer.TheVariants.{NonFuel, Plan, Kwh}
use Rattle.cases.specs.Years.{one_circuit, two_circuits}
use Rattle.cases.specs.Answering.{answered}

-- a case with its known result
pub record Known : Type 0 where
  pub number : ℕ
  pub question : Question
  pub result : Answer

abbrev pub known : ℕ → Question → Answer → Known
known n q r = record { number = n; question = q; result = r }

-- Marks: 1 two-rate requested, 2 extension agreed, 4 protected customer.
abbrev pub known_cases : List Known
known_cases =
    -- number; s, Mx; N_E
    known 1 (Month 888131 141151) (NonFuel 10000)
    ∷ known 2 (Month 892572 141151) (NonFuel 10019)
    -- number; sheet; P, marks, kWh by day and by night; code and cents
    ∷ known 3 (OnDecree (one_circuit 100 1 2000 1500)) (Plan 729 30861)
    ∷ known 4 (OnDecree (one_circuit 100 1 2000 526)) (Plan 0 26010)
    ∷ known 5 (OnDecree (one_circuit 100 1 2000 527)) (Plan 729 26019)
    ∷ known 6 (OnDecree (one_circuit 300 0 21259 0)) (Plan 0 218691)
    ∷ known 7 (OnDecree (one_circuit 300 0 21260 0)) (Plan 1458 218699)
    -- and the night kWh of a night-reserved circuit
    ∷ known 8 (OnDecree (two_circuits 100 3 2000 0 5000)) (Plan 3 43261)
    ∷ known 9 (OnDecree (two_circuits 100 3 2000 1766 5000)) (Plan 2916 53289)
    ∷ known 10 (OnProtected (one_circuit 120 4 500 0)) (Plan 4374 0)
    ∷ known 11 (OnProtected (one_circuit 120 4 501 0)) (Plan 4374 710)
    -- number; old and new index; kWh
    ∷ known 12 (Register 999990 15) (Kwh 25)
    ∷ []

-- a case as it is put to the program: its number and its question
abbrev pub case_of : Known → ℕ × Question
case_of k = (k.number, k.question)

abbrev pub twelve_cases : List (ℕ × Question)
twelve_cases = map case_of known_cases

-- the twelve results as the rules' definitions work them out
abbrev pub worked_out : List (ℕ × Option Answer)
worked_out = map answered twelve_cases

-- and as they are known
abbrev pub result_of : Known → ℕ × Option Answer
result_of k = (k.number, Some k.result)

abbrev pub known_results : List (ℕ × Option Answer)
known_results = map result_of known_cases
