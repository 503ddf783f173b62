-- The numbers of a bill.
use Rattle.std.specs.Prelude.{ℕ, List, [], ◌∷◌}
use Rattle.answers.specs.declared.answer.BillFigures.{BillFigures}

-- in the order in which they are written
abbrev pub bill_numbers : BillFigures → List ℕ
bill_numbers b = b.code ∷ b.months ∷ b.day ∷ b.night ∷ b.fixed ∷ b.energy ∷ b.cents ∷ []
