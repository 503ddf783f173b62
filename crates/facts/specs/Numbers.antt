-- The numbers of classes, kinds and marks.
use Rattle.std.specs.Prelude.{ℕ, ◌+◌, ◌*◌, ◌/◌, ◌%◌, Bool, true, false, cond, Some, None, Option, ◌==◌, nat_le}
use Rattle.facts.specs.declared.kind.Class.{Class}
use Rattle.facts.specs.declared.kind.Class.TheVariants.{Residential, Professional}
use Rattle.facts.specs.declared.kind.Kind.{Kind}
use Rattle.facts.specs.declared.kind.Kind.TheVariants.{Unused, General, NightReserved, Interruptible}
use Rattle.facts.specs.declared.kind.Marks.{Marks}

abbrev pub class_number : Class → ℕ
class_number Residential = 0
class_number Professional = 1

abbrev pub class_at : ℕ → Option Class
class_at n = cond (n == 0) (Some Residential) (cond (n == 1) (Some Professional) None)

abbrev pub kind_number : Kind → ℕ
kind_number Unused = 0
kind_number General = 1
kind_number NightReserved = 2
kind_number Interruptible = 3

abbrev pub kind_at : ℕ → Option Kind
kind_at n =
    cond (n == 0) (Some Unused)
    (cond (n == 1) (Some General) (cond (n == 2) (Some NightReserved) (cond (n == 3) (Some Interruptible) None)))

-- a mark as a bit
abbrev pub bit : Bool → ℕ
bit true = 1
bit false = 0

-- bit 0 two-rate requested, bit 1 extension agreed, bit 2 social tariff requested by a protected customer
abbrev pub marks_number : Marks → ℕ
marks_number m = bit m.two_rate + 2 * bit m.extension + 4 * bit m.protected

abbrev pub marks_at : ℕ → Option Marks
marks_at n =
    cond (nat_le n 7) (Some (record { two_rate = (n % 2 == 1); extension = (n / 2 % 2 == 1); protected = (n / 4 == 1) })) None
