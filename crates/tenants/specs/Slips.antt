-- Calls that a careless office makes, each of which is refused whatever stands at its number.
use Rattle.std.specs.Prelude.{ℕ, ◌+◌, ◌-◌, ◌%◌, ◌^◌, Bool, false, cond, not, ◌&&◌, List, replicate, Some, None, Option, ◌==◌, nat_lt, slice_index, slice_set}
use Rattle.account.specs.declared.event.OpeningForm.{OpeningForm}
use Rattle.chance.specs.Drawn.{drawn, drawn_below}
use Rattle.run.specs.declared.call.Call.{Call}
use Rattle.run.specs.declared.call.Call.TheVariants.{Post, Open, Read, Settle, Pay, Close, Show}
use Rattle.script.specs.declared.line.SheetName.{SheetName}
use Rattle.script.specs.declared.line.SheetName.TheVariants.{Decree}
use Rattle.tally.specs.declared.tally.Tally.{Tally}
use Rattle.tally.specs.Energies.{plus}
use Rattle.tenants.specs.declared.slips.Slip.{Slip}
use Rattle.tenants.specs.declared.slips.Slip.TheVariants.{SettlesAgain, SettlesThePast, ReadsBackwards, ReadsTooHigh, PaysNothing, PaysTooMuch, OpensAgain, ClosesUnsettled, ShowsOutside, PostsNothing}
use Rattle.tenants.specs.declared.household.Household.TheVariants.{Flat}
use Rattle.tenants.specs.declared.visit.Visit.{Visit}
use Rattle.tenants.specs.Households.{agreed, profile_of}
use Rattle.tenants.specs.Visits.{lot_of, indices_of, next_of}

abbrev pub slip_at : ℕ → Slip
slip_at n =
    cond (n == 0) SettlesAgain (cond (n == 1) SettlesThePast (cond (n == 2) ReadsBackwards (cond (n == 3) ReadsTooHigh (cond (n == 4) PaysNothing (cond (n == 5) PaysTooMuch (cond (n == 6) OpensAgain (cond (n == 7) ClosesUnsettled (cond (n == 8) ShowsOutside PostsNothing))))))))

-- the first register one lower, and past its end
abbrev pub backwards : List ℕ → List ℕ
backwards indices = slice_set indices 0 ((slice_index indices 0 % 1000000 + 999999) % 1000000)

abbrev pub too_high : List ℕ → List ℕ
too_high indices = slice_set indices 0 1000000

-- a flat without power
abbrev pub powerless : ℕ → OpeningForm
powerless month = record {
  profile = agreed (profile_of Flat).class (profile_of Flat).marks 0 (profile_of Flat).exempt (profile_of Flat).kinds;
  first = month;
  indices = replicate 12 0;
}

-- a reading waits at a number; where it is vacant none does
abbrev pub is_ready : Option Tally → Bool
is_ready None = false
is_ready (Some t) = t.ready

-- an account with nothing left to settle or to pay
abbrev pub is_settled : Option Tally → Bool
is_settled None = false
is_settled (Some t) = not t.ready && t.charged == t.paid

-- a settlement where no reading waits, else up to the month that is not posted yet
abbrev pub settled_again : Visit → Call SheetName
settled_again v = Settle v.number (cond (is_ready v.tally) (plus v.month 1) v.month) Decree

-- a closing where something is left to settle or to pay, else a showing outside
abbrev pub closed_unsettled : Visit → Call SheetName
closed_unsettled v = cond (is_settled v.tally) (Show (2 ^ 64 - 1)) (Close v.number)

abbrev pub slip_call : Slip → Visit → Call SheetName
slip_call SettlesAgain v = settled_again v
slip_call SettlesThePast v = Settle v.number ((next_of v + (2 ^ 64 - 1)) % 2 ^ 64) Decree
slip_call ReadsBackwards v = Read v.number (backwards (indices_of v))
slip_call ReadsTooHigh v = Read v.number (too_high (indices_of v))
slip_call PaysNothing v = Pay v.number 0
slip_call PaysTooMuch v = Pay v.number 1000000001
slip_call OpensAgain v = Open v.number (powerless v.month)
slip_call ClosesUnsettled v = closed_unsettled v
slip_call ShowsOutside v = Show (2 ^ 64 - 1)
slip_call PostsNothing v = Post 0 141151 10000

-- one time out of ten, in a turn of the month
abbrev pub slip_of : Visit → ℕ → Option (Call SheetName)
slip_of v turn =
    cond (nat_lt 0 (drawn_below (drawn (lot_of v) turn) 0 10)) None (Some (slip_call (slip_at (drawn_below (drawn (lot_of v) turn) 1 10)) v))
