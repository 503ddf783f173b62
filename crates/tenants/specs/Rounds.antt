-- The calls that the rounds of a month make at a dwelling.
use Rattle.std.specs.Prelude.{ℕ, ◌+◌, ◌-◌, ◌%◌, Bool, true, false, cond, not, ◌&&◌, ◌||◌, List, Some, None, Option, is_none, ◌==◌, nat_le}
use Rattle.account.specs.declared.event.OpeningForm.{OpeningForm}
use Rattle.chance.specs.Drawn.{drawn_below}
use Rattle.run.specs.declared.call.Call.{Call}
use Rattle.run.specs.declared.call.Call.TheVariants.{Open, Read, Settle, Pay, Close, Show}
use Rattle.script.specs.declared.line.SheetName.{SheetName}
use Rattle.script.specs.declared.line.SheetName.TheVariants.{Decree, House, ProtectedDecree, ProtectedHouse}
use Rattle.tally.specs.declared.tally.Tally.{Tally}
use Rattle.tenants.specs.declared.rounds.Round.{Round}
use Rattle.tenants.specs.declared.rounds.Round.TheVariants.{MovingIn, Reading, Settling, Paying, MovingOut, Showing, Slipping}
use Rattle.tenants.specs.declared.visit.Visit.{Visit}
use Rattle.tenants.specs.Households.{profile_of, monthly_of, billed_after}
use Rattle.tenants.specs.Visits.{lot_of, household_of, moves_in, leaves}
use Rattle.tenants.specs.Meters.{start_indices, indices_after}
use Rattle.tenants.specs.Payments.{amount_of}
use Rattle.tenants.specs.Slips.{slip_of}

abbrev pub sheet_at : ℕ → SheetName
sheet_at n = cond (n == 0) Decree (cond (n == 1) House (cond (n == 2) ProtectedDecree ProtectedHouse))

-- the sheet of a settlement
abbrev pub sheet_of : Visit → SheetName
sheet_of v = sheet_at (drawn_below (lot_of v) 5 4)

-- a new tenant's account
abbrev pub opening_of : Visit → OpeningForm
opening_of v = record {
  profile = profile_of (household_of v v.month);
  first = v.month;
  indices = start_indices (profile_of (household_of v v.month)).kinds (lot_of v);
}

-- what is asked at an account; at a vacant number nothing
abbrev pub of_account : Option Tally → (Tally → Option (Call SheetName)) → Option (Call SheetName)
of_account None asks = None
of_account (Some t) asks = asks t

abbrev pub moving_in : Visit → Option (Call SheetName)
moving_in v = cond (is_none v.tally && moves_in v) (Some (Open v.number (opening_of v))) None

-- a reading every third month, and when the tenant leaves
abbrev pub reads_now : Visit → Tally → Bool
reads_now v t = (v.month - t.first) % 3 == 2 || leaves v

-- the indices after the months since the last reading
abbrev pub reading_of : Visit → Tally → List ℕ
reading_of v t = indices_after t.indices (monthly_of (household_of v t.first)) ((v.month - t.first) % 3 + 1) (lot_of v)

abbrev pub reading : Visit → Option (Call SheetName)
reading v = of_account v.tally (λ t. cond (reads_now v t) (Some (Read v.number (reading_of v t))) None)

-- a bill when its months are full, and when the tenant leaves
abbrev pub settles_now : Visit → Tally → Bool
settles_now v t = t.ready && (nat_le (billed_after (household_of v t.first)) (v.month - t.next) || leaves v)

abbrev pub settling : Visit → Option (Call SheetName)
settling v = of_account v.tally (λ t. cond (settles_now v t) (Some (Settle v.number v.month (sheet_of v))) None)

abbrev pub paying : Visit → Option (Call SheetName)
paying v = of_account v.tally (λ t. cond (amount_of v t == 0) None (Some (Pay v.number (amount_of v t))))

-- a tenant leaves who owes nothing and is owed nothing
abbrev pub moving_out : Visit → Option (Call SheetName)
moving_out v = of_account v.tally (λ t. cond (not t.ready && t.charged == t.paid && leaves v) (Some (Close v.number)) None)

-- a round whose calls should be refused
abbrev pub is_slip : Round → Bool
is_slip MovingIn = false
is_slip Reading = false
is_slip Settling = false
is_slip Paying = false
is_slip MovingOut = false
is_slip Showing = false
is_slip (Slipping turn) = true

-- the call that a round makes at a dwelling
abbrev pub call_in : Round → Visit → Option (Call SheetName)
call_in MovingIn v = moving_in v
call_in Reading v = reading v
call_in Settling v = settling v
call_in Paying v = paying v
call_in MovingOut v = moving_out v
call_in Showing v = Some (Show v.number)
call_in (Slipping turn) v = slip_of v turn
