-- Sums against what a cabinet shows.
use Rattle.std.specs.Prelude.{◌≡◌, ◌+◌, Some, None, Option, ⊤}
use Rattle.account.specs.declared.hours.Hours.{Hours}
use Rattle.account.specs.declared.hours.Hours.TheVariants.{Day, Night}
use Rattle.account.specs.Tenancy.{Tenancy}
use Rattle.account.specs.Waiting.{waiting_in_all}
use Rattle.law.specs.Transcript.{Reply, posted, done, billed, shown, vacant, refusal}
use Rattle.tally.specs.declared.tally.Tally.{Tally}
use Rattle.tally.specs.Energies.{energy_in}
use Rattle.tally.specs.Tallies.{owed}

-- the kWh read in these hours are those billed and those waiting
abbrev pub Metered : Hours → Tally → Tenancy → Type 0
Metered h t a = energy_in h t.read ≡ energy_in h t.billed + waiting_in_all h a

-- the balance is what is owed, the next month the one behind the last bill, and all kWh are there
abbrev pub Agrees : Tally → Tenancy → Type 0
Agrees t a = (a.balance ≡ owed t) × (a.next ≡ t.next) × Metered Day t a × Metered Night t a

-- a showing tells what the sums at its number say, none where it is vacant
abbrev pub ShownBy : Option Tally → Reply → Type 0
ShownBy t (posted month ne) = ⊥
ShownBy t done = ⊥
ShownBy t (billed b) = ⊥
ShownBy (Some t) (shown a) = Agrees t a
ShownBy None (shown a) = ⊥
ShownBy (Some t) vacant = ⊥
ShownBy None vacant = ⊤
ShownBy t (refusal r) = ⊥
