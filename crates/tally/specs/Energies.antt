-- kWh by day and by night, from the indices of readings.
use Rattle.std.specs.Prelude.{ℕ, ◌+◌, ◌-◌, ◌*◌, ◌%◌, ◌^◌, min, List, slice_index}
use Rattle.common.specs.Counts.{sum_to}
use Rattle.account.specs.declared.hours.Hours.{Hours}
use Rattle.account.specs.declared.hours.Hours.TheVariants.{Day, Night}
use Rattle.cabinet.specs.declared.bill.Bill.{Bill}
use Rattle.tally.specs.declared.energy.Energy.{Energy}

-- the kWh of these hours
abbrev pub energy_in : Hours → Energy → ℕ
energy_in Day e = e.day
energy_in Night e = e.night

-- what a register counted from one index to another: behind 999,999 it begins again at 0
abbrev pub rolled : ℕ → ℕ → ℕ
rolled old new = (new % 1000000 + 1000000 - old % 1000000) % 1000000

-- what the registers of one half of the hours counted, the first by day, the second by night
abbrev pub counted_by : List ℕ → List ℕ → ℕ → ℕ → ℕ
counted_by old new first i = rolled (slice_index old (2 * i + first)) (slice_index new (2 * i + first))

abbrev pub counted_from : List ℕ → List ℕ → ℕ → ℕ
counted_from old new first = sum_to (counted_by old new first) 6

-- what twelve registers counted between two readings
abbrev pub counted_in : List ℕ → List ℕ → Energy
counted_in old new = record { day = counted_from old new 0; night = counted_from old new 1 }

-- the kWh that a bill is for
abbrev pub billed_in : Bill → Energy
billed_in b = record { day = b.day; night = b.night }

-- a sum, as far as 64 bits go
abbrev pub plus : ℕ → ℕ → ℕ
plus a b = min (a + b) (2 ^ 64 - 1)

abbrev pub joined : Energy → Energy → Energy
joined e f = record { day = plus e.day f.day; night = plus e.night f.night }

abbrev pub no_energy : Energy
no_energy = record { day = 0; night = 0 }
