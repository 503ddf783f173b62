-- A dwelling in a month, and the lots that are drawn for it.
use Rattle.std.specs.Prelude.{ℕ, Bool, Some, None, Option, List, replicate, ◌==◌, nat_lt}
use Rattle.chance.specs.Drawn.{drawn, drawn_below}
use Rattle.tally.specs.declared.tally.Tally.{Tally}
use Rattle.tenants.specs.declared.household.Household.{Household}
use Rattle.tenants.specs.declared.visit.Visit.{Visit}
use Rattle.tenants.specs.Households.{household_at}

-- the lots of the dwelling in the month
abbrev pub lot_of : Visit → ℕ
lot_of v = drawn (drawn v.estate.seed v.number) v.month

-- and of its tenant, who moved in in the month `first`
abbrev pub tenant_of : Visit → ℕ → ℕ
tenant_of v first = drawn (drawn v.estate.seed v.number) first

abbrev pub household_of : Visit → ℕ → Household
household_of v first = household_at (drawn_below (tenant_of v first) 0 8)

-- an empty dwelling is moved into in two months out of three
abbrev pub moves_in : Visit → Bool
moves_in v = nat_lt 0 (drawn_below (lot_of v) 1 3)

-- a tenant leaves in one month out of forty
abbrev pub leaves : Visit → Bool
leaves v = drawn_below (lot_of v) 2 40 == 0

-- the indices read last, and the first month that is not settled; all 0 where nobody lives
abbrev pub indices_by : Option Tally → List ℕ
indices_by None = replicate 12 0
indices_by (Some t) = t.indices

abbrev pub indices_of : Visit → List ℕ
indices_of v = indices_by v.tally

abbrev pub next_by : Option Tally → ℕ
next_by None = 0
next_by (Some t) = t.next

abbrev pub next_of : Visit → ℕ
next_of v = next_by v.tally
