-- How tenants pay.
use Rattle.std.specs.Prelude.{ℕ, ◌+◌, ◌-◌, ◌/◌, min, cond, ◌==◌, nat_lt}
use Rattle.chance.specs.Drawn.{drawn_below}
use Rattle.tally.specs.declared.tally.Tally.{Tally}
use Rattle.tally.specs.Energies.{plus}
use Rattle.tenants.specs.declared.payments.Payer.{Payer}
use Rattle.tenants.specs.declared.payments.Payer.TheVariants.{AtOnce, ByHalves, InAdvance}
use Rattle.tenants.specs.declared.visit.Visit.{Visit}
use Rattle.tenants.specs.Visits.{lot_of, tenant_of, leaves}

abbrev pub payer_at : ℕ → Payer
payer_at n = cond (n == 0) AtOnce (cond (n == 1) ByHalves InAdvance)

-- how the tenant of an account pays
abbrev pub payer_of : Visit → Tally → Payer
payer_of v t = payer_at (drawn_below (tenant_of v t.first) 4 3)

-- the cents that are owed
abbrev pub owes : Tally → ℕ
owes t = t.charged - t.paid

-- 8 to 16 euros in advance, up to 60 euros of credit
abbrev pub advance : Visit → Tally → ℕ
advance v t = cond (nat_lt (t.paid - t.charged) 6000) (800 + drawn_below (lot_of v) 3 801) 0

-- all that is owed, a half of it, or all and something in advance
abbrev pub paid_by : Payer → Visit → Tally → ℕ
paid_by AtOnce v t = owes t
paid_by ByHalves v t = owes t - owes t / 2
paid_by InAdvance v t = plus (owes t) (advance v t)

-- who leaves pays all that is owed; one payment is at most 10^9
abbrev pub amount_of : Visit → Tally → ℕ
amount_of v t = min (cond (leaves v) (owes t) (paid_by (payer_of v t) v t)) 1000000000
