-- The account that a history makes, one deed more.
use Rattle.std.proofs.Common.{◌≡◌, ℕ, ◌+◌, ◌<◌, List, [], ◌∷◌, get_or, ℤ, pos, ◌+ℤ◌, ◌-ℤ◌, sym, refl, ap, ◌∙◌, arith}
use Rattle.std.proofs.lemmas.Int.{ints}
use Rattle.common.specs.Counts.{all_to}
use Rattle.common.proofs.Outcomes.{some-if}
use Rattle.facts.specs.Usage.{Dwelling}
use Rattle.sheet.specs.Tariff.{Tariff}
use Rattle.account.specs.declared.event.OpeningForm.{OpeningForm}
use Rattle.account.specs.declared.figure.Figure.TheVariants.{Index}
use Rattle.account.specs.Registers.{register_fits, register_size, kind_of, difference, twelve}
use Rattle.account.specs.Tenancy.{Tenancy}
use Rattle.account.specs.Steps.{counted, joined}
use Rattle.accountlaw.proofs.Accepted.{Opened as OpenedAs, Taken, Booked, Credited}
use Rattle.cabinet.specs.declared.bill.Bill.{Bill}
use Rattle.law.specs.History.{Deed, reads, settles, pays, Opened, index_of, unsettled, kwh_of, charged_in, paid_in, account_in}
use Rattle.law.proofs.Twelve.{at-twelve, twelve-same}

-- accounts with the same figures
same-account : (t u : Tenancy) → t.state ≡ u.state → t.dwelling ≡ u.dwelling → t.next ≡ u.next → t.indices ≡ u.indices → t.waiting ≡ u.waiting → t.balance ≡ u.balance → t ≡ u
same-account t u a b c d e f = λ i. record { state = a i; dwelling = b i; next = c i; indices = d i; waiting = e i; balance = f i }

abbrev pub opened_by : OpeningForm → Dwelling → Opened
opened_by f d = record { dwelling = d; first = f.first; start = f.indices }

pub opened-is : (f : OpeningForm) (u : Tenancy) → OpenedAs f u → u ≡ account_in (opened_by f u.dwelling) []
opened-is f u a =
    let shown = some-if (all_to (register_fits Index u.dwelling.kinds f.indices) 12) (twelve (λ i. get_or f.indices i 0)) u.indices a.shown in
    same-account u (account_in (opened_by f u.dwelling) []) a.state refl a.next (sym shown.1) a.waiting a.balance

-- cents charged, and cents paid, join the balance
pub charge-more : (a p c : ℕ) → (pos a -ℤ pos p) +ℤ pos c ≡ pos (a + c) -ℤ pos p
charge-more a p c = omega (arith, ints)

pub pay-more : (a p c : ℕ) → (pos a -ℤ pos p) -ℤ pos c ≡ pos a -ℤ pos (p + c)
pay-more a p c = omega (arith, ints)

module _ (o : Opened) (ds : List Deed) where
  -- the kWh of a reading, and what then waits, register by register
  pub counts : (new xs : List ℕ) → twelve (λ i. get_or new i 0) ≡ xs → (i : ℕ) → i < 12 → counted (account_in o ds) xs i ≡ kwh_of o ds new i
  counts new xs e i h =
      let x = at-twelve (index_of o ds) i h in
      let y : get_or xs i 0 ≡ get_or new i 0 = ap (λ (ys : List ℕ). get_or ys i 0) (sym e) ∙ at-twelve (λ k. get_or new k 0) i h in
      ap (λ (old : ℕ). difference (register_size (kind_of o.dwelling.kinds i)) old (get_or xs i 0)) x ∙ ap (difference (register_size (kind_of o.dwelling.kinds i)) (index_of o ds i)) y

  pub joins : (new xs : List ℕ) → twelve (λ i. get_or new i 0) ≡ xs → (i : ℕ) → i < 12 → joined (account_in o ds) xs i ≡ unsettled o (reads new ∷ ds) i
  joins new xs e i h =
      ap (λ (w : ℕ). w + counted (account_in o ds) xs i) (at-twelve (unsettled o ds) i h) ∙ ap (λ (x : ℕ). unsettled o ds i + x) (counts new xs e i h)

  pub read_is : (new : List ℕ) (u : Tenancy) → Taken new (account_in o ds) u → u ≡ account_in o (reads new ∷ ds)
  read_is new u a =
      let shown = some-if (all_to (register_fits Index o.dwelling.kinds new) 12) (twelve (λ i. get_or new i 0)) u.indices a.shown in
      same-account u (account_in o (reads new ∷ ds)) a.state a.dwelling a.next (sym shown.1)
      (a.waiting ∙ twelve-same (joined (account_in o ds) u.indices) (unsettled o (reads new ∷ ds)) (joins new u.indices shown.1)) a.balance

  pub settle_is : (e : ℕ) (sheet : Tariff) (months : List (ℕ × ℕ)) (b : Bill) (u : Tenancy) → Booked e b.cents (account_in o ds) u → u ≡ account_in o (settles e sheet months b ∷ ds)
  settle_is e sheet months b u a =
      a.is ∙ ap (λ (z : ℤ). record { state = (account_in o (settles e sheet months b ∷ ds)).state; dwelling = o.dwelling; next = e + 1; indices = twelve (index_of o ds); waiting = twelve (unsettled o (settles e sheet months b ∷ ds)); balance = z })
      (charge-more (charged_in ds) (paid_in ds) b.cents)

  pub pay-is : (cents : ℕ) (u : Tenancy) → Credited cents (account_in o ds) u → u ≡ account_in o (pays cents ∷ ds)
  pay-is cents u a =
      a.is ∙ ap (λ (z : ℤ). record { state = (account_in o ds).state; dwelling = o.dwelling; next = (account_in o ds).next; indices = twelve (index_of o ds); waiting = twelve (unsettled o ds); balance = z })
      (pay-more (charged_in ds) (paid_in ds) cents)
