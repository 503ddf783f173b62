-- What holds of an open account, one deed more.
use Rattle.std.proofs.Common.{◌≡◌, ℕ, ◌+◌, ◌*◌, ◌<◌, ◌≤◌, List, [], ◌∷◌, length, get_or, sym, refl, subst, arith}
use Rattle.common.specs.Counts.{sum_to}
use Rattle.sheet.specs.Tariff.{Tariff, price}
use Rattle.account.specs.declared.hours.Hours.{Hours}
use Rattle.account.specs.Registers.{register_of}
use Rattle.account.specs.Waiting.{waiting_in_all}
use Rattle.account.specs.Kept.{Kept}
use Rattle.account.proofs.Kwh.{register-below}
use Rattle.row.proofs.Inverse.{read_back}
use Rattle.cabinet.specs.declared.bill.Bill.{Bill}
use Rattle.law.specs.History.{Deed, reads, settles, pays, Opened, unsettled, kwh_of, kwh_on, charged_in, period_of, next_month, account_in}
use Rattle.facts.specs.Usage.{Usage}
use Rattle.law.specs.Law.{Least, LeastSum, opened, read, paid, settled, PlanSum, at-opening, over-reading, over-payment, over-period, RightBill, Fair}
use Rattle.law.proofs.Twelve.{at-twelve, sum_same, sum_both}
use Rattle.law.proofs.Mono.{rounded-mono}

-- the kWh waiting in the row are those read since the last settlement
pub waiting-is : (hours : Hours) (o : Opened) (ds : List Deed) → waiting_in_all hours (account_in o ds) ≡ sum_to (λ c. unsettled o ds (register_of hours c)) 6
waiting-is hours o ds =
    sum_same (λ c. get_or (account_in o ds).waiting (register_of hours c) 0) (λ c. unsettled o ds (register_of hours c)) 6
    (λ c h. at-twelve (unsettled o ds) (register_of hours c) (register-below hours c h))

-- least prices never sum up to more than the prices of permitted plans
pub sums-below : {o : Opened} {ds : List Deed} {c d : ℕ} → LeastSum o ds c → PlanSum o ds d → c ≤ d
sums-below opened at-opening = omega arith
sums-below (read a) (over-reading b) = sums-below a b
sums-below (paid a) (over-payment b) = sums-below a b
sums-below {o} (settled {e} {sheet} {months} {b} {ds} {c} {p} a l) (over-period code q h) =
    let u = period_of o ds e months in
    let x = sums-below a q in
    let y = rounded-mono p (price sheet u code) (120000000 * u.months) (omega arith) (l.least code h) in
    omega (arith, x, y)

-- a bill's price is the least
pub bill-least : (sheet : Tariff) (u : Usage) (b : Bill) → RightBill sheet u b → Least sheet u (price sheet u b.code)
bill-least sheet u b r = record { code = b.code; permitted = r.permitted; costs = refl; least = r.least }

pub fair-opened : (o : Opened) → Kept (account_in o []) → Fair o []
fair-opened o k = record {
  charged = opened;
  bills = tt;
  kwh = λ hours. let v = waiting-is hours o [] in omega (arith, v);
  never-above = λ c s. sums-below opened s;
  row = read_back (account_in o []) k;
}

module _ (o : Opened) (ds : List Deed) (f : Fair o ds) where
  pub fair-read : (new : List ℕ) → Kept (account_in o (reads new ∷ ds)) → Fair o (reads new ∷ ds)
  fair-read new k = record {
    charged = read f.charged;
    bills = f.bills;
    kwh = λ hours.
        let x = f.kwh hours in
        let w = waiting-is hours o ds in
        let v = waiting-is hours o (reads new ∷ ds) in
        let s = sum_both (λ c. unsettled o ds (register_of hours c)) (λ c. kwh_of o ds new (register_of hours c)) 6 in
        omega (arith, x, w, v, s);
    never-above = λ c s. sums-below (read f.charged) s;
    row = read_back (account_in o (reads new ∷ ds)) k;
  }

  pub fair-paid : (cents : ℕ) → Kept (account_in o (pays cents ∷ ds)) → Fair o (pays cents ∷ ds)
  fair-paid cents k = record {
    charged = paid f.charged;
    bills = f.bills;
    kwh = f.kwh;
    never-above = λ c s. sums-below (paid f.charged) s;
    row = read_back (account_in o (pays cents ∷ ds)) k;
  }

  settled-sum : (e : ℕ) (sheet : Tariff) (months : List (ℕ × ℕ)) (b : Bill) → RightBill sheet (period_of o ds e months) b → LeastSum o (settles e sheet months b ∷ ds) (charged_in ds + b.cents)
  settled-sum e sheet months b r =
      subst (λ c. LeastSum o (settles e sheet months b ∷ ds) (charged_in ds + c)) (sym r.cents) (settled f.charged (bill-least sheet (period_of o ds e months) b r))

  pub fair-settled : (e : ℕ) (sheet : Tariff) (months : List (ℕ × ℕ)) (b : Bill) → RightBill sheet (period_of o ds e months) b → next_month o ds ≤ e → e < length months
      → ((hours : Hours) → kwh_on hours b ≡ waiting_in_all hours (account_in o ds)) → Kept (account_in o (settles e sheet months b ∷ ds)) → Fair o (settles e sheet months b ∷ ds)
  fair-settled e sheet months b r from to kwh k = record {
    charged = settled-sum e sheet months b r;
    bills = (r, from, to, f.bills);
    kwh = λ hours.
        let x = f.kwh hours in
        let y = kwh hours in
        let v = waiting-is hours o (settles e sheet months b ∷ ds) in
        omega (arith, x, y, v);
    never-above = λ c s. sums-below (settled-sum e sheet months b r) s;
    row = read_back (account_in o (settles e sheet months b ∷ ds)) k;
  }
