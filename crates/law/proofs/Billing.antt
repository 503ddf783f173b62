-- An accepted settlement: its bill is right.
use Rattle.std.proofs.Common.{◌≡◌, ℕ, ◌<◌, ◌≤◌, ltb, List, [], map, length, get_or, Some, None, Ok, Option, sym, refl, ◌∙◌, subst, arith}
use Rattle.std.proofs.lemmas.List.FromFn.{length-map-range_with_len, get_or-map-range_with_len, fill_by_all}
use Rattle.std.proofs.lemmas.Bool.Decides.{nat_tests}
use Rattle.std.specs.List.{range_with_len}
use Rattle.std.specs.Option.{option_map}
use Rattle.common.proofs.Outcomes.{err-not-ok, ok-if}
use Rattle.facts.specs.Usage.{Usage}
use Rattle.sheet.specs.declared.plan.Plan.{Plan}
use Rattle.sheet.specs.Tariff.{Tariff, prices_of, plan_of}
use Rattle.sheet.specs.Choice.{Best, cheapest_of, chosen}
use Rattle.sheet.proofs.Bests.{best-is}
use Rattle.account.specs.declared.hours.Hours.{Hours}
use Rattle.account.specs.declared.hours.Hours.TheVariants.{Day, Night}
use Rattle.account.specs.Registers.{register_of}
use Rattle.account.specs.Steps.{months_to, months_from}
use Rattle.account.specs.Tenancy.{Tenancy}
use Rattle.account.specs.Waiting.{kwh_on as waits_on, waiting_on, waiting_in_all}
use Rattle.account.proofs.Kwh.{register-below}
use Rattle.months.specs.Posted.{ne_sum_of, nc_sum_of}
use Rattle.cabinet.specs.declared.fault.CabinetFault.TheVariants.{NotPosted, NoPlan}
use Rattle.cabinet.specs.Settling.{bill_of}
use Rattle.cabinet.specs.Books.{usage_at, planned, priced}
use Rattle.law.specs.History.{Deed, Opened, unsettled, next_month, period_of, account_in}
use Rattle.law.specs.Law.{together, RightBill}
use Rattle.law.proofs.Twelve.{at-twelve, sum_same}

planned-ok : (n : ℕ) (o : Option Plan) (p : Plan) → planned n o ≡ Ok p → o ≡ Some p
planned-ok n None p h = err-not-ok (NoPlan n) p h
planned-ok n (Some q) p h = cc

chosen-code : (sheet : Tariff) (u : Usage) (o : Option ℕ) (p : Plan) → option_map (plan_of sheet u) o ≡ Some p → (code : ℕ) × (o ≡ Some code) × (plan_of sheet u code ≡ p)
chosen-code sheet u None p h = absurd (let z : ◌≡◌ {A = ℕ} 0 1 = cc in omega arith)
chosen-code sheet u (Some code) p h = (code, refl, cc)

-- an account's next months, where they are posted and a plan is permitted
pub priced-ok : (months : List (ℕ × ℕ)) (n e : ℕ) (sheet : Tariff) (t : Tenancy) (m : ℕ) (p : Plan) → priced months n e sheet (t, m) ≡ Ok p
    → (e < length months) × ((code : ℕ) × (plan_of sheet (usage_at months t m) code ≡ p) × Best (prices_of sheet (usage_at months t m)) sheet.count (Some code))
priced-ok months n e sheet t m p h =
    let u = usage_at months t m in
    let o = ok-if (ltb e (length months)) (planned n (chosen sheet u)) (NotPosted n) p h in
    let c = chosen-code sheet u (cheapest_of (prices_of sheet u)) p (planned-ok n (chosen sheet u) p o.1) in
    let l : e < length months = let q = o.0 in grind (arith, nat_tests) in
    (l, (c.0, c.2, subst (Best (prices_of sheet u) sheet.count) c.1 (best-is (prices_of sheet u) sheet.count)))

-- one to twelve months, from the next one to e
pub months-ok : (e m : ℕ) (t : Tenancy) → months_to e t ≡ Ok m → (1 ≤ m) × (m ≤ 12) × (m ≡ months_from t.next e) × (t.next ≤ e)
months-ok e m t h = (grind (arith, nat_tests), grind (arith, nat_tests), grind (arith, nat_tests), grind (arith, nat_tests))

six-same : (f g : ℕ → ℕ) → ((i : ℕ) → i < 6 → f i ≡ g i) → map f (range_with_len 0 6) ≡ map g (range_with_len 0 6)
six-same f g e = fill_by_all g (map f (range_with_len 0 6)) 6 0 (length-map-range_with_len f 0 6) (λ k h. get_or-map-range_with_len f 0 6 k k 0 h (omega arith) ∙ e k h)

-- what the cabinet prices is the period of the history
pub usage-is : (o : Opened) (ds : List Deed) (e m : ℕ) (months : List (ℕ × ℕ)) → m ≡ months_from (next_month o ds) e → usage_at months (account_in o ds) m ≡ period_of o ds e months
usage-is o ds e m months h =
    let by : (hours : Hours) → waiting_on hours (account_in o ds) ≡ map (λ c. unsettled o ds (register_of hours c)) (range_with_len 0 6) =
    λ hours. six-same (λ c. get_or (account_in o ds).waiting (register_of hours c) 0) (λ c. unsettled o ds (register_of hours c)) (λ c b. at-twelve (unsettled o ds) (register_of hours c) (register-below hours c b)) in
    let day = by Day in
    let night = by Night in
    λ i. record {
      dwelling = o.dwelling;
      day = day i;
      night = night i;
      months = h i;
      ne = ne_sum_of months (next_month o ds) (h i);
      nc = nc_sum_of months (next_month o ds) (h i);
    }

kwh-together : (hours : Hours) (t : Tenancy) → waiting_in_all hours t ≡ together (waiting_on hours t)
kwh-together hours t = sym (sum_same (λ c. get_or (waiting_on hours t) c 0) (waits_on hours t) 6 (λ c b. get_or-map-range_with_len (waits_on hours t) 0 6 c c 0 b (omega arith)))

pub right-bill : (months : List (ℕ × ℕ)) (e : ℕ) (sheet : Tariff) (t : Tenancy) (m : ℕ) (p : Plan) (code : ℕ) → 1 ≤ m → m ≤ 12 → plan_of sheet (usage_at months t m) code ≡ p → Best (prices_of sheet (usage_at months t m)) sheet.count (Some code)
    → RightBill sheet (usage_at months t m) (bill_of t m p)
right-bill months e sheet t m p code some most is best =
    subst (λ (q : Plan). RightBill sheet (usage_at months t m) (bill_of t m q)) is (record {
      some = some;
      most = most;
      permitted = (best.0, best.1);
      parts = refl;
      least = λ k q. best.2 k q.0 q.1;
      lowest = λ k l q. best.3 k l q.1;
      months = refl;
      cents = refl;
      day = kwh-together Day t;
      night = kwh-together Night t;
    })
