use Rattle.std.proofs.Common.{◌≡◌, ℕ, ◌+◌, ◌≤◌, Bool, true, false, cond, leb, ltb, List, length, Some, None, Ok, Err, Option, Result, refl, ap, sym, ◌∙◌, arith}
use Rattle.std.specs.Option.{ok_or}
use Rattle.std.proofs.lemmas.Bool.Decides.{nat_tests}
use Rattle.common.proofs.Outcomes.{chained-ok, ok-if}
use Rattle.figures.specs.declared.sums.NeSum.{NeSum}
use Rattle.figures.specs.declared.sums.NcSum.{NcSum}
use Rattle.sheet.specs.declared.plan.Plan.{Plan}
use Rattle.sheet.specs.Tariff.{Tariff}
use Rattle.sheet.specs.Choice.{chosen}
use Rattle.account.specs.declared.event.EventKind.TheVariants.{Settlement}
use Rattle.account.specs.declared.fault.AccountFault.TheVariants.{PeriodOutside}
use Rattle.account.specs.States.{after}
use Rattle.account.specs.Steps.{months_to, months_from, period_fits}
use Rattle.account.specs.Tenancy.{Tenancy, tenancy_of}
use Rattle.figures.specs.Sums.{sum_of_ne, sum_of_nc}
use Rattle.months.specs.Posted.{posted_of, sums_answer, ne_sum_of, nc_sum_of}
use Rattle.cabinet.specs.declared.fault.CabinetFault.TheVariants.{NotPosted, NoPlan}
use Rattle.cabinet.specs.Settling.{usage_with}
use Rattle.cabinet.specs.Books.{planned, usage_at, priced}
use Rattle.cabinet.proofs.cabinet.Cabinet.plan_for.Goals as goal

-- a sheet that permits no plan
planned-is : (n : ℕ) (o : Option Plan) → ok_or o (NoPlan n) ≡ planned n o
planned-is n None = refl
planned-is n (Some p) = refl

-- sums that are there are those of months posted
summed : (b : Bool) (x y : NeSum × NcSum) → Some x ≡ cond b (Some y) None → (b ≡ true) × (x ≡ y)
summed true x y h = (refl, cc)
summed false x y h = cc

-- the period ends with its last month
ends : (e m : ℕ) (t : Tenancy) → months_to e t ≡ Ok m → t.next + m ≡ e + 1
ends e m t h =
    let p = chained-ok (after t.state Settlement) (λ s. cond (period_fits t.next e) (Ok (months_from t.next e)) (Err PeriodOutside)) m h in
    let q = ok-if (period_fits t.next e) (Ok (months_from t.next e)) PeriodOutside m p.2 in
    let b : period_fits t.next e ≡ true = q.0 in
    let z : months_from t.next e ≡ m = let y = q.1 in cc in
    grind (arith, nat_tests)

pub returns : goal.returns
returns g c =
    let months = posted_of c.args.self.now.months in
    let due = c.args.due.now in
    let n : ℕ = due.number in
    let sheet : Tariff = g.S.Sheet.tariff c.args.sheet.now in
    let t : Tenancy = tenancy_of due.account in
    let s : c.sums.result ≡ Some (c.in_ok-ne.ne, c.in_ok-ne.nc) = grind arith in
    let sums : NeSum × NcSum = (sum_of_ne (ne_sum_of months t.next due.months), sum_of_nc (nc_sum_of months t.next due.months)) in
    let p = summed (leb (t.next + due.months) (length months)) (c.in_ok-ne.ne, c.in_ok-ne.nc) sums (sym s ∙ c.sums.ensures.value ∙ ap (λ x. sums_answer months x due.months) c.from.ensures) in
    let e = ends due.end due.months t due.period in
    let b : ltb due.end (length months) ≡ true = let l = p.0 in grind (arith, nat_tests) in
    let u = c.facts_of.ensures ∙ ap (λ (x : NeSum × NcSum). usage_with t due.months x.0.0 x.1.0) p.1 in
    c.ok_or-2.ensures.value ∙ planned-is n c.choose.result ∙ ap (planned n) (c.choose.ensures.value ∙ ap (chosen sheet) u)
    ∙ ap (λ x. cond x (planned n (chosen sheet (usage_at months t due.months))) (Err (NotPosted n))) (sym b)
