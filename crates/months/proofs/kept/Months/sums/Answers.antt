use Rattle.std.proofs.Common.{◌≡◌, ℕ, ◌+◌, ◌-◌, ◌<◌, get_or, drop, length, vec_items, vec_len, ap, ◌∙◌, arith}
use Rattle.std.specs.List.{slice_range}
use Rattle.std.proofs.lemmas.List.{get_or-take, get_or-drop}
use Rattle.common.proofs.Counted.{sum_to-more}
use Rattle.months.specs.Posted.{posted_of, ne_at, nc_at}
use Rattle.months.proofs.Counted.{posted-at}
use Rattle.months.proofs.kept.Months.sums.Goals as goal

pub loop-month-preserved : goal.loop-month-preserved
loop-month-preserved c =
    let months = posted_of c.args.self.now in
    let u = c.args.first in
    let i = c.loop-month.month-index in
    let end = c.in_ok-end.end in
    let month = c.month-item.result in
    let items = vec_items c.args.self.now.posted in
    let look = c.in_ok-period.ensures.lookup.0 in
    let all : c.deref.result.now ≡ items = c.deref.ensures.value in
    let long : i < end - u = omega (arith, look.3, c.loop-month-test.true) in
    let h : u + i < vec_len c.args.self.now.posted = omega (arith, look.1, look.3, c.loop-month-test.true, ap length all, c.args.self.now.posted.ok.0) in
    let found : month ≡ get_or items (u + i) month =
    c.month-item.is ∙ ap (λ xs. get_or xs i month) (look.2 ∙ ap (λ xs. slice_range xs u end) all)
    ∙ get_or-take (end - u) (drop u items) i month long ∙ get_or-drop u items i month in
    let at = posted-at c.args.self.now (u + i) month h found in
    let ne = sum_to-more (λ i. ne_at months (u + i)) i in
    let nc = sum_to-more (λ i. nc_at months (u + i)) i in
    let first : ne_at months (u + i) ≡ month.ne = ap (λ (p : ℕ × ℕ). p.0) at in
    let second : nc_at months (u + i) ≡ month.nc = ap (λ (p : ℕ × ℕ). p.1) at in
    (omega arith, omega arith, omega arith, omega arith)
