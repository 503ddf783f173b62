-- The differences of a register add up to what its meter counted.
use Rattle.std.proofs.Common.{◌≡◌, ℕ, ◌+◌, ◌%◌, ◌<◌, true, ltb, List, [], ◌∷◌, get_or, Ok, sym, refl, ap, ◌∙◌, subst, arith}
use Rattle.std.proofs.lemmas.Bool.Decides.{nat_tests}
use Rattle.common.proofs.Outcomes.{chained-ok}
use Rattle.facts.specs.declared.kind.Kind.{Kind}
use Rattle.facts.specs.declared.kind.Kind.TheVariants.{Unused, General, NightReserved, Interruptible}
use Rattle.account.specs.Registers.{register_size, kind_of, difference}
use Rattle.account.specs.Tenancy.{Tenancy}
use Rattle.account.specs.Steps.{read_to}
use Rattle.accountlaw.specs.Readings.{readings, differences, AddsUp, Registers-add-up}
use Rattle.accountlaw.proofs.Moving.{readings-join}

none-counted : (k : Kind) (a : ℕ) → a < register_size k → 0 % register_size k ≡ difference (register_size k) a a
none-counted Unused a h = omega arith
none-counted General a h = omega arith
none-counted NightReserved a h = omega arith
none-counted Interruptible a h = omega arith

one_more : (k : Kind) (a b c n : ℕ) → a < register_size k → b < register_size k → n % register_size k ≡ difference (register_size k) b c → (difference (register_size k) a b + n) % register_size k ≡ difference (register_size k) a c
one_more Unused a b c n p q h = omega arith
one_more General a b c n p q h = omega arith
one_more NightReserved a b c n p q h = omega arith
one_more Interruptible a b c n p q h = omega arith

adds-up : (k : Kind) (rs : List (List ℕ)) (t u : Tenancy) (i : ℕ) → i < 12 → kind_of t.dwelling.kinds i ≡ k → get_or t.indices i 0 < register_size k → readings rs t ≡ Ok u → AddsUp (register_size k) rs t u i
adds-up k [] t u i b e f h =
    let z : t ≡ u = cc in
    subst (λ v. AddsUp (register_size k) [] t v i) z (none-counted k (get_or t.indices i 0) f, omega arith)
adds-up k (new ∷ more) t u i b e f h =
    let c = chained-ok (read_to new t) (readings more) u h in
    let v : Tenancy = c.0 in
    let r = readings-join new t v c.1 in
    let g : get_or new i 0 < register_size k = subst (λ k. get_or new i 0 < register_size k) e (r.fit i b) in
    let m = adds-up k more v u i b (ap (λ d. kind_of d.kinds i) r.dwelling ∙ e) (subst (λ x. x < register_size k) (sym (r.indices i b)) g) c.2 in
    let n = subst (λ x. (differences (register_size k) i x more % register_size k ≡ difference (register_size k) x (get_or u.indices i 0)) × (get_or u.waiting i 0 ≡ get_or v.waiting i 0 + differences (register_size k) i x more)) (r.indices i b) m in
    let w : get_or v.waiting i 0 ≡ get_or t.waiting i 0 + difference (register_size k) (get_or t.indices i 0) (get_or new i 0) = r.waiting i b ∙ ap (λ k. get_or t.waiting i 0 + difference (register_size k) (get_or t.indices i 0) (get_or new i 0)) e in
    (one_more k (get_or t.indices i 0) (get_or new i 0) (get_or u.indices i 0) (differences (register_size k) i (get_or new i 0) more) f g n.0, omega (arith, n.1, w))

index_below : (k : Kind) (x : ℕ) → ltb x (register_size k) ≡ true → x < register_size k
index_below k x h = grind (arith, nat_tests)

pub registers-add-up : Registers-add-up
registers-add-up rs t u kept h i b =
    adds-up (kind_of t.dwelling.kinds i) rs t u i b refl (index_below (kind_of t.dwelling.kinds i) (get_or t.indices i 0) (kept.shown i b)) h
