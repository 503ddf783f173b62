use Rattle.std.proofs.Common.{rules, ◌≡◌, ℕ, ◌<◌, ◌≤◌, true, List, ◌++◌, [], ◌∷◌, length, get_or, Some, sym, subst, ap, ◌∙◌, lit<, length-append, arith}
use Rattle.std.specs.Array.{list_steps}
use Rattle.std.specs.Iterator.{Yields}
use Rattle.std.proofs.lemmas.Bool.Decides.{nat_tests}
use Rattle.std.proofs.lemmas.List.{ext_get_or}
use Rattle.std.proofs.Math.Seq.{get_or-append_seam}
use Rattle.common.specs.Counts.{all_to}
use Rattle.facts.specs.declared.kind.Kind.{Kind}
use Rattle.facts.specs.declared.kind.Kind.TheVariants.{Unused, General, NightReserved, Interruptible}
use Rattle.common.proofs.Counted.{all_to-at}
use Rattle.facts.specs.Limits.{KwhLimits, kwh_fits}
use Rattle.facts.specs.Forms.{circuit_fits}
use Rattle.facts.proofs.making.kwh_from.Goals as goal

-- what comes off a list before its items stood at its front
front : (kwh xs t : List ℕ) → Yields list_steps kwh xs t → kwh ≡ xs ++ t
front kwh [] t y = y
front kwh (x ∷ xs) t y = y.1 ∙ ap (λ s. x ∷ s) (front y.0 xs t y.2)

-- an item is one of the kWh
low : (kwh xs t u : List ℕ) (x : ℕ) → ((k : ℕ) → k < length kwh → get_or kwh k 0 ≤ 100000) → Yields list_steps kwh xs t → t ≡ x ∷ u → x ≤ 100000
low kwh xs t u x h y e =
    let f : kwh ≡ xs ++ x ∷ u = front kwh xs t y ∙ ap (λ s. xs ++ s) e in
    let l : length xs < length kwh = rw f (omega (arith, length-append {A = ℕ})) in
    subst (λ n. n ≤ 100000) (ap (λ s. get_or s (length xs) 0) f ∙ get_or-append_seam xs x u 0) (h (length xs) l)

least : (kind : Kind) (kwh : ℕ) → kwh_fits kind kwh ≡ true → kwh ≤ 100000
least Unused kwh e = grind (arith, nat_tests)
least General kwh e = grind (arith, nat_tests)
least NightReserved kwh e = grind (arith, nat_tests)
least Interruptible kwh e = grind (arith, nat_tests)

pub map-requires : goal.map-requires
map-requires c =
    let kinds = c.args.kinds.now in
    let kwh = c.args.kwh.now in
    let fit : all_to (circuit_fits kinds kwh) 6 ≡ true = sym c.all_fit.ensures ∙ c.if-not-all_fit.false in
    let all : (k : ℕ) → k < length kwh → get_or kwh k 0 ≤ 100000 = λ k l. least (get_or kinds k Unused) (get_or kwh k 0) (all_to-at (circuit_fits kinds kwh) 6 fit k (omega arith)) in
    (lit< tt, (lit< tt, (lit< tt, record { at = λ xs t q x u y r z. let l = low kwh xs t u x all y z in search rules })))

pub returns : goal.returns
returns c =
    let kinds = c.args.kinds.now in
    let kwh = c.args.kwh.now in
    let fit : all_to (circuit_fits kinds kwh) 6 ≡ true = sym c.all_fit.ensures ∙ c.if-not-all_fit.false in
    let o : c.map.result ≡ kwh = ext_get_or 0 c.map.result kwh (omega arith) (λ i l. let a = c.map.ensures.items.at i 0 0 (omega arith) in search rules) in
    record { value = rw fit (ap Some o); limits = subst (KwhLimits 6 kinds) (sym o) (all_to-at (circuit_fits kinds kwh) 6 fit) }
