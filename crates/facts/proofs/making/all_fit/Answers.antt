use Rattle.std.proofs.Common.{rules, ◌≡◌, ℕ, ◌<◌, Bool, true, false, List, length, sym, subst, arith}
use Rattle.std.specs.Bool.{MatchBool}
use Rattle.std.specs.List.{zip, AllWithin, HoldsAt}
use Rattle.std.proofs.lemmas.Iterator.{cases_from_all, YieldsList-from_zip, YieldsList-from_slice}
use Rattle.std.proofs.lemmas.Slice.Zip.{length-zip, get_or-zip}
use Rattle.common.specs.Counts.{all_to}
use Rattle.common.proofs.Counted.{all_to-from, all_to-not}
use Rattle.facts.specs.declared.kind.Kind.{Kind}
use Rattle.facts.specs.declared.kind.Kind.TheVariants.{Unused}
use Rattle.facts.specs.Limits.{kwh_fits}
use Rattle.facts.specs.Forms.{circuit_fits}
use Rattle.facts.proofs.making.all_fit.Goals as goal

-- what is found of each pair is found of each circuit
by_circuit : (kinds : List Kind) (kwh : List ℕ) (r : Bool) → length kinds ≡ 6 → length kwh ≡ 6
    → MatchBool r (AllWithin (λ p. kwh_fits p.0 p.1 ≡ true) (zip kinds kwh) 0 (length (zip kinds kwh)))
    ((k : ℕ) × (k < length (zip kinds kwh)) × HoldsAt (λ p. kwh_fits p.0 p.1 ≡ false) (zip kinds kwh) k)
    → r ≡ all_to (circuit_fits kinds kwh) 6
by_circuit kinds kwh true n m h =
    sym (all_to-from (circuit_fits kinds kwh) 6 (λ i l. subst (λ p. kwh_fits p.0 p.1 ≡ true) (get_or-zip kinds kwh i (Unused, 0) (omega arith) (omega arith)) (h i (Unused, 0) (omega arith) (omega (arith, length-zip)))))
by_circuit kinds kwh false n m h =
    let i = h.0 in
    let l : i < 6 = omega (arith, length-zip) in
    sym (all_to-not (circuit_fits kinds kwh) 6 i l (subst (λ p. kwh_fits p.0 p.1 ≡ false) (get_or-zip kinds kwh i (Unused, 0) (omega arith) (omega arith)) (h.2 (Unused, 0))))

pub returns : goal.returns
returns c =
    let kinds = c.args.kinds.now in
    let kwh = c.args.kwh.now in
    by_circuit kinds kwh c.all.result (omega arith) (omega arith)
    (cases_from_all c.all.new.self _ _ (λ p. kwh_fits p.0 p.1 ≡ true) (λ p. kwh_fits p.0 p.1 ≡ false) c.all.ensures.ran
    (YieldsList-from_zip {s = c.zip-circuits.result} (YieldsList-from_slice kinds cc) (YieldsList-from_slice kwh cc))
    (λ x q k. search rules) (λ x q k. search rules))
