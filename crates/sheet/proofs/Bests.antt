-- The cheapest of the codes below a count, one code more.
use Rattle.std.proofs.Common.{◌≡◌, ℕ, zero, suc, ◌+◌, cond, Some, None, Option, sym, ap, add-one, arith}
use Rattle.std.proofs.lemmas.Bool.Decides.{nat_tests}
use Rattle.sheet.specs.Tariff.{PriceList}
use Rattle.std.specs.Option.{option_map}
use Rattle.sheet.specs.declared.plan.Candidate.{Candidate}
use Rattle.sheet.specs.Choice.{Best, best_of, better, candidate_of, held_below, better_held}

best-step : (l : PriceList) (n : ℕ) (o : Option ℕ) → Best l n o → Best l (suc n) (cond (l.permitted n) (better l o n) o)
best-step l n None b = grind (arith, nat_tests)
best-step l n (Some code) b = grind (arith, nat_tests)

pub best-is : (l : PriceList) (n : ℕ) → Best l n (best_of l n)
best-is l zero = λ k h. absurd (omega arith)
best-is l (suc n) = best-step l n (best_of l n) (best-is l n)

pub best-more : (l : PriceList) (n : ℕ) → best_of l (n + 1) ≡ cond (l.permitted n) (better l (best_of l n) n) (best_of l n)
best-more l n = ap (best_of l) (add-one n)

held-step : (l : PriceList) (n : ℕ) (o : Option ℕ)
    → option_map (candidate_of l) (cond (l.permitted n) (better l o n) o) ≡ better_held l (option_map (candidate_of l) o) n
held-step l n None = grind (arith, nat_tests)
held-step l n (Some code) = grind (arith, nat_tests)

-- the cheapest code with its price, one code more
pub held_more : (l : PriceList) (n : ℕ) (best : Option Candidate) → best ≡ held_below l n → better_held l best n ≡ held_below l (n + 1)
held_more l n best e = sym (rw (best-more l n) (rw e (held-step l n (best_of l n))))

-- the code of the cheapest candidate
pub code-held : (l : PriceList) (o : Option ℕ) (c : Candidate) → Some c ≡ option_map (candidate_of l) o → o ≡ Some c.code
code-held l None c e = let z : ◌≡◌ {A = ℕ} 0 1 = cc in absurd (omega arith)
code-held l (Some k) c e = cc

pub none-held : (l : PriceList) (o : Option ℕ) → None ≡ option_map (candidate_of l) o → o ≡ None
none-held l None e = cc
none-held l (Some k) e = let z : ◌≡◌ {A = ℕ} 0 1 = cc in absurd (omega arith)
