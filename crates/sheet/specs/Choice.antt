-- Which code of a price list is the cheapest.
use Rattle.std.specs.Prelude.{◌≡◌, ℕ, zero, suc, ◌<◌, ◌≤◌, Bool, true, false, cond, Some, None, Option, nat_lt}
use Rattle.std.specs.Option.{option_map}
use Rattle.facts.specs.Usage.{Usage}
use Rattle.sheet.specs.declared.plan.Plan.{Plan}
use Rattle.sheet.specs.declared.plan.Candidate.{Candidate}
use Rattle.sheet.specs.Tariff.{Tariff, PriceList, prices_of, plan_of}

-- of the codes below n: none is permitted; or this one is, every permitted one costs as much or more, and every lower permitted one costs more
abbrev pub Best : PriceList → ℕ → Option ℕ → Type 0
Best l n None = (k : ℕ) → k < n → l.permitted k ≡ false
Best l n (Some code) =
    (code < n) × (l.permitted code ≡ true) × ((k : ℕ) → k < n → l.permitted k ≡ true → l.price code ≤ l.price k)
    × ((k : ℕ) → k < code → l.permitted k ≡ true → l.price code < l.price k)

abbrev pub Cheapest : PriceList → Option ℕ → Type 0
Cheapest l o = Best l l.count o

-- the same as a function: each permitted code in turn against the best so far
abbrev pub better : PriceList → Option ℕ → ℕ → Option ℕ
better l None k = Some k
better l (Some code) k = cond (nat_lt (l.price k) (l.price code)) (Some k) (Some code)

abbrev pub best_of : PriceList → ℕ → Option ℕ
best_of l zero = None
best_of l (suc n) = cond (l.permitted n) (better l (best_of l n) n) (best_of l n)

abbrev pub cheapest_of : PriceList → Option ℕ
cheapest_of l = best_of l l.count

-- a code with its price
abbrev pub candidate_of : PriceList → ℕ → Candidate
candidate_of l code = record { code = code; price = l.price code }

-- the cheapest of the codes below n, with its price
abbrev pub held_below : PriceList → ℕ → Option Candidate
held_below l n = option_map (candidate_of l) (best_of l n)

-- a price is below that of the cheapest so far
abbrev pub cheaper : ℕ → Option Candidate → Bool
cheaper p None = true
cheaper p (Some held) = nat_lt p held.price

-- the better of a code, where it is permitted, and the cheapest so far
abbrev pub better_held : PriceList → Option Candidate → ℕ → Option Candidate
better_held l best k = cond (l.permitted k) (cond (cheaper (l.price k) best) (Some (candidate_of l k)) best) best

-- the cheapest plan with its price
abbrev pub chosen : Tariff → Usage → Option Plan
chosen t u = option_map (plan_of t u) (cheapest_of (prices_of t u))
