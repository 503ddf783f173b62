-- Months as they are posted, and the sums of their figures.
use Rattle.std.specs.Prelude.{ℕ, ◌+◌, ◌*◌, ◌≤◌, cond, List, [], ◌∷◌, ◌++◌, map, length, Some, None, Ok, Err, vec_items, Option, Result, nat_le, slice_index_or}
use Rattle.common.specs.Counts.{sum_to}
use Rattle.figures.specs.Months.{month_of}
use Rattle.figures.specs.declared.sums.NeSum.{NeSum}
use Rattle.figures.specs.declared.sums.NcSum.{NcSum}
use Rattle.figures.specs.Sums.{sum_of_ne, sum_of_nc}
use Rattle.figures.specs.Figures.{month_figures}
use Rattle.months.specs.declared.fault.PostFault.{PostFault}
use Rattle.months.specs.declared.fault.PostFault.TheVariants.{AllPosted, OutsideLimits}
use Rattle.months.specs.declared.kept.Months.{Months}

-- N_E and N_C of each month posted, the first one first
abbrev pub posted_of : Months → List (ℕ × ℕ)
posted_of m = map month_figures (vec_items m.posted)

-- a month's number with its N_E, where it has figures
abbrev pub posted_as : ℕ → Option (ℕ × ℕ) → Result (ℕ × ℕ) PostFault
posted_as due None = Err (OutsideLimits due)
posted_as due (Some month) = Ok (due, month.0)

-- what posting answers: at most 1,200 months are kept
abbrev pub post_answer : List (ℕ × ℕ) → ℕ → ℕ → ℕ → Result (ℕ × ℕ) PostFault
post_answer months s mx nc =
    cond (nat_le 1200 (length months)) (Err (AllPosted (length months))) (posted_as (length months) (month_of s mx nc))

abbrev pub with_month : List (ℕ × ℕ) → Option (ℕ × ℕ) → List (ℕ × ℕ)
with_month months None = months
with_month months (Some month) = months ++ month ∷ []

-- and the months afterwards
abbrev pub post_after : List (ℕ × ℕ) → ℕ → ℕ → ℕ → List (ℕ × ℕ)
post_after months s mx nc = cond (nat_le 1200 (length months)) months (with_month months (month_of s mx nc))

-- the figures of the month of a number
abbrev pub ne_at : List (ℕ × ℕ) → ℕ → ℕ
ne_at months i = (slice_index_or months i (0, 0)).0

abbrev pub nc_at : List (ℕ × ℕ) → ℕ → ℕ
nc_at months i = (slice_index_or months i (0, 0)).1

-- the sums of N_E and of N_C over m months from u on
abbrev pub ne_sum_of : List (ℕ × ℕ) → ℕ → ℕ → ℕ
ne_sum_of months u m = sum_to (λ i. ne_at months (u + i)) m

abbrev pub nc_sum_of : List (ℕ × ℕ) → ℕ → ℕ → ℕ
nc_sum_of months u m = sum_to (λ i. nc_at months (u + i)) m

-- both sums, where all these months are posted
abbrev pub sums_answer : List (ℕ × ℕ) → ℕ → ℕ → Option (NeSum × NcSum)
sums_answer months u m = cond (nat_le (u + m) (length months)) (Some (sum_of_ne (ne_sum_of months u m), sum_of_nc (nc_sum_of months u m))) None

-- sums of m figures of at most 99,999 each
abbrev pub SumLimits : ℕ → NeSum × NcSum → Type 0
SumLimits m s = (s.0.0 ≤ 99999 * m) × (s.1.0 ≤ 99999 * m)
