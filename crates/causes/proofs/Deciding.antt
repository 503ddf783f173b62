-- The tests of the definitions, and what they decide.
use Rattle.std.proofs.Common.{◌≡◌, ℕ, ◌+◌, ◌<◌, ◌≤◌, false, ◌&&◌, leb, ◌⊎◌, List, get_or, ℤ, pos, negsuc, ◌-ℤ◌, Decides, sym, refl, ap, subst, inl, inr, ⊎_elim, arith}
use lib.Signed.{le_z}
use Rattle.std.proofs.lemmas.Int.{ints}
use Rattle.std.proofs.lemmas.Bool.{leb-true, le-leb, eqb-true, eq-eqb, cases_lt, both_ways}
use Rattle.std.proofs.lemmas.Bool.Decides.{Decides-and, Decides-like, Decides-ltb, Decides-below_and}
use Rattle.common.specs.Counts.{all_to}
use Rattle.figures.specs.Months.{index_fits, figure_fits, non_fuel}
use Rattle.facts.specs.declared.kind.Kind.{Kind}
use Rattle.account.specs.declared.figure.Figure.TheVariants.{Index}
use Rattle.account.specs.Balances.{balance_fits, is_zero}
use Rattle.account.specs.Registers.{register_size, kind_of, register_fits, twelve}
use Rattle.account.specs.Steps.{counted, joined, join_fits, period_fits, months_from}
use Rattle.law.specs.History.{Deed, Opened, account_in}
use Rattle.law.proofs.Growing.{counts, joins}
use Rattle.causes.specs.Rules.{IndexFits, FiguresFit, Shows, KwhFit, Passes}

pub decides-leb : (a b : ℕ) → Decides (leb a b) (a ≤ b)
decides-leb a b = (leb-true a b, le-leb a b)

-- the figures of a month
decides-index : (x : ℕ) → Decides (index_fits x) (IndexFits x)
decides-index x = Decides-and (leb 1 x) (leb x 9999999) (decides-leb 1 x) (decides-leb x 9999999)

pub decides-figures : (s mx nc : ℕ) → Decides (index_fits s && index_fits mx && figure_fits nc && figure_fits (non_fuel s mx)) (FiguresFit s mx nc)
decides-figures s mx nc =
    let a = index_fits s in
    let b = index_fits mx in
    let c = figure_fits nc in
    let d = figure_fits (non_fuel s mx) in
    Decides-like (a && b && c && d) (λ h. (h.0.0.0, h.0.0.1, h.0.1, h.1)) (λ h. (((h.0, h.1), h.2), h.3))
    (Decides-and (a && b && c) d (Decides-and (a && b) c (Decides-and a b (decides-index s) (decides-index mx)) (decides-leb nc 99999)) (decides-leb (non_fuel s mx) 99999))

-- indices that twelve registers can show
pub decides-shows : (kinds : List Kind) (xs : List ℕ) → Decides (all_to (register_fits Index kinds xs) 12) (Shows kinds xs)
decides-shows kinds xs =
    Decides-below_and (register_fits Index kinds xs) (λ i. get_or xs i 0 < register_size (kind_of kinds i)) (all_to (register_fits Index kinds xs)) (λ i. Decides-ltb (get_or xs i 0) (register_size (kind_of kinds i))) refl (λ m. refl) 12

-- the kWh of a reading
module _ (o : Opened) (ds : List Deed) (new : List ℕ) where
  pub decides-kwh : Decides (all_to (join_fits (account_in o ds) (twelve (λ k. get_or new k 0))) 12) (KwhFit o ds new)
  decides-kwh =
      let a = account_in o ds in
      let xs = twelve (λ k. get_or new k 0) in
      Decides-like (all_to (join_fits a xs) 12)
      (λ f i h. (subst (λ (x : ℕ). x ≤ 100000) (counts o ds new xs refl i h) (f i h).0, subst (λ (x : ℕ). x ≤ 100000) (joins o ds new xs refl i h) (f i h).1))
      (λ f i h. (subst (λ (x : ℕ). x ≤ 100000) (sym (counts o ds new xs refl i h)) (f i h).0, subst (λ (x : ℕ). x ≤ 100000) (sym (joins o ds new xs refl i h)) (f i h).1))
      (Decides-below_and (join_fits a xs) (λ i. (counted a xs i ≤ 100000) × (joined a xs i ≤ 100000)) (all_to (join_fits a xs))
      (λ i. Decides-and (leb (counted a xs i) 100000) (leb (joined a xs i) 100000) (decides-leb (counted a xs i) 100000) (decides-leb (joined a xs i) 100000)) refl (λ m. refl) 12)

-- a period of 1 to 12 months
pub decides-period : (u e : ℕ) → Decides (period_fits u e) ((u ≤ e) × (months_from u e ≤ 12))
decides-period u e = Decides-and (leb u e) (leb (months_from u e) 12) (decides-leb u e) (decides-leb (months_from u e) 12)

-- balances, charged less paid
low : (c p : ℕ) → Decides (le_z (negsuc 999999999999) (pos c -ℤ pos p)) (p ≤ c + 1000000000000)
low c p = (λ h. grind (arith, ints), λ h. grind (arith, ints))

high : (c p : ℕ) → Decides (le_z (pos c -ℤ pos p) (pos 1000000000000)) (c ≤ p + 1000000000000)
high c p = (λ h. grind (arith, ints), λ h. grind (arith, ints))

-- within 10^12 on both sides
abbrev pub Near : ℕ → ℕ → Type 0
Near c p = (p ≤ c + 1000000000000) × (c ≤ p + 1000000000000)

pub decides-near : (c p : ℕ) → Decides (balance_fits (pos c -ℤ pos p)) (Near c p)
decides-near c p = Decides-and (le_z (negsuc 999999999999) (pos c -ℤ pos p)) (le_z (pos c -ℤ pos p) (pos 1000000000000)) (low c p) (high c p)

pub near-passes : (c p : ℕ) → Near c p → Passes c p → ⊥
near-passes c p n w = ⊎_elim (λ (h : p + 1000000000000 < c). omega (arith, n.1, h)) (λ (h : c + 1000000000000 < p). omega (arith, n.0, h)) w

pub passes-from : (c p : ℕ) → (Near c p → ⊥) → Passes c p
passes-from c p f =
    ⊎_elim (λ (h : p + 1000000000000 < c). inl h)
    (λ (h : c ≤ p + 1000000000000). ⊎_elim (λ (k : c + 1000000000000 < p). inr k) (λ (k : p ≤ c + 1000000000000). absurd (f (k, h))) (cases_lt (c + 1000000000000) p)) (cases_lt (p + 1000000000000) c)

zero_is : (z : ℤ) → Decides (is_zero z) (z ≡ pos 0)
zero_is (pos n) = (λ h. ap pos (eqb-true n 0 h), λ h. let e : n ≡ 0 = cc in eq-eqb n 0 e)
zero_is (negsuc n) = (λ h. absurd (both_ways false refl h), λ h. absurd (let z : ◌≡◌ {A = ℕ} 0 1 = cc in omega arith))

pub decides-even : (c p : ℕ) → Decides (is_zero (pos c -ℤ pos p)) (c ≡ p)
decides-even c p = Decides-like (is_zero (pos c -ℤ pos p)) (λ h. omega (arith, ints, h)) (λ h. omega (arith, ints, h)) (zero_is (pos c -ℤ pos p))

-- a payment from 1 cent to 10^9
abbrev pub Payable : ℕ → Type 0
Payable cents = (1 ≤ cents) × (cents ≤ 1000000000)

pub decides-payable : (cents : ℕ) → Decides (leb 1 cents && leb cents 1000000000) (Payable cents)
decides-payable cents = Decides-and (leb 1 cents) (leb cents 1000000000) (decides-leb 1 cents) (decides-leb cents 1000000000)

pub payable-not : (cents : ℕ) → Payable cents → (cents < 1) ⊎ (1000000000 < cents) → ⊥
payable-not cents q w = ⊎_elim (λ (h : cents < 1). omega (arith, q.0, h)) (λ (h : 1000000000 < cents). omega (arith, q.1, h)) w

pub payable-from : (cents : ℕ) → (Payable cents → ⊥) → (cents < 1) ⊎ (1000000000 < cents)
payable-from cents f =
    ⊎_elim (λ (h : cents < 1). inl h) (λ (h : 1 ≤ cents). ⊎_elim (λ (k : 1000000000 < cents). inr k) (λ (k : cents ≤ 1000000000). absurd (f (h, k))) (cases_lt 1000000000 cents)) (cases_lt cents 1)
