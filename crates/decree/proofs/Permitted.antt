-- Permission, asked circuit by circuit.
use Rattle.std.proofs.Common.{◌≡◌, ℕ, zero, suc, ◌<◌, ◌≤◌, Bool, true, false, not, ◌&&◌, ◌||◌, List, [], ◌∷◌, length, take, get_or, sym, refl, ap, ◌∙◌, subst, add-one, arith}
use Rattle.std.specs.List.{list_any}
use Rattle.std.proofs.Math.Bool.{or_comm}
use Rattle.std.proofs.lemmas.List.{take_all}
use Rattle.std.proofs.lemmas.List.Folds.{list_any_more}
use Rattle.common.specs.Counts.{all_to, any_to}
use Rattle.common.proofs.Counted.{all_to-not}
use Rattle.facts.specs.declared.kind.Kind.{Kind}
use Rattle.facts.specs.declared.kind.Kind.TheVariants.{Unused, General, NightReserved, Interruptible}
use Rattle.facts.specs.Usage.{Usage}
use Rattle.decreeplan.specs.declared.plan.Base.{Base}
use Rattle.decreeplan.specs.declared.plan.Place.{Place}
use Rattle.decreeplan.specs.declared.plan.Place.TheVariants.{Main}
use Rattle.decree.specs.Permission.{is_extended, marked, has_night_reserved, placed_at, may_stand, permitted_with}

-- what holds of each kind
pub each-kind : (P : Kind → Type 0) → P Unused → P General → P NightReserved → P Interruptible → (k : Kind) → P k
each-kind P u g n i Unused = u
each-kind P u g n i General = g
each-kind P u g n i NightReserved = n
each-kind P u g n i Interruptible = i

any-listed-to : {X : Type 0} (p : X → Bool) (xs : List X) (d : X) (n : ℕ) → n ≤ length xs
    → any_to (λ i. p (get_or xs i d)) n ≡ list_any p (take n xs)
any-listed-to p xs d zero h = refl
any-listed-to p xs d (suc n) h =
    let r = any-listed-to p xs d n (omega arith) in
    let m : list_any p (take (suc n) xs) ≡ (list_any p (take n xs) || p (get_or xs n d)) =
    subst (λ k. list_any p (take k xs) ≡ (list_any p (take n xs) || p (get_or xs n d))) (add-one n) (list_any_more p xs n d (omega arith)) in
    ap (λ b. p (get_or xs n d) || b) r ∙ or_comm (p (get_or xs n d)) (list_any p (take n xs)) ∙ sym m

-- tests that agree find the same
pub listed-same : {X : Type 0} (p q : X → Bool) (xs : List X) → ((x : X) → p x ≡ q x) → list_any p xs ≡ list_any q xs
listed-same p q [] same = refl
listed-same p q (x ∷ xs) same = ap (λ b. b || list_any p xs) (same x) ∙ ap (λ b. q x || b) (listed-same p q xs same)

-- some circuit has what an element of the list has
pub any-listed : {X : Type 0} (p : X → Bool) (xs : List X) (d : X) → length xs ≡ 6 → any_to (λ i. p (get_or xs i d)) 6 ≡ list_any p xs
any-listed p xs d l = any-listed-to p xs d 6 (omega arith) ∙ ap (list_any p) (take_all 6 xs (omega arith))

-- circuit i may be where it is, and the marks are there
abbrev pub stands_at : Base → List Place → Usage → ℕ → Bool
stands_at b places u i = may_stand u.dwelling.marks b (get_or places i Main) (get_or u.dwelling.kinds i Unused) (get_or u.day i 0)

swapped : (x y : Bool) → (x && y) ≡ (y && x)
swapped true true = refl
swapped true false = refl
swapped false true = refl
swapped false false = refl

-- what does not hang on the circuit may be asked of each of them
asked : (x y : Bool) (q : ℕ → Bool) → ((x && y) && all_to q 6) ≡ (all_to (λ k. x && q k) 6 && y)
asked true y q = swapped y (all_to q 6)
asked false y q = refl

permitted-is : (b : Base) (places : List Place) (u : Usage)
    → permitted_with b places u ≡ (all_to (stands_at b places u) 6 && (not (is_extended b) || has_night_reserved u.dwelling.kinds))
unfolding permitted_with
permitted-is b places u = asked (marked b u.dwelling.marks) (not (is_extended b) || has_night_reserved u.dwelling.kinds) (placed_at b places u)

-- where each circuit may be where it is
pub permitted-all : (b : Base) (places : List Place) (u : Usage) → all_to (stands_at b places u) 6 ≡ true
    → permitted_with b places u ≡ (not (is_extended b) || has_night_reserved u.dwelling.kinds)
permitted-all b places u t = permitted-is b places u ∙ ap (λ x. x && (not (is_extended b) || has_night_reserved u.dwelling.kinds)) t

-- one that may not is enough to refuse
pub permitted-not : (b : Base) (places : List Place) (u : Usage) (k : ℕ) → k < 6 → stands_at b places u k ≡ false → permitted_with b places u ≡ false
permitted-not b places u k h f =
    permitted-is b places u ∙ ap (λ x. x && (not (is_extended b) || has_night_reserved u.dwelling.kinds)) (all_to-not (stands_at b places u) 6 k h f)
