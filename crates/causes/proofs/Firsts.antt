-- The first cause that stands, cause by cause.
use Rattle.std.proofs.Common.{◌≡◌, ℕ, Bool, true, false, eqb, ◌⊎◌, List, [], ◌∷◌, Some, None, Decides, Option, sym, refl, ap, ◌∙◌, inl, inr, ⊎_elim, arith}
use Rattle.std.proofs.lemmas.Bool.{both_ways, eq-eqb}
use Rattle.std.proofs.lemmas.Bool.Decides.{not_from_Decides}
use Rattle.refusal.specs.declared.Refusal.{Refusal}
use Rattle.law.specs.Transcript.{Reply, posted, done, billed, shown, vacant, refusal, accepted}
use Rattle.causes.specs.Causes.{Cause, because}
use Rattle.causes.specs.Caused.{refusal_in, ByFirst, NoneStands}

-- a test that is passed where a cause does not stand
pub first-unless : (fits : Bool) (p q : Type 0) (r : Refusal) (rest : List Cause) (o : Bool → Option Refusal) → Decides fits q → (q → p → ⊥) → ((q → ⊥) → p) → o false ≡ Some r → (fits ≡ true → ByFirst rest (o true)) → ByFirst (because p r ∷ rest) (o fits)
first-unless true p q r rest o d apart from stop on = inr (apart (d.0 refl), on refl)
first-unless false p q r rest o d apart from stop on = inl (from (not_from_Decides false d refl), stop)

-- a test that is passed where a cause stands
pub first-if : (is : Bool) (p : Type 0) (r : Refusal) (rest : List Cause) (o : Bool → Option Refusal) → Decides is p → o true ≡ Some r → (is ≡ false → ByFirst rest (o false)) → ByFirst (because p r ∷ rest) (o is)
first-if true p r rest o d stop on = inl (d.0 refl, stop)
first-if false p r rest o d stop on = inr (not_from_Decides false d refl, on refl)

pub some-not-none : {X : Type 0} (x : X) → Some x ≡ None → ⊥
some-not-none x e = let z : ◌≡◌ {A = ℕ} 0 1 = cc in omega arith

-- where none stands nothing is refused
pub none-refused : (causes : List Cause) (o : Option Refusal) → ByFirst causes o → NoneStands causes → o ≡ None
none-refused [] o f s = f
none-refused (c ∷ causes) o f s = ⊎_elim (λ (x : c.stands × (o ≡ Some c.gives)). absurd (s.0 x.0)) (λ (x : (c.stands → ⊥) × ByFirst causes o). none-refused causes o x.1 s.1) f

-- and where nothing is refused none stands
pub none-stands : (causes : List Cause) (o : Option Refusal) → ByFirst causes o → o ≡ None → NoneStands causes
none-stands [] o f e = tt
none-stands (c ∷ causes) o f e =
    ⊎_elim (λ (x : c.stands × (o ≡ Some c.gives)). absurd (some-not-none c.gives (sym x.1 ∙ e))) (λ (x : (c.stands → ⊥) × ByFirst causes o). (x.0, none-stands causes o x.1 e)) f

-- no cause of these has this number
abbrev pub Without : ℕ → List Cause → Type 0
Without k [] = Unit {0}
Without k (c ∷ causes) = (eqb c.gives.number k ≡ false) × Without k causes

-- then no refusal has it
pub never : (k : ℕ) (causes : List Cause) (o : Option Refusal) → Without k causes → ByFirst causes o → (x : Refusal) → o ≡ Some x → x.number ≡ k → ⊥
never k [] o w f x e n = some-not-none x (sym e ∙ f)
never k (c ∷ causes) o w f x e n =
    ⊎_elim
    (λ (y : c.stands × (o ≡ Some c.gives)).
    let q : Some x ≡ Some c.gives = sym e ∙ y.1 in
    let s : x ≡ c.gives = cc in
    both_ways (eqb c.gives.number k) w.0 (eq-eqb c.gives.number k (ap (λ (z : Refusal). z.number) (sym s) ∙ n)))
    (λ (y : (c.stands → ⊥) × ByFirst causes o). never k causes o w.1 y.1 x e n) f

-- an answer is accepted exactly if no refusal is in it
pub accepted-from : (r : Reply) → refusal_in r ≡ None → accepted r ≡ true
accepted-from (posted month ne) e = refl
accepted-from done e = refl
accepted-from (billed b) e = refl
accepted-from (shown t) e = refl
accepted-from vacant e = refl
accepted-from (refusal x) e = absurd (some-not-none x e)

pub accepted-none : (r : Reply) → accepted r ≡ true → refusal_in r ≡ None
accepted-none (posted month ne) e = refl
accepted-none done e = refl
accepted-none (billed b) e = refl
accepted-none (shown t) e = refl
accepted-none vacant e = refl
accepted-none (refusal x) e = absurd (both_ways false refl e)
