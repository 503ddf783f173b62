-- What is known of a test, an option or a result that came out well.
use Rattle.std.proofs.Common.{◌≡◌, ℕ, Bool, true, false, cond, ◌&&◌, Some, None, Ok, Err, Result, refl, arith}
use Rattle.common.specs.Outcomes.{chained}

-- a fault is no value
pub err-not-ok : {X E : Type 0} {P : Type 0} (e : E) (x : X) → Err e ≡ Ok x → P
err-not-ok e x h = absurd (let z : ◌≡◌ {A = ℕ} 0 1 = cc in omega arith)

pub both_true : (a b : Bool) → (a && b) ≡ true → (a ≡ true) × (b ≡ true)
both_true true b h = (refl, h)
both_true false b h = absurd (let z : ◌≡◌ {A = ℕ} 0 1 = cc in omega arith)

pub some-if : {X : Type 0} (b : Bool) (x y : X) → cond b (Some x) None ≡ Some y → (b ≡ true) × (x ≡ y)
some-if true x y h = (refl, cc)
some-if false x y h = absurd (let z : ◌≡◌ {A = ℕ} 0 1 = cc in omega arith)

pub ok-if : {X E : Type 0} (b : Bool) (r : Result X E) (e : E) (x : X) → cond b r (Err e) ≡ Ok x → (b ≡ true) × (r ≡ Ok x)
ok-if true r e x h = (refl, h)
ok-if false r e x h = err-not-ok e x h

pub chained-ok : {X Y E : Type 0} (r : Result X E) (f : X → Result Y E) (y : Y) → chained r f ≡ Ok y → (x : X) × (r ≡ Ok x) × (f x ≡ Ok y)
chained-ok (Ok x) f y h = (x, refl, h)
chained-ok (Err e) f y h = err-not-ok e y h
