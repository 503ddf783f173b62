-- Results that go on.
use Rattle.std.specs.Prelude.{Ok, Err, Result}

-- the value goes on, a fault stays
abbrev pub chained : {X Y E : Type 0} → Result X E → (X → Result Y E) → Result Y E
chained (Ok x) f = f x
chained (Err e) f = Err e
