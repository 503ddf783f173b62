-- Digits of a code to the base three.
use Rattle.std.proofs.Common.{◌≡◌, ℕ, ◌+◌, ◌/◌, ◌^◌, ◌<◌, get_or, sym, pow-suc, add-one, arith}
use native.Mathlib.Nat.{div-div-eq-div-mul}
use Rattle.std.proofs.lemmas.List.FromFn.{get_or-map-range_with_len}
use Rattle.decreeplan.specs.declared.plan.Place.TheVariants.{Main}
use Rattle.decreeplan.specs.Codes.{place_in, places_of}

-- what is left of a code behind one digit more
pub rest_more : (code i : ℕ) → code / 3 ^ (i + 1) ≡ code / 3 ^ i / 3
rest_more code i = rw (add-one, pow-suc) (sym (div-div-eq-div-mul code (3 ^ i) 3))

-- the place of circuit i
pub get_or-places_of : (code i : ℕ) → i < 6 → get_or (places_of code) i Main ≡ place_in code i
unfolding places_of
get_or-places_of code i h = get_or-map-range_with_len (place_in code) 0 6 i i Main h (omega arith)
