-- The rating table, and what lies outside it.
use Rattle.std.specs.Prelude.{ℕ, ◌-◌, cond, ◌&&◌, List, [], ◌∷◌, Some, None, Ok, Err, Option, Result, ◌==◌, nat_le, slice_index}
use Rattle.refusal.specs.declared.Refusal.{Refusal}
use Rattle.refusal.specs.declared.Layer.TheVariants.{Rating}
use Rattle.refusal.specs.Refusals.{refused}
use Rattle.rating.specs.declared.Network.{Network}
use Rattle.rating.specs.declared.Network.TheVariants.{TwoWire, ThreeWire, ThreeWireNeutral}
use Rattle.rating.specs.declared.RatingFault.{RatingFault}
use Rattle.rating.specs.declared.RatingFault.TheVariants.{OutsideTable}

-- the numbers of the networks
abbrev pub network_number : Network → ℕ
network_number TwoWire = 1
network_number ThreeWire = 2
network_number ThreeWireNeutral = 3

abbrev pub network_at : ℕ → Option Network
network_at n = cond (n == 1) (Some TwoWire) (cond (n == 2) (Some ThreeWire) (cond (n == 3) (Some ThreeWireNeutral) None))

-- tenths of a kVA at 4, 5, .. 18 ampere
abbrev pub tenths : Network → List ℕ
tenths TwoWire = 9 ∷ 12 ∷ 14 ∷ 16 ∷ 18 ∷ 21 ∷ 23 ∷ 25 ∷ 28 ∷ 30 ∷ 32 ∷ 35 ∷ 37 ∷ 39 ∷ 41 ∷ []
tenths ThreeWire = 16 ∷ 20 ∷ 24 ∷ 28 ∷ 32 ∷ 36 ∷ 40 ∷ 44 ∷ 48 ∷ 52 ∷ 56 ∷ 60 ∷ 64 ∷ 68 ∷ 72 ∷ []
tenths ThreeWireNeutral = 28 ∷ 35 ∷ 42 ∷ 48 ∷ 55 ∷ 62 ∷ 69 ∷ 76 ∷ 83 ∷ 90 ∷ 97 ∷ 104 ∷ 111 ∷ 118 ∷ 125 ∷ []

-- the rating on a network, if there is one
abbrev pub rating_on : Option Network → ℕ → Result ℕ RatingFault
rating_on None ampere = Err (OutsideTable ampere)
rating_on (Some network) ampere =
    cond (nat_le 4 ampere && nat_le ampere 18) (Ok (slice_index (tenths network) (ampere - 4))) (Err (OutsideTable ampere))

abbrev pub rating_of : ℕ → ℕ → Result ℕ RatingFault
rating_of network ampere = rating_on (network_at network) ampere

-- number, layer and place
abbrev pub rating_refusal : RatingFault → Refusal
rating_refusal (OutsideTable ampere) = refused 21 Rating ampere
