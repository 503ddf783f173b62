-- What stands at a number in each table that is drawn from; behind its end the last one is told.
use Rattle.std.proofs.Common.{◌≡◌, ℕ, zero, suc, [], ◌∷◌, slice_index_or, refl, arith}
use Rattle.std.proofs.lemmas.Bool.Decides.{nat_tests}
use Rattle.script.specs.declared.line.SheetName.TheVariants.{Decree, House as HouseSheet, ProtectedDecree, ProtectedHouse}
use Rattle.tenants.specs.declared.household.Household.TheVariants.{Flat, House, HeatedHouse, ProtectedFlat, ProtectedFamily, Villa, Shop, Workshop}
use Rattle.tenants.specs.declared.payments.Payer.TheVariants.{AtOnce, ByHalves, InAdvance}
use Rattle.tenants.specs.declared.slips.Slip.TheVariants.{SettlesAgain, SettlesThePast, ReadsBackwards, ReadsTooHigh, PaysNothing, PaysTooMuch, OpensAgain, ClosesUnsettled, ShowsOutside, PostsNothing}
use Rattle.tenants.specs.Households.{household_at}
use Rattle.tenants.specs.Payments.{payer_at}
use Rattle.tenants.specs.Rounds.{sheet_at}
use Rattle.tenants.specs.Slips.{slip_at}

pub household-picked : (n : ℕ) → slice_index_or (Flat ∷ House ∷ HeatedHouse ∷ ProtectedFlat ∷ ProtectedFamily ∷ Villa ∷ Shop ∷ Workshop ∷ []) n Workshop ≡ household_at n
household-picked zero = refl
household-picked (suc zero) = refl
household-picked (suc (suc zero)) = refl
household-picked (suc (suc (suc zero))) = refl
household-picked (suc (suc (suc (suc zero)))) = refl
household-picked (suc (suc (suc (suc (suc zero))))) = refl
household-picked (suc (suc (suc (suc (suc (suc zero)))))) = refl
household-picked (suc (suc (suc (suc (suc (suc (suc zero))))))) = refl
household-picked (suc (suc (suc (suc (suc (suc (suc (suc n)))))))) = grind (arith, nat_tests)

pub payer-picked : (n : ℕ) → slice_index_or (AtOnce ∷ ByHalves ∷ InAdvance ∷ []) n InAdvance ≡ payer_at n
payer-picked zero = refl
payer-picked (suc zero) = refl
payer-picked (suc (suc zero)) = refl
payer-picked (suc (suc (suc n))) = grind (arith, nat_tests)

pub sheet-picked : (n : ℕ) → slice_index_or (Decree ∷ HouseSheet ∷ ProtectedDecree ∷ ProtectedHouse ∷ []) n ProtectedHouse ≡ sheet_at n
sheet-picked zero = refl
sheet-picked (suc zero) = refl
sheet-picked (suc (suc zero)) = refl
sheet-picked (suc (suc (suc zero))) = refl
sheet-picked (suc (suc (suc (suc n)))) = grind (arith, nat_tests)

pub slip-picked : (n : ℕ) → slice_index_or (SettlesAgain ∷ SettlesThePast ∷ ReadsBackwards ∷ ReadsTooHigh ∷ PaysNothing ∷ PaysTooMuch ∷ OpensAgain ∷ ClosesUnsettled ∷ ShowsOutside ∷ PostsNothing ∷ []) n PostsNothing ≡ slip_at n
slip-picked zero = refl
slip-picked (suc zero) = refl
slip-picked (suc (suc zero)) = refl
slip-picked (suc (suc (suc zero))) = refl
slip-picked (suc (suc (suc (suc zero)))) = refl
slip-picked (suc (suc (suc (suc (suc zero))))) = refl
slip-picked (suc (suc (suc (suc (suc (suc zero)))))) = refl
slip-picked (suc (suc (suc (suc (suc (suc (suc zero))))))) = refl
slip-picked (suc (suc (suc (suc (suc (suc (suc (suc zero)))))))) = refl
slip-picked (suc (suc (suc (suc (suc (suc (suc (suc (suc zero))))))))) = refl
slip-picked (suc (suc (suc (suc (suc (suc (suc (suc (suc (suc n)))))))))) = grind (arith, nat_tests)
