-- The twelve results, by computation: over all 4,374 codes for each plan.
use Rattle.std.proofs.Common.{◌≡◌, refl}
use Rattle.decreeplan.specs.Codes.{places_of}
use Rattle.decree.specs.Permission.{has_night_reserved, permitted_with}
use Rattle.decree.specs.Meters.{meters_of}
use Rattle.decree.specs.Prices.{parts_with}
use Rattle.pricing.specs.Prices.{kwh_of}
use Rattle.cases.specs.Answering.{reading_answer, answered}
use Rattle.cases.specs.Known.{worked_out, known_results}

pub all_known : worked_out ≡ known_results
unfolding answered reading_answer places_of has_night_reserved permitted_with meters_of parts_with kwh_of
all_known = refl
