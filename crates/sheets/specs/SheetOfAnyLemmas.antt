use Rattle.std.proofs.Common.{arith}
use Rattle.std.proofs.lemmas.List.{length-take-le}
use Rattle.sheet.specs.Tariff.{Lawful}
use Rattle.house.specs.declared.house.House as declared
use Rattle.house.specs.Houses.{lines_of}
use Rattle.house.specs.Tariffs.{house_tariff}
use Rattle.house.specs.Pricing.{house-lawful}

pub lines-lawful : (h : declared.House) → Lawful (house_tariff (lines_of h))
lines-lawful h =
    let n = length-take-le h.count h.lines (omega arith) in
    house-lawful (lines_of h) (omega arith) h.limits
