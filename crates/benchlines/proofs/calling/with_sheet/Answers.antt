use Rattle.std.proofs.Common.{rules}
use Rattle.house.specs.Houses.{lines_of}
use Rattle.sheets.specs.Named.{tariff_of, tariff_named}
use Rattle.run.proofs.Mapping.{asked-mapped}
use Rattle.benchlines.proofs.calling.with_sheet.Goals as goal

pub returns : goal.returns
returns c =
    asked-mapped (λ name. tariff_named name (lines_of c.args.house.now)) tariff_of _ (λ name sheet made. let learnt = made.1 in search rules) c.args.call.now c.map_sheet.result c.map_sheet.ensures
