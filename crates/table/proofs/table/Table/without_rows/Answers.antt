use Rattle.std.proofs.Common.{ap, ◌∙◌}
use Rattle.board.specs.Meaning.{holding}
use Rattle.table.specs.Slots.{slot_rows}
use Rattle.table.specs.SlotRows.{slot_rows-zeros}
use Rattle.table.proofs.table.Table.without_rows.Goals as goal

pub returns : goal.returns
returns c = ap (holding c.args.capacity c.args.capacity) (ap (slot_rows c.args.capacity) c.zeros.ensures.items ∙ slot_rows-zeros c.args.capacity _)
