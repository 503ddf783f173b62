-- What a table board means.
use Rattle.std.specs.Prelude.{vec_items}
use Rattle.board.specs.Meaning.{BoardMeaning, Row, holding}
use Rattle.table.specs.declared.table.Table.{Table}
use Rattle.table.specs.Slots.{slot_rows}

abbrev pub table_meaning : Table → BoardMeaning Row
table_meaning b = holding b.capacity b.capacity (slot_rows b.capacity (vec_items b.slots.memory))
