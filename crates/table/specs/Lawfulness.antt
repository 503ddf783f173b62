-- A table keeps what every board keeps.
use Rattle.std.proofs.Common.{arith}
use Rattle.std.specs.Prelude.{vec_items}
use Rattle.board.specs.Meaning.{Lawful}
use Rattle.board.proofs.Standing.{standing-le}
use Rattle.table.specs.declared.table.Table.{Table}
use Rattle.table.specs.Slots.{slot_rows}
use Rattle.table.specs.Tables.{table_meaning}
use Rattle.table.specs.SlotRows.{length-slot_rows, slot_rows-whole}

pub table-lawful : (b : Table) → Lawful (table_meaning b)
table-lawful b =
    let bytes = vec_items b.slots.memory in
    record {
      some = b.some;
      within = omega arith;
      most = b.few;
      long = length-slot_rows b.capacity bytes;
      bounded = omega (arith, standing-le (slot_rows b.capacity bytes), length-slot_rows b.capacity bytes);
      whole = slot_rows-whole b.capacity bytes (omega (arith, b.fits, b.slots.fits, b.slots.memory.ok.0)) b.slots.bytes;
    }
