-- A journal keeps what every board keeps.
use Rattle.std.proofs.Common.{arith}
use Rattle.std.specs.Prelude.{vec_items}
use Rattle.board.specs.Meaning.{Lawful}
use Rattle.journal.specs.declared.journal.Journal.{Journal}
use Rattle.journal.specs.Entries.{notes}
use Rattle.journal.specs.Journals.{journal_meaning}
use Rattle.journal.specs.Replaying.{rows_long}
use Rattle.journal.specs.Latest.{rows_whole}

pub journal-lawful : (b : Journal) → Lawful (journal_meaning b)
journal-lawful b =
    let bytes = vec_items b.entries.blocks.memory in
    record {
      some = b.some;
      within = b.under;
      most = b.entries.few;
      long = rows_long b.entries.capacity (notes b.used bytes);
      bounded = omega (arith, b.count, b.bounded);
      whole = rows_whole b.entries.capacity b.used bytes (omega (arith, b.within, b.entries.blocks.fits, b.entries.blocks.memory.ok.0)) b.entries.blocks.bytes;
    }
