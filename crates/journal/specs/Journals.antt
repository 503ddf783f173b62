-- What a journal board means.
use Rattle.std.specs.Prelude.{vec_items}
use Rattle.board.specs.Meaning.{BoardMeaning, Row, holding}
use Rattle.journal.specs.declared.journal.Journal.{Journal}
use Rattle.journal.specs.Entries.{entry_rows}

abbrev pub journal_meaning : Journal → BoardMeaning Row
journal_meaning b = holding b.entries.capacity b.limit (entry_rows b.entries.capacity b.used (vec_items b.entries.blocks.memory))
