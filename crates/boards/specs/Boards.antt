-- What a board of either kind means.
use Rattle.board.specs.Meaning.{BoardMeaning, Row}
use Rattle.table.specs.Tables.{table_meaning}
use Rattle.journal.specs.Journals.{journal_meaning}
use Rattle.boards.specs.declared.any.AnyBoard.{AnyBoard}
use Rattle.boards.specs.declared.any.AnyBoard.TheVariants.{Table, Journal}

-- each board means what it meant before it became one of two
abbrev pub board_meaning : AnyBoard → BoardMeaning Row
board_meaning (Table b) = table_meaning b
board_meaning (Journal b) = journal_meaning b
