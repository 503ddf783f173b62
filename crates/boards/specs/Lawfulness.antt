-- A board of either kind keeps what every board keeps.
use Rattle.board.specs.Meaning.{Lawful}
use Rattle.table.specs.Lawfulness.{table-lawful}
use Rattle.journal.specs.Lawfulness.{journal-lawful}
use Rattle.boards.specs.declared.any.AnyBoard.{AnyBoard}
use Rattle.boards.specs.declared.any.AnyBoard.TheVariants.{Table, Journal}
use Rattle.boards.specs.Boards.{board_meaning}

pub board-lawful : (b : AnyBoard) → Lawful (board_meaning b)
board-lawful (Table b) = table-lawful b
board-lawful (Journal b) = journal-lawful b
