-- What each refusal of a board says.
use Rattle.refusal.specs.Refusals.{refused}
use Rattle.refusal.specs.declared.Layer.TheVariants.{Board as OfBoard}
use Rattle.refusal.specs.declared.Refusal.{Refusal}
use Rattle.board.specs.declared.fault.BoardFault.{BoardFault}
use Rattle.board.specs.declared.fault.BoardFault.TheVariants.{Outside, Full, Unfit}

-- 3 and 6 name the number handed in, 22 the memory's length
abbrev pub board_refusal : BoardFault → Refusal
board_refusal (Outside number) = refused 3 OfBoard number
board_refusal (Full number) = refused 6 OfBoard number
board_refusal (Unfit len) = refused 22 OfBoard len
