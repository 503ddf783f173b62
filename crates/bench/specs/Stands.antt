-- What stands at the desk, and the cabinet over a board.
use Rattle.std.specs.Prelude.{Bool, true, false}
use Rattle.boards.specs.Boards.{board_meaning}
use Rattle.months.specs.Posted.{posted_of}
use Rattle.cabinet.specs.Books.{Books, books_of, books_with}
use Rattle.bench.specs.declared.standing.Standing.{Standing}
use Rattle.bench.specs.declared.standing.Standing.TheVariants.{Nothing, Board, Cabinet}
use Rattle.bench.specs.declared.standing.Bench.{Bench}

-- nothing; a board that no cabinet has taken, by the books that a cabinet over it would have; or a cabinet, by its books
pub data Stand : Type 0 where
  nothing : Stand
  board : Books → Stand
  cabinet : Books → Stand

abbrev pub stood_by : Standing → Stand
stood_by Nothing = nothing
stood_by (Board months b place) = board (books_with (posted_of months) (board_meaning b))
stood_by (Cabinet c place) = cabinet (books_of board_meaning c)

abbrev pub stand_of : Bench → Stand
stand_of b = stood_by b.standing

-- a board that no cabinet has taken
abbrev pub is_board : Stand → Bool
is_board nothing = false
is_board (board b) = true
is_board (cabinet b) = false

-- a cabinet over the board as it stands
abbrev pub taken : Stand → Stand
taken nothing = nothing
taken (board b) = cabinet b
taken (cabinet b) = cabinet b
