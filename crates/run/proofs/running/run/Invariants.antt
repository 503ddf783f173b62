use Rattle.std.proofs.Common.{◌≡◌, ◌+◌, ◌-◌, ◌≤◌, length, vec_items, vec_len, vec_capacity}
use Rattle.cabinet.specs.Books.{books_of}
use Rattle.run.specs.Asked.{asked}
use Rattle.run.proofs.Turns.{Running}
use Rattle.run.proofs.running.run.Given as goal

abbrev pub invariant-loop-call : goal.invariant-loop-call
invariant-loop-call g l =
    let m = g.B.Board.meaning in
    Running (asked g.S.Sheet.tariff) l.calls (books_of m l.initial.cabinet) (books_of m l.cabinet) (vec_len l.initial.answers) (vec_items l.initial.answers) (vec_items l.answers) l.call-index
    × (vec_len l.answers + (length l.calls - l.call-index) ≤ vec_capacity l.answers) × (vec_capacity l.answers ≡ vec_capacity l.initial.answers)
