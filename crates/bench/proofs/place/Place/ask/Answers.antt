use Rattle.std.proofs.Common.{◌≡◌, ◌-◌, length, vec_items, vec_len, vec_capacity, ap, arith}
use Rattle.std.proofs.lemmas.List.{length-take}
use Rattle.boards.specs.Boards.{board_meaning}
use Rattle.sheets.specs.Named.{tariff_of}
use Rattle.cabinet.specs.Books.{books_of}
use Rattle.run.specs.Asked.{asked}
use Rattle.bench.proofs.OneCall.{one_answer}
use Rattle.bench.proofs.place.Place.ask.Goals as goal

pub invariant_of-self : goal.invariant_of-self
invariant_of-self c =
    let place = c.args.self.now in
    let v = c.run.new.answers in
    let one : length (vec_items v) ≡ 1 =
    one_answer (vec_capacity place.answers) (vec_len place.answers) (books_of board_meaning c.args.cabinet.now) (asked tariff_of c.args.call) (vec_items v) place.room place.free c.run.ensures.replies in
    let rest = c.pop.new.self in record { free = omega (arith, one, v.ok.0, rest.ok.0, ap length c.pop.ensures.rest, length-take (vec_len v - 1) (vec_items v)); room = omega (arith, place.room, c.run.ensures.reserved, c.pop.ensures.capacity) }
