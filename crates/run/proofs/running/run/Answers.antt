use Rattle.std.proofs.Common.{◌≡◌, ◌-◌, ◌≤◌, true, false, map, length, vec_items, vec_len, vec_capacity, sym, refl, ap, ◌∙◌, arith, rules}
use Rattle.std.proofs.lemmas.List.{take_all}
use Rattle.std.proofs.lemmas.Bool.{leb-true}
use Rattle.cabinet.specs.Books.{books_of}
use Rattle.run.specs.Asked.{asked}
use Rattle.run.specs.Runs.{has_room, replies_behind, replies_given, books_left}
use Rattle.law.proofs.Standings.{stands}
use Rattle.run.proofs.Reaching.{reached-by, reached-none, lawful-run}
use Rattle.run.proofs.Turns.{nothing-behind, running_none, running_more, books-are, replies-are}
use Rattle.run.proofs.running.run.Goals as goal

pub returns-then-not-has_room : goal.returns-then-not-has_room
returns-then-not-has_room g c =
    let v = c.args.answers.now in
    let calls = c.args.calls.now in
    let b = books_of g.B.Board.meaning c.args.cabinet.now in
    let asks = map (asked g.S.Sheet.tariff) calls in
    let long : vec_len v ≡ length (vec_items v) = search rules in
    let none : has_room (vec_capacity v) (vec_len v) (length calls) ≡ false = sym c.has_room.ensures ∙ c.if-not-has_room.true in
    let nothing = nothing-behind (vec_len v) (vec_items v) long in
    record {
      made = sym none;
      kept = take_all (vec_len v) (vec_items v) (omega (arith, long));
      replies = nothing ∙ ap (λ room. replies_given room b asks) (sym none);
      after = ap (λ room. books_left room b asks) (sym none);
      reserved = refl;
      reached = reached-none b asks (replies_behind (vec_len v) (vec_items v)) nothing;
      lawful = lawful-run stands b asks (replies_behind (vec_len v) (vec_items v)) b (reached-none b asks (replies_behind (vec_len v) (vec_items v)) nothing);
    }

pub loop-call-init : goal.loop-call-init
loop-call-init g c =
    let v = c.args.answers.now in
    let calls = c.args.calls.now in
    let long : vec_len v ≡ length (vec_items v) = search rules in
    let room = leb-true (length calls) (vec_capacity v - vec_len v) (sym c.has_room.ensures ∙ c.if-not-has_room.false) in
    let most : vec_len v ≤ vec_capacity v = search rules in
    (running_none (asked g.S.Sheet.tariff) calls (books_of g.B.Board.meaning c.args.cabinet.now) (vec_len v) (vec_items v) long, omega (arith, room, most), refl)

pub loop-call-preserved : goal.loop-call-preserved
loop-call-preserved g c =
    let m = g.B.Board.meaning in
    let old = c.args.answers.now in (
      running_more (asked g.S.Sheet.tariff) c.args.calls.now (books_of m c.args.cabinet.now) (vec_len old) (vec_items old)
          (books_of m c.loop-call.cabinet) (books_of m c.apply.new.cabinet) (vec_items c.loop-call.answers) (vec_items c.push_reserved.new.self) c.loop-call.call-index c.call-item.result c.apply.result
          c.loop-call.invariant.0 c.loop-call-test.true c.call-item.is c.push_reserved.ensures.items c.apply.ensures.answer c.apply.ensures.after,
      omega (arith, c.loop-call.invariant.1, c.loop-call-test.true, c.push_reserved.ensures.len, c.push_reserved.ensures.capacity),
      c.push_reserved.ensures.capacity ∙ c.loop-call.invariant.2,
    )

pub returns : goal.returns
returns g c =
    let m = g.B.Board.meaning in
    let v = c.args.answers.now in
    let calls = c.args.calls.now in
    let b = books_of m c.args.cabinet.now in
    let d = books_of m c.loop-call.cabinet in
    let ask = asked g.S.Sheet.tariff in
    let answers = vec_items c.loop-call.answers in
    let all = c.loop-call.invariant.0 in
    let room : has_room (vec_capacity v) (vec_len v) (length calls) ≡ true = sym c.has_room.ensures ∙ c.if-not-has_room.false in
    let replies = replies-are ask calls b (vec_len v) (vec_items v) d answers c.loop-call.call-index all c.loop-call-test.false in
    let books = books-are ask calls b (vec_len v) (vec_items v) d answers c.loop-call.call-index all c.loop-call-test.false in
    record {
      made = sym room;
      kept = all.kept;
      replies = replies ∙ ap (λ x. replies_given x b (map ask calls)) (sym room);
      after = books ∙ ap (λ x. books_left x b (map ask calls)) (sym room);
      reserved = c.loop-call.invariant.2;
      reached = reached-by b (map ask calls) (replies_behind (vec_len v) answers) d replies books;
      lawful = lawful-run stands b (map ask calls) (replies_behind (vec_len v) answers) d (reached-by b (map ask calls) (replies_behind (vec_len v) answers) d replies books);
    }
