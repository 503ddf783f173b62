use Rattle.std.proofs.Common.{◌≡◌, ℕ, Bool, true, false, ◌&&◌, map, length, is_ok, is_err, Ok, Err, vec_items, vec_len, vec_capacity, Result, sym, refl, ap, ◌∙◌, rules}
use Rattle.cabinet.specs.Books.{Books}
use Rattle.law.proofs.Standings.{stands}
use Rattle.run.specs.Asked.{asked}
use Rattle.run.specs.Runs.{has_room, replies_behind, replies_given, books_left}
use Rattle.run.proofs.Reaching.{reached-none, lawful-run}
use Rattle.run.proofs.Turns.{nothing-behind}
use Rattle.twoboards.specs.Pairs.{table_books, journal_books}
use Rattle.twoboards.proofs.pair.Pair.run.Goals as goal

not-both : (a b : Bool) → b ≡ false → (a && b) ≡ false
not-both true b h = h
not-both false b h = refl

not-ok : {X E : Type 0} (r : Result X E) → is_err r ≡ true → is_ok r ≡ false
not-ok (Ok x) h = sym h
not-ok (Err e) h = refl

pub returns-then-not-has_room : goal.returns-then-not-has_room
returns-then-not-has_room g c =
    let n : ℕ = length c.args.calls.now in
    let t = c.args.on_table.now in
    let j = c.args.on_journal.now in
    let b = table_books c.args.self.now in
    let asks = map (asked g.S.Sheet.tariff) c.args.calls.now in
    let none : has_room (vec_capacity j) (vec_len j) n ≡ false = sym c.has_room.ensures ∙ c.if-not-has_room.true in
    let nothing-table = nothing-behind (vec_len t) (vec_items t) (search rules) in
    let nothing-journal = nothing-behind (vec_len j) (vec_items j) (search rules) in
    record {
      made = sym (not-both (has_room (vec_capacity t) (vec_len t) n) (has_room (vec_capacity j) (vec_len j) n) none);
      replies = nothing-table;
      after = refl;
      alike = λ s. nothing-journal ∙ sym nothing-table;
      same = λ s. s;
      lawful = lawful-run stands b asks (replies_behind (vec_len t) (vec_items t)) b (reached-none b asks (replies_behind (vec_len t) (vec_items t)) nothing-table);
    }

pub returns-in_err-run : goal.returns-in_err-run
returns-in_err-run g c =
    let n : ℕ = length c.args.calls.now in
    let t = c.args.on_table.now in
    let j = c.args.on_journal.now in
    let b = table_books c.args.self.now in
    let asks = map (asked g.S.Sheet.tariff) c.args.calls.now in
    let none : has_room (vec_capacity t) (vec_len t) n ≡ false = sym c.in_err-run.ensures.made in
    let refused = not-ok c.from_residual.result c.from_residual.ensures.0 in
    record {
      made = refused ∙ sym (ap (λ room. room && has_room (vec_capacity j) (vec_len j) n) none);
      replies = c.run.ensures.replies ∙ ap (λ room. replies_given room b asks) (none ∙ sym refused);
      after = c.run.ensures.after ∙ ap (λ room. books_left room b asks) (none ∙ sym refused);
      alike = λ s. nothing-behind (vec_len j) (vec_items j) (search rules) ∙ sym (c.run.ensures.replies ∙ ap (λ room. replies_given room b asks) none);
      same = λ s. s ∙ sym (c.run.ensures.after ∙ ap (λ room. books_left room b asks) none);
      lawful = c.run.ensures.lawful;
    }

pub returns : goal.returns
returns g c =
    let n : ℕ = length c.args.calls.now in
    let t = c.args.on_table.now in
    let j = c.args.on_journal.now in
    let b = table_books c.args.self.now in
    let d = journal_books c.args.self.now in
    let asks = map (asked g.S.Sheet.tariff) c.args.calls.now in
    let first : has_room (vec_capacity t) (vec_len t) n ≡ true = sym c.in_ok-run.ensures.made in
    let second : has_room (vec_capacity j) (vec_len j) n ≡ true = sym c.has_room.ensures ∙ c.if-not-has_room.false in
    let done : is_ok c.run-2.result ≡ true = c.run-2.ensures.made ∙ second in
    record {
      made = done ∙ sym (ap (λ room. room && has_room (vec_capacity j) (vec_len j) n) first ∙ second);
      replies = c.run.ensures.replies ∙ ap (λ room. replies_given room b asks) (first ∙ sym done);
      after = c.run.ensures.after ∙ ap (λ room. books_left room b asks) (first ∙ sym done);
      alike = λ s.
          c.run-2.ensures.replies ∙ ap (λ room. replies_given room d asks) second ∙ ap (λ (x : Books). replies_given true x asks) s ∙ ap (λ room. replies_given room b asks) (sym first)
          ∙ sym c.run.ensures.replies;
      same = λ s.
          c.run-2.ensures.after ∙ ap (λ room. books_left room d asks) second ∙ ap (λ (x : Books). books_left true x asks) s ∙ ap (λ room. books_left room b asks) (sym first)
          ∙ sym c.run.ensures.after;
      lawful = c.run.ensures.lawful;
    }
