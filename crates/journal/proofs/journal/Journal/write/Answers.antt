use Rattle.std.proofs.Common.{◌≡◌, ◌<◌, length, is_some, vec_items, Option, sym, ap, ◌∙◌, arith}
use mir.Val.{bool_byte}
use Rattle.std.specs.Option.{option_map}
use Rattle.board.specs.Meaning.{BoardMeaning, Row, row_at, one}
use Rattle.board.proofs.Standing.{byte_one, is_some-mapped}
use Rattle.journal.specs.Entries.{notes}
use Rattle.journal.specs.Journals.{journal_meaning}
use Rattle.journal.specs.Replaying.{rows_long}
use Rattle.journal.proofs.Counting.{count-enough, count-after}
use Rattle.journal.proofs.journal.Journal.write.Goals as goal

pub overflow_sub-filled : goal.overflow_sub-filled
overflow_sub-filled c =
    let b = c.make_room.new.self in
    let m = journal_meaning b in
    let n = c.args.number in
    let row : Option Row = option_map (λ r. r.now) c.args.row in
    let within : n < length m.rows = omega (arith, rows_long m.capacity (notes b.used (vec_items b.entries.blocks.memory)), ap (λ (x : BoardMeaning Row). x.capacity) c.make_room.ensures.same, c.requires.inside) in
    let stood : bool_byte c.args.stood ≡ one (row_at m n) = ap bool_byte (c.requires.before ∙ ap (λ (x : BoardMeaning Row). is_some (row_at x n)) (sym c.make_room.ensures.same)) ∙ byte_one (row_at m n) in
    let adds : bool_byte c.is_some.result ≡ one row = ap bool_byte (c.is_some.ensures ∙ sym (is_some-mapped (λ r. r.now) c.args.row)) ∙ byte_one row in
    count-enough m.rows n b.filled _ _ row within b.count adds stood

pub append-requires-clause-count : goal.append-requires-clause-count
append-requires-clause-count c =
    let b = c.make_room.new.self in
    let m = journal_meaning b in
    let n = c.args.number in
    let row : Option Row = option_map (λ r. r.now) c.args.row in
    let within : n < length m.rows = omega (arith, rows_long m.capacity (notes b.used (vec_items b.entries.blocks.memory)), ap (λ (x : BoardMeaning Row). x.capacity) c.make_room.ensures.same, c.requires.inside) in
    let stood : bool_byte c.args.stood ≡ one (row_at m n) = ap bool_byte (c.requires.before ∙ ap (λ (x : BoardMeaning Row). is_some (row_at x n)) (sym c.make_room.ensures.same)) ∙ byte_one (row_at m n) in
    let adds : bool_byte c.is_some.result ≡ one row = ap bool_byte (c.is_some.ensures ∙ sym (is_some-mapped (λ r. r.now) c.args.row)) ∙ byte_one row in
    count-after m.rows n b.filled _ _ row within b.count adds stood
