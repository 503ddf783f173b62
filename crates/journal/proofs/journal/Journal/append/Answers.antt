use Rattle.std.proofs.Common.{ℕ, ◌+◌, ◌*◌, ◌≤◌, List, length, get_or, vec_items, Option, sym, ap, ◌∙◌, arith}
use Rattle.std.specs.Option.{option_map}
use Rattle.board.specs.Meaning.{Row, holding, standing}
use Rattle.journal.specs.Replay.{indexed}
use Rattle.journal.specs.Entries.{notes, entry_rows}
use Rattle.journal.specs.Latest.{rows-after, index-after}
use Rattle.journal.proofs.journal.Journal.append.Goals as goal

pub invariant_of-self : goal.invariant_of-self
invariant_of-self c =
    let b = c.args.self.now in
    let n = c.args.number in
    let e = b.entries in
    let f = c.write.new.self in
    let bytes = vec_items e.blocks.memory in
    let later = vec_items f.blocks.memory in
    let row : Option Row = option_map (λ r. r.now) c.args.row in
    let fits : 131 * b.used + 131 ≤ length bytes = omega (arith, e.blocks.fits, c.requires.room, e.blocks.memory.ok.0) in
    let room : 131 * b.used + 131 ≤ length later = omega (arith, f.blocks.fits, c.requires.room, c.write.ensures.places, f.blocks.memory.ok.0) in
    let rows = rows-after e.capacity n b.used row bytes later fits room c.write.ensures.note c.write.ensures.others in
    let index = index-after e.capacity n b.used row bytes later fits room c.write.ensures.note c.write.ensures.others e.latest (omega (arith, e.few)) b.index in
    let same = c.write.ensures.capacity in
    record {
      some = b.some;
      under = omega (arith, b.under, same);
      spare = omega (arith, b.spare, c.write.ensures.places);
      within = omega (arith, c.requires.room, c.write.ensures.places);
      index = λ k h. ap (λ (xs : List ℕ). get_or xs k 0) c.write.ensures.index ∙ index k (omega (arith, same)) ∙ ap (λ m. get_or (indexed m (notes (b.used + 1) later)) k 0) (sym same);
      count = c.requires.count ∙ sym (ap (λ n. standing (entry_rows n (b.used + 1) later)) same ∙ ap standing rows);
      bounded = c.requires.bounded;
    }

pub returns : goal.returns
returns c =
    let b = c.args.self.now in
    let e = b.entries in
    let f = c.write.new.self in
    let bytes = vec_items e.blocks.memory in
    let later = vec_items f.blocks.memory in
    let row : Option Row = option_map (λ r. r.now) c.args.row in
    let fits : 131 * b.used + 131 ≤ length bytes = omega (arith, e.blocks.fits, c.requires.room, e.blocks.memory.ok.0) in
    let room : 131 * b.used + 131 ≤ length later = omega (arith, f.blocks.fits, c.requires.room, c.write.ensures.places, f.blocks.memory.ok.0) in
    let rows = rows-after e.capacity c.args.number b.used row bytes later fits room c.write.ensures.note c.write.ensures.others in
    record { after = ap (λ m. holding m b.limit (entry_rows m (b.used + 1) later)) c.write.ensures.capacity ∙ ap (holding e.capacity b.limit) rows }
