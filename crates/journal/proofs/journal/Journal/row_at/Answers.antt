use Rattle.std.proofs.Common.{get_or, vec_items, sym, ap, ◌∙◌, arith}
use Rattle.std.specs.Option.{option_map}
use Rattle.journal.specs.Latest.{place-within, row-none, row-there}
use Rattle.journal.proofs.journal.Journal.row_at.Goals as goal

pub returns-in_err-place-clause-value : goal.returns-in_err-place-clause-value
returns-in_err-place-clause-value c =
    let b = c.args.self.now in
    let n = c.args.number in
    ap (option_map (λ x. x.now)) c.from_residual.ensures ∙ sym (row-none b.entries.capacity n b.used (vec_items b.entries.blocks.memory) (get_or b.entries.latest n 0) c.requires.inside (b.index n c.requires.inside) (c.in_err-place.ensures))

pub row-requires : goal.row-requires
row-requires c =
    let b = c.args.self.now in
    let n = c.args.number in
    omega (arith, place-within b.entries.capacity n b.used (vec_items b.entries.blocks.memory) (get_or b.entries.latest n 0) c.requires.inside (b.index n c.requires.inside), b.within, c.in_ok-place.ensures)

pub returns-clause-value : goal.returns-clause-value
returns-clause-value c =
    let b = c.args.self.now in
    let n = c.args.number in
    c.row.ensures.value
    ∙ sym (row-there b.entries.capacity n b.used (vec_items b.entries.blocks.memory) (get_or b.entries.latest n 0) c.requires.inside (b.index n c.requires.inside) c.in_ok-place.place (c.in_ok-place.ensures))
