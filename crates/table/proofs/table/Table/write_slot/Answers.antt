use Rattle.std.proofs.Common.{◌≡◌, ℕ, List, ◌∷◌, set, vec_items, ap, ◌∙◌, arith}
use Rattle.std.specs.Option.{option_map}
use Rattle.board.specs.Meaning.{holding}
use Rattle.board.proofs.Rooms.{never-full}
use Rattle.blocks.specs.Marks.{held}
use Rattle.blocks.proofs.Marking.{held-marked}
use Rattle.table.specs.Slots.{slot_row, slot_rows}
use Rattle.table.specs.SlotRows.{length-slot_rows, slot_rows-put}
use Rattle.table.proofs.table.Table.write_slot.Goals as goal

pub returns-clause-after : goal.returns-clause-after
returns-clause-after c =
    let b = c.args.self.now in
    let bytes = vec_items b.slots.memory in
    let slot : List ℕ = c.mark_of-mark.result ∷ c.unwrap_or.result.now in
    let rows : slot_rows b.capacity (vec_items c.write.new.self.memory) ≡ set (slot_rows b.capacity bytes) c.args.number (slot_row slot) =
    ap (slot_rows b.capacity) c.write.ensures.items ∙ slot_rows-put b.capacity c.args.number slot bytes c.requires.inside (omega (arith, b.fits, b.slots.fits, b.slots.memory.ok.0)) (omega arith) in
    let holds : slot_row slot ≡ option_map (λ r. r.now) c.args.row =
    ap (λ byte. held byte c.unwrap_or.result.now) c.mark_of-mark.ensures.value ∙ held-marked c.args.row c.unwrap_or.result _ c.unwrap_or.ensures in
    ap (holding b.capacity b.capacity) (rows ∙ ap (set (slot_rows b.capacity bytes) c.args.number) holds)

pub returns-clause-room : goal.returns-clause-room
returns-clause-room c =
    let b = c.args.self.now in
    let rows = slot_rows b.capacity (vec_items b.slots.memory) in
    let long = length-slot_rows b.capacity (vec_items b.slots.memory) in
    never-full b.capacity b.capacity rows c.args.number (omega (arith, c.requires.inside, long)) (omega (arith, long))
