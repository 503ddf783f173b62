use Rattle.std.proofs.Common.{◌≡◌, ◌-◌, length, vec_items, take, drop, Some, sym, ap, ◌∙◌, arith, length-drop, length-take}
use Rattle.table.specs.SlotRows.{slot-none, slot-some}
use Rattle.table.proofs.table.Table.row_at.Goals as goal

pub returns-then-not-is_row : goal.returns-then-not-is_row
returns-then-not-is_row c =
    let b = c.args.self.now in
    record {
      value = sym (slot-none b.capacity c.args.number (vec_items b.slots.memory) c.read-slot.result.now c.requires.inside c.read-slot.ensures.value c.if-not-is_row.ensures);
      len = tt;
    }

pub returns : goal.returns
returns c =
    let b = c.args.self.now in
    let wide : length c.read-slot.result.now - 1 ≡ 128 = omega (arith, c.read-slot.ensures.len) in
    record {
      value = ap (λ n. Some (take n (drop 1 c.read-slot.result.now))) wide ∙ sym (slot-some b.capacity c.args.number (vec_items b.slots.memory) c.read-slot.result.now c.requires.inside c.read-slot.ensures.value c.if-not-is_row.ensures c.read-slot.ensures.len);
      len = simp (length-take, length-drop) (omega (arith, c.read-slot.ensures.len));
    }
