use Rattle.std.proofs.Common.{vec_items, ◌∙◌, arith}
use Rattle.blocks.proofs.Writes.{pasted-bytes}
use Rattle.blocks.proofs.memory.move_bytes.Goals as goal

pub returns : goal.returns
returns c = record {
  items = c.copy_within.ensures.items ∙ pasted-bytes c.args.width c.args.from c.args.to _ (vec_items c.args.memory.now) (omega arith);
  len = c.copy_within.ensures.len;
}
