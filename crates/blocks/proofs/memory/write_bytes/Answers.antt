use Rattle.std.proofs.Common.{refl, arith}
use Rattle.blocks.proofs.Writes.{put-bytes}
use Rattle.blocks.proofs.memory.write_bytes.Goals as goal

pub returns : goal.returns
returns c = record {
  items = put-bytes c.args.memory.now c.args.start _ c.as_mut_slice.result.now c.copy_from_slice.new.self c.args.bytes.now
      c.requires c.as_mut_slice.ensures.value c.copy_from_slice.ensures.after (omega arith);
  len = refl;
}
