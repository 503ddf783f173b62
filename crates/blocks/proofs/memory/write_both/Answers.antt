use Rattle.std.proofs.Common.{◌≡◌, ℕ, ◌+◌, ◌++◌, length, vec_items, sym, ap, ◌∙◌, subst, arith}
use Rattle.blocks.specs.Blocks.{with_bytes, Bytes}
use Rattle.blocks.proofs.Writes.{written_both}
use Rattle.blocks.proofs.ByteLists.{bytes-append, bytes-with}
use Rattle.blocks.proofs.memory.write_both.Goals as goal

pub returns : goal.returns
returns c =
    let head = c.args.head.now in
    let body = c.args.body.now in
    let bytes = vec_items c.args.memory.now in
    let start : ℕ = c.args.start in
    let written : vec_items c.write_bytes-2.new.memory ≡ with_bytes start (length head + length body) (head ++ body) bytes =
    c.write_bytes-2.ensures.items
    ∙ ap (with_bytes (start + length head) (length body) body) c.write_bytes.ensures.items
    ∙ written_both start head body bytes (omega (arith, c.requires, c.args.memory.now.ok.0)) in
    record {
      items = written;
      len = c.write_bytes-2.ensures.len ∙ c.write_bytes.ensures.len;
      bytes = λ p. subst Bytes (sym written) (bytes-with start (length head + length body) (head ++ body) bytes (bytes-append head body (λ k. omega (arith, c.type_inv.head k)) (λ k. omega (arith, c.type_inv.body k))) p);
    }
