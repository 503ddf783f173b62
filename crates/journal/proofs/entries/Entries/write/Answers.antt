use Rattle.std.proofs.Common.{◌≡◌, ℕ, List, ◌+◌, ◌*◌, ◌≤◌, ◌∷◌, length, get_or, vec_items, sym, ap, ◌∙◌, arith}
use Rattle.blocks.specs.Blocks.{block, with_block}
use Rattle.blocks.specs.Marks.{held}
use Rattle.blocks.proofs.Marking.{held-marked}
use Rattle.blocks.proofs.Writes.{block_here}
use Rattle.journal.specs.Entries.{note_of}
use Rattle.journal.proofs.entries.Entries.write.Goals as goal

pub returns-clause-note : goal.returns-clause-note
returns-clause-note c =
    let bytes = vec_items c.args.self.now.blocks.memory in
    let row = c.unwrap_or.result.now in
    let e : List ℕ = c.mark_of.result ∷ (get_or c.to_be_bytes.result 0 0 ∷ (get_or c.to_be_bytes.result 1 0 ∷ row)) in
    let fits : 131 * c.args.place + 131 ≤ length bytes = omega (arith, c.requires.room, c.args.self.now.blocks.fits, c.args.self.now.blocks.memory.ok.0) in
    let here : block 131 c.args.place (vec_items c.write.new.self.memory) ≡ e = ap (block 131 c.args.place) c.write.ensures.items ∙ block_here 131 c.args.place e bytes fits (omega arith) in
    let number : 256 * get_or c.to_be_bytes.result 0 0 + get_or c.to_be_bytes.result 1 0 ≡ c.args.number =
    ap (λ (xs : List ℕ). 256 * get_or xs 0 0 + get_or xs 1 0) c.to_be_bytes.ensures ∙ omega (arith, c.requires.inside, c.args.self.now.few) in
    ap note_of here ∙ ap (λ n. (n, held c.mark_of.result row)) number ∙ ap (λ byte. (c.args.number, held byte row)) c.mark_of.ensures.value
    ∙ ap (λ r. (c.args.number, r)) (held-marked c.args.row c.unwrap_or.result _ c.unwrap_or.ensures)

pub returns-clause-others : goal.returns-clause-others
returns-clause-others c =
    let bytes = vec_items c.args.self.now.blocks.memory in
    let e : List ℕ = c.mark_of.result ∷ (get_or c.to_be_bytes.result 0 0 ∷ (get_or c.to_be_bytes.result 1 0 ∷ c.unwrap_or.result.now)) in
    let fits : 131 * c.args.place + 131 ≤ length bytes = omega (arith, c.requires.room, c.args.self.now.blocks.fits, c.args.self.now.blocks.memory.ok.0) in
    c.write.ensures.items ∙ ap (λ x. with_block 131 c.args.place x bytes) (sym (ap (block 131 c.args.place) c.write.ensures.items ∙ block_here 131 c.args.place e bytes fits (omega arith)))
