use Rattle.std.proofs.Common.{[], get_or, List, ℕ, sym, ap, ◌∙◌, arith}
use Rattle.journal.specs.Replay.{Leads}
use Rattle.board.specs.Meaning.{Row}
use Rattle.board.proofs.Standing.{standing-vacant}
use Rattle.blocks.proofs.ByteLists.{get_d-zeros}
use Rattle.journal.proofs.journal.Journal.without_rows.Goals as goal

pub invariant_of-result : goal.invariant_of-result
invariant_of-result c =
    let p = c.requires in
    let e = c.unused.result in
    let leads : Leads e.capacity e.latest [] = λ n h. ap (λ (xs : List ℕ). get_or xs n 0) c.unused.ensures.index ∙ get_d-zeros 4096 n ∙ sym (get_d-zeros e.capacity n) in
    record { some = p.some; under = omega (arith, p.under, c.unused.ensures.capacity); spare = omega (arith, p.spare, c.unused.ensures.places); within = omega arith; index = leads; count = sym (standing-vacant Row e.capacity); bounded = omega arith }
