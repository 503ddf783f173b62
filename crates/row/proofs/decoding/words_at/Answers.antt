use Rattle.std.proofs.Common.{◌≡◌, ℕ, ◌+◌, ◌*◌, ◌<◌, ◌≤◌, get_or, arith}
use Rattle.std.proofs.lemmas.Grind.{common_steps}
use Rattle.std.proofs.lemmas.List.FromFn.{fill_by_all}
use Rattle.row.specs.Bytes.{at32}
use Rattle.row.proofs.decoding.words_at.Goals as goal

pub returns : goal.returns
returns c =
    let row = c.args.row.now in
    let from : ℕ = c.args.from in
    let at : (k : ℕ) → k < 12 → get_or c.from_fn.result k 0 ≡ at32 row (from + 4 * k) = λ k h. let t = c.from_fn.ensures.items.at k 0 h in let m = t.2.met in let b : from + 4 * k + 4 ≤ 128 = omega arith in grind (arith, common_steps) in
    fill_by_all (λ k. at32 row (from + 4 * k)) c.from_fn.result 12 0 c.from_fn.ensures.items.long at
