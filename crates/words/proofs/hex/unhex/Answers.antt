use Rattle.std.proofs.Common.{◌≡◌, ℕ, ◌*◌, ◌/◌, ◌≤◌, List, IfOk, map, length, slice_index, rules, arith}
use Rattle.std.specs.Simd.{first_chunks}
use Rattle.words.specs.Hex.{byte_of}
use Rattle.words.proofs.Pairs.{bytes_of_pairs}
use Rattle.words.proofs.hex.unhex.Goals as goal

pub returns : goal.returns
returns c =
    let text = c.args.text.now in
    let half : 2 * (length text / 2) ≤ length text = omega arith in
    let mapped : IfOk c.collect.result (λ v. v.items ≡ map (λ (p : List ℕ). byte_of (slice_index p 0) (slice_index p 1)) (first_chunks 2 (length text / 2) text)) = search rules in
    let same = bytes_of_pairs (length text / 2) text half in
    search rules
