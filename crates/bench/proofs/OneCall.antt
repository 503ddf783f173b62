-- The answer of a run of one call.
use Rattle.std.proofs.Common.{◌≡◌, ℕ, ◌-◌, ◌≤◌, true, List, [], ◌∷◌, length, drop, ap, ◌∙◌, arith}
use Rattle.std.proofs.lemmas.List.{length-map, length-drop}
use Rattle.std.proofs.lemmas.Bool.{le-leb}
use Rattle.cabinet.specs.Books.{Books}
use Rattle.law.specs.Transcript.{Call, reply_of}
use Rattle.run.specs.declared.answer.Answer.{Answer}
use Rattle.run.specs.Asked.{told}
use Rattle.run.specs.Runs.{has_room, replies_behind, replies_given}

-- an empty place with room for one answer holds the answer of one call
pub one_answer : (reserved taken : ℕ) (b : Books) (c : Call) (answers : List Answer) → 1 ≤ reserved → taken ≡ 0
    → replies_behind taken answers ≡ replies_given (has_room reserved taken 1) b (c ∷ []) → length answers ≡ 1
one_answer reserved taken b c answers room free replies =
    let fits : has_room reserved taken 1 ≡ true = le-leb 1 (reserved - taken) (omega arith) in
    let one : replies_behind taken answers ≡ reply_of b c ∷ [] = replies ∙ ap (λ x. replies_given x b (c ∷ [])) fits in
    omega (arith, ap length one, length-map (drop taken answers) told, length-drop taken answers)
