-- A transcript that a new cabinet came to goes on by the calls of a run.
use Rattle.std.proofs.Common.{◌≡◌, List, [], ◌∷◌, sym, subst}
use Rattle.cabinet.specs.Books.{Books}
use Rattle.law.specs.Transcript.{Call, Reply, Transcript, Reached, more, reply_of, after_of}
use Rattle.law.specs.Law.{Law-stands}
use Rattle.run.specs.Runs.{replies_of, after_all, heard, ReachedRun, LawfulRun}

pub reached-run : (calls : List Call) (t : Transcript) (b : Books) → Reached t b → Reached (heard t calls (replies_of b calls)) (after_all b calls)
reached-run [] t b r = r
reached-run (c ∷ calls) t b r = reached-run calls ((c, reply_of b c) ∷ t) (after_of b c) (more c r)

-- the same with the replies and books that a place and a cabinet have then
pub reached-by : (b : Books) (calls : List Call) (replies : List Reply) (d : Books) → replies ≡ replies_of b calls → d ≡ after_all b calls → ReachedRun b calls replies d
reached-by b calls replies d p q = λ t r.
    let P : Books → Type 0 = λ x. Reached (heard t calls replies) x in
    let Q : List Reply → Type 0 = λ ys. Reached (heard t calls ys) (after_all b calls) in
    subst P (sym q) (subst Q (sym p) (reached-run calls t b r))

-- no call was made
pub reached-none : (b : Books) (calls : List Call) (replies : List Reply) → replies ≡ [] → ReachedRun b calls replies b
reached-none b [] replies p = λ t r. r
reached-none b (c ∷ calls) replies p = λ t r.
    let Q : List Reply → Type 0 = λ ys. Reached (heard t (c ∷ calls) ys) b in
    subst Q (sym p) r

-- where the law stands, it holds of what is reached
pub lawful-run : Law-stands → (b : Books) (calls : List Call) (replies : List Reply) (d : Books) → ReachedRun b calls replies d → LawfulRun b calls replies d
lawful-run stands b calls replies d reached = λ t r. stands (heard t calls replies) d (reached t r)
