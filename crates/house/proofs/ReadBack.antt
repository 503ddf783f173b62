-- The writing of a sheet's lines is read back as these lines.
use Rattle.std.proofs.Common.{◌≡◌, ℕ, suc, ◌+◌, ◌-◌, ◌*◌, ◌<◌, ◌≤◌, true, List, [], ◌∷◌, ◌++◌, length, Ok, sym, refl, ap, ◌∙◌, arith, Some}
use Rattle.std.proofs.lemmas.Bool.Decides.{nat_tests}
use Rattle.std.proofs.lemmas.List.{append-nil, append_assoc, length_push, length-append}
use Rattle.house.specs.declared.line.Line.{Line}
use Rattle.house.specs.Lines.{line_fits, LineLimits, SheetLines}
use Rattle.house.specs.Writing.{content_bytes, line_bytes, end_bytes, written}
use Rattle.house.specs.Reading.{line_in, plan_of, entry_of, read_on, read_of}
use Rattle.house.proofs.Bytes.{join16, join32}
use Rattle.house.proofs.Entries.{entry-plan, entry-end}
use Rattle.house.proofs.Turns.{went, opened}

-- the content of a line within its limits is read as the line
content-line : (l : Line) → line_fits l ≡ true → line_in (content_bytes l) ≡ l
content-line l f =
    let charge = join32 l.charge (grind (arith, nat_tests)) in
    let tenth = join16 l.charge_a_tenth (grind (arith, nat_tests)) in
    let free = join16 l.free_tenths (grind (arith, nat_tests)) in
    let least = join16 l.least_power (grind (arith, nat_tests)) in
    let dne = join16 l.day.ne (grind (arith, nat_tests)) in
    let dnc = join16 l.day.nc (grind (arith, nat_tests)) in
    let nne = join16 l.night.ne (grind (arith, nat_tests)) in
    let nnc = join16 l.night.nc (grind (arith, nat_tests)) in
    simp (charge, tenth, free, least, dne, dnc, nne, nnc)

-- a written line, whatever is behind it
entry-line : (n at : ℕ) (l : Line) (more : List ℕ) → n < 8 → line_fits l ≡ true → entry_of n at (line_bytes l ++ more) ≡ Ok (Some l)
entry-line n at l more a f =
    entry-plan n at (line_bytes l ++ more) a (omega (arith, length-append (line_bytes l) more)) refl refl
    ∙ ap (plan_of at) (content-line l f) ∙ rw f

reads_on : (ls done : List Line) → length done + length ls ≤ 8 → 1 ≤ length done + length ls → LineLimits ls
    → read_on (9 - length done) done (written ls) ≡ Ok (done ++ ls)
reads_on [] done few some fit =
    let s : 9 - length done ≡ suc (8 - length done) = omega arith in
    ap (λ k. read_on k done end_bytes) s ∙ opened (8 - length done) done end_bytes
    ∙ ap (went (8 - length done) done end_bytes) (entry-end (length done) (21 * length done) (omega arith)) ∙ ap Ok (sym (append-nil done))
reads_on (l ∷ ls) done few some fit =
    let s : 9 - length done ≡ suc (8 - length done) = omega arith in
    let p : length (done ++ l ∷ []) ≡ length done + 1 = length_push done l in
    let t : 8 - length done ≡ 9 - length (done ++ l ∷ []) = omega arith in
    ap (λ k. read_on k done (written (l ∷ ls))) s ∙ opened (8 - length done) done (written (l ∷ ls))
    ∙ ap (went (8 - length done) done (written (l ∷ ls))) (entry-line (length done) (21 * length done) l (written ls) (omega arith) (fit 0 (omega arith)))
    ∙ ap (λ k. read_on k (done ++ l ∷ []) (written ls)) t
    ∙ reads_on ls (done ++ l ∷ []) (omega arith) (omega arith) (λ n h. fit (suc n) (omega arith)) ∙ ap Ok (append_assoc done (l ∷ []) ls)

pub reads-back : (ls : List Line) → SheetLines ls → read_of (written ls) ≡ Ok ls
unfolding read_of
reads-back ls s = reads_on ls [] (omega arith) (omega arith) s.2
