-- Reading one field after the other.
use Rattle.std.proofs.Common.{◌≡◌, ℕ, suc, ◌-◌, ◌*◌, List, [], ◌∷◌, ◌++◌, length, take, drop, Ok, Err, Result, sym, refl, ap, ◌∙◌, arith, Some, None, Option}
use Rattle.std.proofs.lemmas.List.{take_rest, length-take-le}
use Rattle.house.specs.declared.line.Line.{Line}
use Rattle.house.specs.declared.line.SheetFault.{SheetFault}
use Rattle.house.specs.declared.house.House.{House}
use Rattle.house.specs.Reading.{entry_of, read_on}
use Rattle.house.specs.Houses.{lines_of}

-- what a field makes of the reading
abbrev pub went : ℕ → List Line → List ℕ → Result (Option Line) SheetFault → Result (List Line) SheetFault
went fields ls bs (Ok (Some l)) = read_on fields (ls ++ l ∷ []) (drop 21 bs)
went fields ls bs (Ok None) = Ok ls
went fields ls bs (Err f) = Err f

-- reading opens with the field at the front
pub opened : (fields : ℕ) (ls : List Line) (bs : List ℕ)
    → read_on (suc fields) ls bs ≡ went fields ls bs (entry_of (length ls) (21 * length ls) bs)
unfolding read_on
opened fields ls bs =
    elim (entry_of (length ls) (21 * length ls) bs) as (λ t. elim t [ Ok e ↦ elim e [ Some l ↦ read_on fields (ls ++ l ∷ []) (drop 21 bs) | None ↦ Ok ls ] | Err f ↦ Err f ] ≡ went fields ls bs t)
    [ Ok e ↦ elim e as (λ x. elim x [ Some l ↦ read_on fields (ls ++ l ∷ []) (drop 21 bs) | None ↦ Ok ls ] ≡ went fields ls bs (Ok x)) [ Some l ↦ refl | None ↦ refl ] | Err f ↦ refl ]

-- the same at the lines that a sheet holds so far
pub turned : (bytes : List ℕ) (h : House) (r : Result (Option Line) SheetFault)
    → r ≡ entry_of h.count (21 * h.count) (take (length bytes - 21 * h.count) (drop (21 * h.count) bytes))
    → read_on (9 - h.count) (lines_of h) (drop (21 * h.count) bytes) ≡ went (8 - h.count) (lines_of h) (drop (21 * h.count) bytes) r
turned bytes h r v =
    let s : 9 - h.count ≡ suc (8 - h.count) = omega arith in
    let l : length (lines_of h) ≡ h.count = length-take-le h.count h.lines (omega arith) in
    let w : entry_of (length (lines_of h)) (21 * length (lines_of h)) (drop (21 * h.count) bytes) ≡ r =
    ap (λ k. entry_of k (21 * k) (drop (21 * h.count) bytes)) l ∙ ap (entry_of h.count (21 * h.count)) (sym (take_rest bytes (21 * h.count))) ∙ sym v in
    ap (λ k. read_on k (lines_of h) (drop (21 * h.count) bytes)) s ∙ opened (8 - h.count) (lines_of h) (drop (21 * h.count) bytes)
    ∙ ap (went (8 - h.count) (lines_of h) (drop (21 * h.count) bytes)) w
