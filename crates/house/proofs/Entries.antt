-- What the field at the front says, by its kind.
use Rattle.std.proofs.Common.{◌≡◌, ℕ, ◌+◌, ◌<◌, ◌≤◌, Bool, true, false, cond, ◌&&◌, ◌||◌, eqb, ltb, leb, List, length, get_or, drop, Ok, Err, Result, refl, arith, Some, None, Option}
use Rattle.std.proofs.lemmas.Bool.Decides.{nat_tests}
use Rattle.std.proofs.lemmas.List.{length-take-le, length-drop}
use Rattle.house.specs.declared.line.Line.{Line}
use Rattle.house.specs.declared.line.SheetFault.{SheetFault}
use Rattle.house.specs.declared.line.SheetFault.TheVariants.{CutShort, UnknownField, MissingEnd, BytesBehind, ValueTooHigh, NoLine, NinthLine}
use Rattle.house.specs.Fields.{size_of, content_of}
use Rattle.house.specs.Lines.{line_fits}
use Rattle.house.specs.Writing.{end_bytes}
use Rattle.house.specs.Reading.{line_in, plan_of, entry_of, EntryRoom}

-- the same by the bytes' count, the field's tag and length and the plan in it alone
abbrev said : ℕ → ℕ → ℕ → ℕ → ℕ → Result (Option Line) SheetFault → Result (Option Line) SheetFault
said n at len tag size plan =
    cond (eqb len 0) (Err (MissingEnd at))
    (cond (eqb tag 1 && leb 8 n) (Err (NinthLine at))
    (cond (ltb len 3 || ltb len (3 + size)) (Err (CutShort at))
    (cond (eqb tag 1 && eqb size 18) plan
    (cond (eqb tag 127 && eqb size 0)
    (cond (eqb len 3) (cond (eqb n 0) (Err (NoLine at)) (Ok None)) (Err (BytesBehind (at + 3))))
    (Err (UnknownField at))))))

said-plan : (n at len tag size : ℕ) (plan : Result (Option Line) SheetFault) → n < 8 → 3 + size ≤ len → tag ≡ 1 → size ≡ 18 → said n at len tag size plan ≡ plan
said-plan n at len tag size plan a b c d = grind (arith, nat_tests)

said-end : (n at : ℕ) (plan : Result (Option Line) SheetFault) → 1 ≤ n → said n at 3 127 0 plan ≡ Ok None
said-end n at plan a = grind (arith, nat_tests)

-- a line's field says the plan in it
pub entry-plan : (n at : ℕ) (bs : List ℕ) → n < 8 → 21 ≤ length bs → get_or bs 0 0 ≡ 1 → size_of bs ≡ 18
    → entry_of n at bs ≡ plan_of at (line_in (content_of bs))
entry-plan n at bs a b c d =
    said-plan n at (length bs) (get_or bs 0 0) (size_of bs) (plan_of at (line_in (content_of bs))) a (omega arith) c d

planned : (n at : ℕ) (bs : List ℕ) (l : Line) (b : Bool) → line_fits l ≡ b → n < 8 → 21 ≤ length bs
    → EntryRoom n bs (cond b (Ok (Some l)) (Err (ValueTooHigh at)))
planned n at bs l true e a h = (a, h, e)
planned n at bs l false e a h = tt

pub plan-room : (n at : ℕ) (bs : List ℕ) (l : Line) → n < 8 → 21 ≤ length bs → EntryRoom n bs (plan_of at l)
plan-room n at bs l a h = planned n at bs l (line_fits l) refl a h

-- a field that is not cut short has a content of its length
pub content-size : (bs : List ℕ) → 3 + size_of bs ≤ length bs → length (content_of bs) ≡ size_of bs
content-size bs h = length-take-le (size_of bs) (drop 3 bs) (omega (arith, length-drop 3 bs))

-- the end of a sheet, behind a line
pub entry-end : (n at : ℕ) → 1 ≤ n → entry_of n at end_bytes ≡ Ok None
entry-end n at a = said-end n at (plan_of at (line_in (content_of end_bytes))) a

said-plan-facts : (n at len tag size : ℕ) (l line : Line) (fits : Bool) → said n at len tag size (cond fits (Ok (Some line)) (Err (ValueTooHigh at))) ≡ Ok (Some l)
    → (n < 8) × (21 ≤ len) × (tag ≡ 1) × (size ≡ 18) × (line ≡ l) × (fits ≡ true)
said-plan-facts n at len tag size l line fits e = grind (arith, nat_tests)

-- what a field that says a plan is
pub plan-facts : (n at : ℕ) (bs : List ℕ) (l : Line) → entry_of n at bs ≡ Ok (Some l)
    → (n < 8) × (21 ≤ length bs) × (get_or bs 0 0 ≡ 1) × (size_of bs ≡ 18) × (line_in (content_of bs) ≡ l) × (line_fits (line_in (content_of bs)) ≡ true)
plan-facts n at bs l e = said-plan-facts n at (length bs) (get_or bs 0 0) (size_of bs) l (line_in (content_of bs)) (line_fits (line_in (content_of bs))) e

said-end-facts : (n at len tag size : ℕ) (line : Line) (fits : Bool) → said n at len tag size (cond fits (Ok (Some line)) (Err (ValueTooHigh at))) ≡ Ok None
    → (1 ≤ n) × (len ≡ 3) × (tag ≡ 127) × (size ≡ 0)
said-end-facts n at len tag size line fits e = grind (arith, nat_tests)

-- and one that is the end
pub end-facts : (n at : ℕ) (bs : List ℕ) → entry_of n at bs ≡ Ok None → (1 ≤ n) × (length bs ≡ 3) × (get_or bs 0 0 ≡ 127) × (size_of bs ≡ 0)
end-facts n at bs e = said-end-facts n at (length bs) (get_or bs 0 0) (size_of bs) (line_in (content_of bs)) (line_fits (line_in (content_of bs))) e
