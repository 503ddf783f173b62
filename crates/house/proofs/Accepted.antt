-- Bytes are accepted exactly where they are the writing of a sheet's lines, which are then the lines read.
use Rattle.std.proofs.Common.{◌≡◌, ℕ, zero, suc, ◌+◌, ◌*◌, ◌≤◌, true, List, [], ◌∷◌, ◌++◌, length, get_or, take, drop, Ok, Err, Result, sym, refl, ap, ◌∙◌, subst, arith, Some, None, Option}
use Rattle.std.proofs.lemmas.List.{append-nil, append_assoc, length_push, get_or-drop, drop_all}
use Rattle.house.specs.declared.line.Line.{Line}
use Rattle.house.specs.declared.line.SheetFault.{SheetFault}
use Rattle.house.specs.declared.line.SheetFault.TheVariants.{NinthLine}
use Rattle.house.specs.Fields.{size_of, content_of}
use Rattle.house.specs.Lines.{line_fits, LineLimits, SheetLines}
use Rattle.house.specs.Writing.{line_bytes, end_bytes, written}
use Rattle.house.specs.Reading.{line_in, entry_of, read_on, read_of, IsWriting}
use Rattle.house.proofs.Bytes.{Bytes, pair16, quad32, each, front}
use Rattle.house.proofs.Entries.{plan-facts, end-facts}
use Rattle.house.proofs.Limits.{limits-push}
use Rattle.house.proofs.ReadBack.{reads-back}
use Rattle.house.proofs.Turns.{went, opened}

-- the content of a line's field, byte by byte
content-each : (bs : List ℕ) → 21 ≤ length bs → size_of bs ≡ 18 → content_of bs ≡ each 3 18 bs
content-each bs h s = ap (λ k. take k (drop 3 bs)) s ∙ ap (take 18) (front 3 18 bs h)

same_head : (a b c x y z : ℕ) (more : List ℕ) → x ≡ a → y ≡ b → z ≡ c → a ∷ b ∷ c ∷ more ≡ x ∷ y ∷ z ∷ more
same_head a b c x y z more p q r = cc

-- the bytes of a line's field are those of the line in it
line-front : (bs : List ℕ) → Bytes bs → 21 ≤ length bs → get_or bs 0 0 ≡ 1 → size_of bs ≡ 18 → bs ≡ line_bytes (line_in (content_of bs)) ++ drop 21 bs
line-front bs b h t s =
    let hi : get_or bs 1 0 ≡ 0 = omega (arith, b 1, b 2) in
    let lo : get_or bs 2 0 ≡ 18 = omega (arith, b 1, b 2) in
    let content =
    quad32 (get_or bs 3 0) (get_or bs 4 0) (get_or bs 5 0) (get_or bs 6 0) _ _ (b 3) (b 4) (b 5) (b 6)
    (pair16 (get_or bs 7 0) (get_or bs 8 0) _ _ (b 7) (b 8)
    (pair16 (get_or bs 9 0) (get_or bs 10 0) _ _ (b 9) (b 10)
    (pair16 (get_or bs 11 0) (get_or bs 12 0) _ _ (b 11) (b 12)
    (pair16 (get_or bs 13 0) (get_or bs 14 0) _ _ (b 13) (b 14)
    (pair16 (get_or bs 15 0) (get_or bs 16 0) _ _ (b 15) (b 16)
    (pair16 (get_or bs 17 0) (get_or bs 18 0) _ _ (b 17) (b 18)
    (pair16 (get_or bs 19 0) (get_or bs 20 0) (drop 21 bs) (drop 21 bs) (b 19) (b 20) refl))))))) in
    front 0 21 bs h
    ∙ sym (ap (λ c. line_bytes (line_in c) ++ drop 21 bs) (content-each bs h s) ∙ ap (λ t. 1 ∷ 0 ∷ 18 ∷ t) content
    ∙ same_head 1 0 18 (get_or bs 0 0) (get_or bs 1 0) (get_or bs 2 0) (each 3 18 bs ++ drop 21 bs) t hi lo)

-- the bytes of an end
end-front : (bs : List ℕ) → Bytes bs → length bs ≡ 3 → get_or bs 0 0 ≡ 127 → size_of bs ≡ 0 → bs ≡ end_bytes
end-front bs b h t s =
    let hi : get_or bs 1 0 ≡ 0 = omega (arith, b 1, b 2) in
    let lo : get_or bs 2 0 ≡ 0 = omega (arith, b 1, b 2) in
    front 0 3 bs (omega arith)
    ∙ sym (same_head 127 0 0 (get_or bs 0 0) (get_or bs 1 0) (get_or bs 2 0) [] t hi lo ∙ ap (λ m. get_or bs 0 0 ∷ get_or bs 1 0 ∷ get_or bs 2 0 ∷ m) (sym (drop_all 3 bs (omega arith))))

bytes_drop : (n : ℕ) (bs : List ℕ) → Bytes bs → Bytes (drop n bs)
bytes_drop n bs b i = rw get_or-drop (b (n + i))

-- what was read behind the lines `before`: further lines, whose writing the bytes are
Behind : List Line → List ℕ → List Line → Type 0
Behind before bs ls = (rest : List Line) × (ls ≡ before ++ rest) × (bs ≡ written rest) × SheetLines ls

never : {X : Type 0} (ls : List Line) (f : SheetFault) → Err f ≡ Ok ls → X
never ls f e = let z : ◌≡◌ {A = ℕ} 0 1 = cc in absurd (omega arith)

-- one field, given what the fields behind it are
accepted-by : (fields : ℕ) (ls : List Line) (behind : (before : List Line) (bs : List ℕ) → Bytes bs → length before ≤ 8 → LineLimits before → read_on fields before bs ≡ Ok ls → Behind before bs ls)
    (before : List Line) (bs : List ℕ) (r : Result (Option Line) SheetFault) → Bytes bs → length before ≤ 8 → LineLimits before
    → entry_of (length before) (21 * length before) bs ≡ r → went fields before bs r ≡ Ok ls → Behind before bs ls
unfolding Behind
accepted-by fields ls behind before bs (Ok (Some l)) b few fit e w =
    let f = plan-facts (length before) (21 * length before) bs l e in
    let p = length_push before l in
    let k = behind (before ++ l ∷ []) (drop 21 bs) (bytes_drop 21 bs b) (omega arith) (limits-push before l fit (subst (λ x. line_fits x ≡ true) f.4 f.5)) w in
    (l ∷ k.0, k.1 ∙ append_assoc before (l ∷ []) k.0, line-front bs b f.1 f.2 f.3 ∙ ap (λ x. line_bytes x ++ drop 21 bs) f.4 ∙ ap (λ t. line_bytes l ++ t) k.2, k.3)
accepted-by fields ls behind before bs (Ok None) b few fit e w =
    let f = end-facts (length before) (21 * length before) bs e in
    let same : before ≡ ls = cc in
    ([], sym same ∙ sym (append-nil before), end-front bs b f.1 f.2 f.3, subst SheetLines same (f.0, few, fit))
accepted-by fields ls behind before bs (Err f) b few fit e w = never ls f w

accepted-on : (fields : ℕ) (ls before : List Line) (bs : List ℕ) → Bytes bs → length before ≤ 8 → LineLimits before
    → read_on fields before bs ≡ Ok ls → Behind before bs ls
unfolding read_on
accepted-on zero ls before bs b few fit e = never ls (NinthLine (21 * length before)) e
accepted-on (suc fields) ls before bs b few fit e =
    accepted-by fields ls (accepted-on fields ls) before bs (entry_of (length before) (21 * length before) bs) b few fit refl (sym (opened fields before bs) ∙ e)

accepted : (bs : List ℕ) (ls : List Line) → Bytes bs → read_of bs ≡ Ok ls → SheetLines ls × (bs ≡ written ls)
unfolding read_of Behind
accepted bs ls b e =
    let k = accepted-on 9 ls [] bs b (omega arith) (λ n h. absurd (omega arith)) e in
    (k.3, k.2 ∙ ap written (sym k.1))

-- bytes are read as lines exactly where they are the writing of a sheet's lines, and then as these
written-by : (bs : List ℕ) (r : Result (List Line) SheetFault) → Bytes bs → read_of bs ≡ r → IsWriting bs r
written-by bs (Ok ls) b e = accepted bs ls b e
written-by bs (Err f) b e = λ ls s w. never ls f (sym e ∙ ap read_of w ∙ reads-back ls s)

pub read-written : (bs : List ℕ) → Bytes bs → IsWriting bs (read_of bs)
read-written bs b = written-by bs (read_of bs) b refl
