-- The limits of the lines of a sheet, one line more.
use Rattle.std.proofs.Common.{◌≡◌, true, List, [], ◌∷◌, ◌++◌, length, sym, refl, subst, arith, below_more}
use Rattle.std.proofs.lemmas.List.{get_or_append_left, get_or_at, length_push}
use Rattle.house.specs.declared.line.Line.{Line}
use Rattle.house.specs.Lines.{line_fits, no_line, line_at, LineLimits}

pub limits-push : (ls : List Line) (l : Line) → LineLimits ls → line_fits l ≡ true → LineLimits (ls ++ l ∷ [])
limits-push ls l all fits =
    λ n h. below_more (λ k. line_fits (line_at (ls ++ l ∷ []) k) ≡ true) (length ls)
    (λ k m. subst (λ x. line_fits x ≡ true) (sym (get_or_append_left ls (l ∷ []) no_line k m)) (all k m))
    (subst (λ x. line_fits x ≡ true) (sym (get_or_at ls l [] no_line (length ls) refl)) fits) n (omega (arith, length_push ls l))
