-- When there is room for a row, and when there is nothing to clear.
use Rattle.std.proofs.Common.{◌≡◌, ℕ, ◌+◌, ◌<◌, ◌≤◌, false, not, leb, List, length, get_or, set, is_some, Some, None, Option, sym, refl, ap, ◌∙◌, arith}
use Rattle.std.proofs.lemmas.List.{set-get_or}
use Rattle.std.proofs.lemmas.Bool.{leb-false, lt-leb, and_right}
use Rattle.board.specs.Meaning.{holding, full, with_row, one, standing}
use Rattle.board.proofs.Standing.{standing-lt, none_from}

module _ {X : Type 0} (c l : ℕ) (rs : List (Option X)) (n : ℕ) where
  -- where as many rows may stand as there are numbers, no call finds the board full
  pub never-full : n < length rs → length rs ≤ l → full (holding c l rs) n ≡ false
  never-full within most =
      let by : (r : Option X) → get_or rs n None ≡ r → full (holding c l rs) n ≡ false = λ r. elim r as (λ v. get_or rs n None ≡ v → full (holding c l rs) n ≡ false) [
        | None ↦ λ e. and_right (not (is_some (get_or rs n None))) (leb l (standing rs)) (lt-leb l (standing rs) (omega (arith, standing-lt rs n within e)))
        | Some row ↦ λ e. rw e refl
      ] in
      by (get_or rs n None) refl

  -- where there is room, one row more is within the limit
  pub not_full : full (holding c l rs) n ≡ false → standing rs ≤ l → standing rs + 1 ≤ l + one (get_or rs n None)
  not_full f h =
      let by : (r : Option X) → get_or rs n None ≡ r → standing rs + 1 ≤ l + one (get_or rs n None) = λ r. elim r as (λ v. get_or rs n None ≡ v → standing rs + 1 ≤ l + one (get_or rs n None)) [
        | None ↦ λ e.
            let g : leb l (standing rs) ≡ false = rw e at f in
            omega (arith, leb-false l (standing rs) g)
        | Some row ↦ λ e. let o : one (get_or rs n None) ≡ 1 = ap one e in omega arith
      ] in
      by (get_or rs n None) refl

  -- clearing where no row stands leaves the board
  pub nothing-to-clear : is_some (get_or rs n None) ≡ false → holding c l rs ≡ with_row (holding c l rs) n None
  nothing-to-clear e = ap (holding c l) (sym (ap (set rs n) (sym (none_from (get_or rs n None) e)) ∙ set-get_or rs n None))
