use Rattle.std.proofs.Common.{rules, ◌≡◌, ℕ, refl, true, false, cond, List, ltb, length, Some, None, IfSome, sym, subst, arith}
use Rattle.std.proofs.lemmas.Bool.Decides.{nat_tests}
use Rattle.house.specs.declared.line.Line.{Line}
use Rattle.house.specs.Lines.{line_fits, line_at, LineLimits}
use Rattle.house.specs.Tariffs.{line_of_code}
use Rattle.house.specs.Houses.{lines_of}
use Rattle.house.proofs.house.House.line.Goals as goal

-- each line of a code is within its limits
fits : (ls : List Line) (code : ℕ) → LineLimits ls → IfSome (line_of_code ls code) (λ l. line_fits l ≡ true)
fits ls code h =
    elim (ltb code (length ls)) as (λ b. (b ≡ true → line_fits (line_at ls code) ≡ true) → IfSome (cond b (Some (line_at ls code)) None) (λ l. line_fits l ≡ true))
    [ true ↦ (λ w. w refl) | false ↦ (λ w. tt) ] (λ t. h code (grind (arith, nat_tests)))

pub returns-clause-limits : goal.returns-clause-limits
returns-clause-limits c =
    let ls = lines_of c.args.self.now in
    let v : c.copied.result ≡ line_of_code ls c.args.code = search rules in
    subst (λ o. IfSome o (λ l. line_fits l ≡ true)) (sym v) (fits ls c.args.code c.args.self.now.limits)
