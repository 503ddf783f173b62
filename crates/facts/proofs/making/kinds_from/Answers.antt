use Rattle.std.proofs.Common.{rules, ◌≡◌, ℕ, ◌<◌, List, length, get_or, is_some, Some, None, Ok, Err, Option, Result, IfOk, ap, sym, subst, ◌∙◌, arith}
use Rattle.std.specs.Result.{result_ok, IfErr}
use Rattle.std.specs.Option.{unwrap_or}
use Rattle.std.proofs.lemmas.List.{get_or_default}
use Rattle.std.proofs.lemmas.List.FromFn.{fill_by_all}
use Rattle.std.proofs.lemmas.Result.{IfOk-weaker, IfErr-weaker}
use Rattle.common.specs.declared.UnknownNumber.{UnknownNumber}
use Rattle.common.specs.Numbering.{found_at}
use Rattle.common.proofs.Counted.{all_to-from, all_to-not}
use Rattle.facts.specs.declared.kind.Kind.{Kind}
use Rattle.facts.specs.declared.kind.Kind.TheVariants.{Unused}
use Rattle.facts.specs.Numbers.{kind_at}
use Rattle.facts.specs.Forms.{kinds_at, kind_known, kind_read}
use Rattle.facts.proofs.making.kinds_from.Goals as goal

found : (n : ℕ) (o : Option Kind) (k : Kind) → Ok k ≡ found_at n o → o ≡ Some k
found n (Some x) k e = cc
found n None k e = cc

missed : (n : ℕ) (o : Option Kind) (f : UnknownNumber) → Err f ≡ found_at n o → o ≡ None
missed n (Some x) f e = cc
missed n None f e = cc

-- what each number stands for, or one that stands for nothing
made : (numbers : List ℕ) (r : Result (List Kind) UnknownNumber) → length numbers ≡ 6
    → IfOk r (λ ys. (length ys ≡ 6) × ((i : ℕ) → i < 6 → kind_at (get_or numbers i 0) ≡ Some (get_or ys i Unused)))
    → IfErr r (λ e. (i : ℕ) × (i < 6) × (kind_at (get_or numbers i 0) ≡ None))
    → result_ok r ≡ kinds_at numbers
made numbers (Ok ys) n h e =
    let t = all_to-from (kind_known numbers) 6 (λ i l. ap is_some (h.1 i l)) in
    let o = fill_by_all (kind_read numbers) ys 6 Unused h.0 (λ i l. sym (ap (λ o. unwrap_or o Unused) (h.1 i l))) in
    rw t (ap Some o)
made numbers (Err f) n h e = rw (all_to-not (kind_known numbers) 6 e.0 e.1 (ap is_some e.2))

pub returns : goal.returns
returns c =
    let numbers = c.args.numbers in
    let ok : IfOk c.try_map.result (λ ys. (length ys ≡ 6) × ((i : ℕ) → i < 6 → kind_at (get_or numbers i 0) ≡ Some (get_or ys i Unused)))
    = IfOk-weaker c.try_map.result _ _ (λ ys h. (
      h.long,
      λ i l.
          let a = h.at i 0 Unused l in
          let w : Ok (get_or ys i Unused) ≡ found_at (get_or numbers i 0) (kind_at (get_or numbers i 0)) = search rules in
          found _ _ _ w,
    )) c.try_map.ensures.ok in
    let err : IfErr c.try_map.result (λ e. (i : ℕ) × (i < 6) × (kind_at (get_or numbers i 0) ≡ None))
    = IfErr-weaker c.try_map.result _ _ (λ f h.
    let (x, among, p, q, s) = h in
    let w : Err f ≡ found_at x (kind_at x) = search rules in
    let e : x ≡ get_or numbers among.0 0 = among.1.1 ∙ get_or_default numbers among.0 x 0 among.1.0 in
    (among.0, omega arith, subst (λ n. kind_at n ≡ None) e (missed x (kind_at x) f w))) c.try_map.ensures.err in
    made numbers c.try_map.result (omega arith) ok err
