use Rattle.std.proofs.Common.{◌≡◌, ℕ, ◌/◌, ◌%◌, ◌^◌, ◌<◌, Bool, true, get_or, sym, ap, ◌∙◌, subst, arith}
use Rattle.std.proofs.lemmas.Bool.Decides.{nat_tests}
use Rattle.common.specs.Counts.{all_to}
use Rattle.common.proofs.Counted.{all_to-more}
use Rattle.facts.specs.declared.kind.Kind.TheVariants.{Unused}
use Rattle.facts.specs.declared.facts.Facts.{Facts}
use Rattle.facts.specs.Usage.{usage_of}
use Rattle.decreeplan.specs.declared.plan.Base.{Base}
use Rattle.decreeplan.specs.declared.plan.Place.{Place}
use Rattle.decreeplan.specs.declared.plan.Place.TheVariants.{Main}
use Rattle.decreeplan.specs.Codes.{places_of, digit_place}
use Rattle.decree.specs.Permission.{may_stand}
use Rattle.decreeplan.proofs.Digits.{rest_more, get_or-places_of}
use Rattle.decree.proofs.Permitted.{stands_at, permitted-all, permitted-not}
use Rattle.decree.proofs.permission.permitted.Goals as goal

-- what was asked of circuit i
asked : (b : Base) (code : ℕ) (f : Facts) (rest i : ℕ) (p : Place) (r : Bool) → i < 6 → rest ≡ code / 3 ^ i → p ≡ digit_place (rest % 3)
    → r ≡ may_stand f.profile.marks b p (get_or f.profile.kinds i Unused) (get_or f.day i 0)
    → stands_at b (places_of code) (usage_of f) i ≡ r
asked b code f rest i p r h e q s =
    let w : get_or (places_of code) i Main ≡ p = get_or-places_of code i h ∙ ap (λ n. digit_place (n % 3)) (sym e) ∙ sym q in
    ap (λ x. may_stand f.profile.marks b x (get_or f.profile.kinds i Unused) (get_or f.day i 0)) w ∙ sym s

pub returns-then-not-may_stand : goal.returns-then-not-may_stand
returns-then-not-may_stand c =
    let s = asked c.args.base c.args.code c.args.facts.now c.loop-i.rest c.loop-i.i c.first-place.result c.may_stand.result (omega arith) c.loop-i.invariant.1 c.first-place.ensures c.may_stand.ensures in
    sym (permitted-not c.args.base (places_of c.args.code) (usage_of c.args.facts.now) c.loop-i.i (omega arith) (s ∙ c.if-not-may_stand.true))

pub loop-i-preserved : goal.loop-i-preserved
loop-i-preserved c =
    let s = asked c.args.base c.args.code c.args.facts.now c.loop-i.rest c.loop-i.i c.first-place.result c.may_stand.result (omega arith) c.loop-i.invariant.1 c.first-place.ensures c.may_stand.ensures in
    let t = s ∙ c.if-not-may_stand.false in
    let m = all_to-more (stands_at c.args.base (places_of c.args.code) (usage_of c.args.facts.now)) c.loop-i.i in (
      grind arith,
      ap (λ r. r / 3) c.loop-i.invariant.1 ∙ sym (rest_more c.args.code c.loop-i.i),
    )

all-stand : (b : Base) (code : ℕ) (f : Facts) (i : ℕ) → i ≡ 6 → all_to (stands_at b (places_of code) (usage_of f)) i ≡ true
    → all_to (stands_at b (places_of code) (usage_of f)) 6 ≡ true
all-stand b code f i e t = subst (λ n. all_to (stands_at b (places_of code) (usage_of f)) n ≡ true) e t

pub returns-in-Extended : goal.returns-in-Extended
returns-in-Extended c =
    let t = all-stand c.args.base c.args.code c.args.facts.now c.loop-i.i (omega arith) c.loop-i.invariant.0 in
    let p = permitted-all c.args.base (places_of c.args.code) (usage_of c.args.facts.now) t in
    grind (arith, nat_tests)

pub returns-in-Normal : goal.returns-in-Normal
returns-in-Normal c =
    let t = all-stand c.args.base c.args.code c.args.facts.now c.loop-i.i (omega arith) c.loop-i.invariant.0 in
    let p = permitted-all c.args.base (places_of c.args.code) (usage_of c.args.facts.now) t in
    grind (arith, nat_tests)
