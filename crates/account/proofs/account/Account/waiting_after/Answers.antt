use Rattle.std.proofs.Common.{◌≡◌, ℕ, ◌<◌, ◌≤◌, true, false, length, get_or, Some, ap, ◌∙◌, subst, arith, length-set, rules}
use Rattle.std.proofs.lemmas.Bool.Decides.{nat_tests}
use Rattle.std.proofs.lemmas.List.Edits.{fill_by_more}
use Rattle.std.proofs.lemmas.List.FromFn.{fill_by_all}
use Rattle.common.specs.Counts.{all_to}
use Rattle.common.proofs.Counted.{all_to-more, all_to-not, all_to-at}
use Rattle.facts.specs.Limits.{kwh_fits}
use Rattle.account.specs.Registers.{kind_of, register_size}
use Rattle.account.specs.Tenancy.{Tenancy, tenancy_of}
use Rattle.account.specs.Steps.{joined, join_fits}
use Rattle.account.proofs.Kwh.{kwh-most, waits-within, joined-within}
use Rattle.account.proofs.account.Account.waiting_after.Goals as goal

pub joined-kwh-requires : goal.joined-kwh-requires
joined-kwh-requires c =
    let a = c.args.self.now in
    let i : ℕ = c.loop-i.i in
    let w : get_or a.waiting i 0 ≤ 100000 = kwh-most (kind_of a.profile.kinds i) (get_or a.waiting i 0) (waits-within a.state a.profile.kinds a.waiting i (a.unsettled i (omega arith))) in
    search rules

pub returns-then-kwh-gt-MOST_KWH : goal.returns-then-kwh-gt-MOST_KWH
returns-then-kwh-gt-MOST_KWH c =
    let t : Tenancy = tenancy_of c.args.self.now in
    let s = c.register_size-size.ensures.value in
    let k = ap register_size c.kind_of.ensures in
    let d : c.joined-kwh.result ≡ joined t c.args.indices.now c.loop-i.i = cc in
    let f : join_fits t c.args.indices.now c.loop-i.i ≡ false = grind (arith, nat_tests) in
    record { value = rw (all_to-not (join_fits t c.args.indices.now) 12 c.loop-i.i (omega arith) f); limits = tt }

pub loop-i-preserved : goal.loop-i-preserved
loop-i-preserved c =
    let t : Tenancy = tenancy_of c.args.self.now in
    let h : c.loop-i.i < length c.loop-i.waiting = omega arith in
    let s = c.register_size-size.ensures.value in
    let k = ap register_size c.kind_of.ensures in
    let d : c.joined-kwh.result ≡ joined t c.args.indices.now c.loop-i.i = cc in
    let f : join_fits t c.args.indices.now c.loop-i.i ≡ true = grind (arith, nat_tests) in
    let m = all_to-more (join_fits t c.args.indices.now) c.loop-i.i in (
      simp length-set c.loop-i.invariant.0,
      simp d (fill_by_more (joined t c.args.indices.now) c.loop-i.waiting c.loop-i.i 0 h c.loop-i.invariant.1),
      grind arith,
    )

pub returns : goal.returns
returns c =
    let a = c.args.self.now in
    let t : Tenancy = tenancy_of a in
    let new = c.args.indices.now in
    let e : c.loop-i.i ≡ 12 = omega arith in
    let all : all_to (join_fits t new) 12 ≡ true = subst (λ n. all_to (join_fits t new) n ≡ true) e c.loop-i.invariant.2 in
    let at : (k : ℕ) → k < 12 → get_or c.loop-i.waiting k 0 ≡ joined t new k = λ k h. c.loop-i.invariant.1 k (omega arith) in
    let o = fill_by_all (joined t new) c.loop-i.waiting 12 0 c.loop-i.invariant.0 at in
    record {
      value = rw all (ap Some o);
      limits = λ i h. ap (kwh_fits (kind_of a.profile.kinds i)) (at i h) ∙ joined-within t new i (a.unsettled i h) (all_to-at (join_fits t new) 12 all i h);
    }
