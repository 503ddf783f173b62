use Rattle.std.proofs.Common.{ℕ, ◌*◌, ◌≤◌, length, vec_items, refl, ap, ◌∙◌, arith}
use Rattle.blocks.specs.Blocks.{block}
use Rattle.journal.specs.declared.entries.Entries.{Entries}
use Rattle.journal.specs.Entries.{latest_number}
use Rattle.journal.proofs.Sweeping.{sweeping-none, sweeping-all, turn-latest, turn-stale}
use Rattle.journal.proofs.entries.Entries.drop_stale.Goals as goal
use Rattle.journal.proofs.entries.Entries.drop_stale.Goals.{in-Some, in_default}

pub loop-place-init : goal.loop-place-init
loop-place-init c =
    let b = c.args.self.now in
    (refl, refl, sweeping-none b.capacity c.args.used (vec_items b.blocks.memory) b.latest (omega (arith, b.few)) c.requires.index)

pub loop-place-preserved : goal.loop-place-preserved
loop-place-preserved c =
    let b = c.args.self.now in
    let s = c.loop-place.self in
    let was = c.loop-place.invariant in
    let bytes = vec_items b.blocks.memory in
    let held = vec_items s.blocks.memory in
    let place : ℕ = c.loop-place.place in
    let fits : 131 * c.args.used ≤ length bytes = omega (arith, c.requires.within, b.blocks.fits, b.blocks.memory.ok.0) in
    let number-is = ap (λ n. latest_number n s.latest (block 131 place held) place) was.0 in
    let turn = c.match-latest_number in
    elim turn.branch [
      | in-Some w ↦
          let kept = w.keep_latest-next.ensures in (
            ap (λ (e : Entries). e.capacity) w.self-is ∙ kept.capacity ∙ was.0,
            ap (λ (e : Entries). e.blocks.count) w.self-is ∙ kept.places ∙ was.1,
            turn-latest b.capacity c.args.used bytes held s.latest c.loop-place.next place fits c.loop-place-test.true was.2
                (vec_items turn.self.blocks.memory) turn.self.latest turn.next w.in-Some.number (w.in-Some.ensures.value ∙ number-is)
                (ap (λ (e : Entries). vec_items e.blocks.memory) w.self-is ∙ kept.items) (ap (λ (e : Entries). e.latest) w.self-is ∙ kept.index) (w.next-is ∙ kept.count),
          )
      | in_default w ↦ (
        ap (λ (e : Entries). e.capacity) w.self-is ∙ was.0,
        ap (λ (e : Entries). e.blocks.count) w.self-is ∙ was.1,
        turn-stale b.capacity c.args.used bytes held s.latest c.loop-place.next place fits c.loop-place-test.true was.2
            (vec_items turn.self.blocks.memory) turn.self.latest turn.next (w.in_default.ensures.value ∙ number-is)
            (ap (λ (e : Entries). vec_items e.blocks.memory) w.self-is) (ap (λ (e : Entries). e.latest) w.self-is) w.next-is,
      )
    ]

pub returns : goal.returns
returns c =
    let b = c.args.self.now in
    let s = c.loop-place.self in
    let was = c.loop-place.invariant in
    let all = sweeping-all b.capacity c.args.used (vec_items b.blocks.memory) (vec_items s.blocks.memory) s.latest c.loop-place.next c.loop-place.place was.2 c.loop-place-test.false in
    record {
      same = all.0;
      count = all.1;
      index = all.2;
      bound = omega (arith, was.2.behind);
      capacity = was.0;
      places = was.1;
    }
