-- Readings, settlements and payments move what they name.
use Rattle.std.proofs.Common.{◌≡◌, ℕ, ◌+◌, ◌<◌, ◌≤◌, true, List, get_or, ℤ, pos, ◌+ℤ◌, ◌-ℤ◌, sym, refl, ap, ◌∙◌, subst, arith}
use Rattle.std.proofs.lemmas.List.FromFn.{get_or-map-range_with_len}
use Rattle.std.proofs.lemmas.List.{get_or-replicate}
use Rattle.std.proofs.lemmas.Int.{ints}
use Rattle.std.proofs.lemmas.Bool.Decides.{nat_tests}
use Rattle.common.specs.Counts.{all_to}
use Rattle.common.proofs.Counted.{all_to-at}
use Rattle.common.proofs.Outcomes.{some-if}
use Rattle.account.specs.declared.figure.Figure.TheVariants.{Index}
use Rattle.account.specs.Registers.{register_size, kind_of, difference, register_fits, twelve}
use Rattle.account.specs.Tenancy.{Tenancy}
use Rattle.account.specs.Steps.{joined, join_fits}
use Rattle.accountlaw.specs.Moves.{Read, Settled, Paid, Readings-join, Settlements-book, Payments-lower}
use Rattle.accountlaw.proofs.Accepted.{Taken, reading-accepted, settlement-accepted, payment-accepted}

most-of : (t : Tenancy) (xs : List ℕ) (i : ℕ) → join_fits t xs i ≡ true → joined t xs i ≤ 100000
most-of t xs i h = grind (arith, nat_tests)

module _ (new : List ℕ) (t u : Tenancy) (a : Taken new t u) where
  at-index : (i : ℕ) → i < 12 → get_or u.indices i 0 ≡ get_or new i 0
  at-index i b =
      let p = some-if (all_to (register_fits Index t.dwelling.kinds new) 12) (twelve (λ j. get_or new j 0)) u.indices a.shown in
      ap (λ xs. get_or xs i 0) (sym p.1) ∙ get_or-map-range_with_len (λ j. get_or new j 0) 0 12 i i 0 b (omega arith)

  can-show : (i : ℕ) → i < 12 → get_or new i 0 < register_size (kind_of t.dwelling.kinds i)
  can-show i b =
      let p = some-if (all_to (register_fits Index t.dwelling.kinds new) 12) (twelve (λ j. get_or new j 0)) u.indices a.shown in
      let f = all_to-at (register_fits Index t.dwelling.kinds new) 12 p.0 i b in
      grind (arith, nat_tests)

  waits : (i : ℕ) → i < 12 → get_or u.waiting i 0 ≡ joined t u.indices i
  waits i b = ap (λ xs. get_or xs i 0) a.waiting ∙ get_or-map-range_with_len (joined t u.indices) 0 12 i i 0 b (omega arith)

  reading-moves : Read new t u
  reading-moves = record {
    state = a.state;
    dwelling = a.dwelling;
    next = a.next;
    balance = a.balance;
    fit = can-show;
    indices = at-index;
    waiting = λ i b. waits i b ∙ ap (λ x. get_or t.waiting i 0 + difference (register_size (kind_of t.dwelling.kinds i)) (get_or t.indices i 0) x) (at-index i b);
    most = λ i b. subst (λ x. x ≤ 100000) (sym (waits i b)) (most-of t u.indices i (all_to-at (join_fits t u.indices) 12 a.fit i b));
  }

pub readings-join : Readings-join
readings-join new t u h = reading-moves new t u (reading-accepted new t u h)

pub settlements-book : Settlements-book
settlements-book e cents t u h =
    let a = settlement-accepted e cents t u h in
    subst (Settled e cents t) (sym a.is)
    (record { was = a.was; state = refl; dwelling = refl; indices = refl; period = a.period; next = refl; waiting = λ i b. get_or-replicate 12 i 0 0 b; balance = refl })

less-and-more : (b : ℤ) (n : ℕ) → (b -ℤ pos n) +ℤ pos n ≡ b
less-and-more b n = omega (arith, ints)

pub payments-lower : Payments-lower
payments-lower cents t u h =
    let a = payment-accepted cents t u h in
    subst (Paid cents t) (sym a.is)
    (record { state = refl; dwelling = refl; next = refl; indices = refl; waiting = refl; amount = a.amount; balance = less-and-more t.balance cents })
