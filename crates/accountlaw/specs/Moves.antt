-- What a reading, a settlement and a payment move, and that they move nothing else.
use Rattle.std.specs.Prelude.{◌≡◌, ℕ, ◌+◌, ◌<◌, ◌≤◌, List, pos, ◌+ℤ◌, Ok, slice_index}
use Rattle.account.specs.declared.state.State.TheVariants.{Running, Ready}
use Rattle.account.specs.Registers.{register_size, kind_of}
use Rattle.account.specs.Tenancy.{Tenancy}
use Rattle.account.specs.Steps.{counted, read_to, settled, paid}

-- u is t after a reading of these indices
pub record Read (new : List ℕ) (t u : Tenancy) : Type 0 where
  pub state : u.state ≡ Ready
  pub dwelling : u.dwelling ≡ t.dwelling
  pub next : u.next ≡ t.next
  pub balance : u.balance ≡ t.balance
  -- each register can show its index, and is at it then
  pub fit : (i : ℕ) → i < 12 → slice_index new i < register_size (kind_of t.dwelling.kinds i)
  pub indices : (i : ℕ) → i < 12 → slice_index u.indices i ≡ slice_index new i
  -- what it counted joins what waits in it, and that stays within 100,000
  pub waiting : (i : ℕ) → i < 12 → slice_index u.waiting i ≡ slice_index t.waiting i + counted t new i
  pub most : (i : ℕ) → i < 12 → slice_index u.waiting i ≤ 100000

abbrev pub Readings-join : Type 0
Readings-join = (new : List ℕ) (t u : Tenancy) → read_to new t ≡ Ok u → Read new t u

-- u is t after a settlement up to month e of so many cents
pub record Settled (e cents : ℕ) (t u : Tenancy) : Type 0 where
  pub was : t.state ≡ Ready
  pub state : u.state ≡ Running
  pub dwelling : u.dwelling ≡ t.dwelling
  pub indices : u.indices ≡ t.indices
  -- 1 to 12 months from the next one on
  pub period : (t.next ≤ e) × (e < t.next + 12)
  pub next : u.next ≡ e + 1
  pub waiting : (i : ℕ) → i < 12 → slice_index u.waiting i ≡ 0
  pub balance : u.balance ≡ t.balance +ℤ pos cents

abbrev pub Settlements-book : Type 0
Settlements-book = (e cents : ℕ) (t u : Tenancy) → settled e cents t ≡ Ok u → Settled e cents t u

-- u is t after a payment of so many cents
pub record Paid (cents : ℕ) (t u : Tenancy) : Type 0 where
  pub state : u.state ≡ t.state
  pub dwelling : u.dwelling ≡ t.dwelling
  pub next : u.next ≡ t.next
  pub indices : u.indices ≡ t.indices
  pub waiting : u.waiting ≡ t.waiting
  pub amount : (1 ≤ cents) × (cents ≤ 1000000000)
  pub balance : u.balance +ℤ pos cents ≡ t.balance

abbrev pub Payments-lower : Type 0
Payments-lower = (cents : ℕ) (t u : Tenancy) → paid cents t ≡ Ok u → Paid cents t u
