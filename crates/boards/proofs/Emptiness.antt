-- A new board has no row.
use Rattle.std.proofs.Common.{◌≡◌, ℕ, ◌<◌, ◌≤◌, Bool, true, false, get_or, None, Ok, Err, Option, Result, subst, ⊎_elim, arith}
use Rattle.std.proofs.lemmas.List.{get_or-replicate, get_or_past, length-replicate}
use Rattle.std.proofs.lemmas.Bool.{cases_lt}
use Rattle.board.specs.declared.fault.BoardFault.{BoardFault}
use Rattle.board.specs.Meaning.{BoardMeaning, Row, vacant, empty, row_at}
use Rattle.table.specs.Slots.{table_check}
use Rattle.journal.specs.Entries.{journal_check}
use Rattle.boards.specs.Makings.{board_made, table_made, journal_made}

none_in : (c n : ℕ) → get_or {A = Option Row} (vacant c) n None ≡ None
none_in c n =
    ⊎_elim (λ (h : n < c). get_or-replicate c n None None h) (λ (h : c ≤ n). get_or_past (vacant c) n None (simp length-replicate h)) (cases_lt n c)

none_made : (memory : Bool) (c l : ℕ) (check : Result (Unit {0}) BoardFault) (m : BoardMeaning Row) → board_made memory c l check ≡ Ok m → (n : ℕ) → row_at m n ≡ None
none_made true c l (Ok u) m h n =
    let e : empty c l ≡ m = cc in
    let P : BoardMeaning Row → Type 0 = λ x. row_at x n ≡ None in
    subst P e (none_in c n)
none_made false c l (Ok u) m h n = let z : ◌≡◌ {A = ℕ} 0 1 = cc in absurd (omega arith)
none_made memory c l (Err f) m h n = let z : ◌≡◌ {A = ℕ} 0 1 = cc in absurd (omega arith)

module _ (memory : Bool) (m : BoardMeaning Row) where
  pub new-table : (c len : ℕ) → table_made memory c len ≡ Ok m → (n : ℕ) → row_at m n ≡ None
  new-table c len h = none_made memory c c (table_check c len) m h

  pub new-journal : (c l len : ℕ) → journal_made memory c l len ≡ Ok m → (n : ℕ) → row_at m n ≡ None
  new-journal c l len h = none_made memory c l (journal_check c l len) m h
