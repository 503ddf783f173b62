-- What is answered of bytes that may be an account's row.
use Rattle.std.specs.Prelude.{◌≡◌, ℕ, cond, List, length, Ok, Err, Result, ◌==◌}
use Rattle.account.specs.declared.fault.AccountFault.{AccountFault}
use Rattle.account.specs.Tenancy.{Tenancy}
use Rattle.account.specs.Kept.{Kept}
use Rattle.row.specs.Rows.{row_of, account_of}

abbrev pub read_status : Result Tenancy AccountFault → ℕ
read_status (Ok account) = 0
read_status (Err fault) = 17

-- 0 for the row of an account, 17 for all other bytes
abbrev pub row_status : List ℕ → ℕ
row_status bytes = cond (length bytes == 128) (read_status (account_of bytes)) 17

-- 0 says that the bytes are some account's row, and is said of every account's row
abbrev pub TellsRow : List ℕ → ℕ → Type 0
TellsRow bytes status =
    (status ≡ 0 → (t : Tenancy) × Kept t × (row_of t ≡ bytes)) × ((t : Tenancy) → Kept t → row_of t ≡ bytes → status ≡ 0)
