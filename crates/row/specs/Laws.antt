-- Accounts and rows: each account has one row, and each row that is read is one account's.
use Rattle.std.specs.Prelude.{◌≡◌, ℕ, List, Ok, Err, Result, ◌≢◌}
use Rattle.account.specs.declared.fault.AccountFault.{AccountFault}
use Rattle.account.specs.declared.fault.AccountFault.TheVariants.{BrokenRow}
use Rattle.account.specs.Tenancy.{Tenancy}
use Rattle.account.specs.Kept.{Kept}
use Rattle.row.specs.Rows.{row_of, account_of}

-- what is read from these bytes: the account whose row they are, or 17 where they are no account's row
abbrev pub ReadFrom : List ℕ → Result Tenancy AccountFault → Type 0
ReadFrom row (Ok t) = Kept t × (row_of t ≡ row)
ReadFrom row (Err e) = (e ≡ BrokenRow) × ((t : Tenancy) → Kept t → row_of t ≢ row)

abbrev pub Rows-are-read : Type 0
Rows-are-read = (row : List ℕ) → ReadFrom row (account_of row)

-- an account written and read again is the same account
abbrev pub Accounts-come-back : Type 0
Accounts-come-back = (t : Tenancy) → Kept t → account_of (row_of t) ≡ Ok t

-- two accounts never have one row
abbrev pub Rows-tell-apart : Type 0
Rows-tell-apart = (t u : Tenancy) → Kept t → Kept u → row_of t ≡ row_of u → t ≡ u
