-- Writing and reading a row undo each other.
use Rattle.std.proofs.Common.{◌≡◌, ℕ, true, false, cond, List, Ok, Err, Result, sym, refl, ap, ◌∙◌}
use Rattle.common.specs.Outcomes.{chained}
use Rattle.common.proofs.Outcomes.{err-not-ok, ok-if, chained-ok}
use Rattle.account.specs.declared.fault.AccountFault.{AccountFault}
use Rattle.account.specs.declared.fault.AccountFault.TheVariants.{BrokenRow}
use Rattle.account.specs.Tenancy.{Tenancy}
use Rattle.account.specs.Kept.{Kept}
use Rattle.account.specs.Forms.{account_made}
use Rattle.account.proofs.Remaking.{account-remade}
use Rattle.account.proofs.Keeping.{account-keeps, account-broken}
use Rattle.row.specs.Rows.{row_of, form_at, same_bytes, if_row, account_of}
use Rattle.row.specs.Laws.{ReadFrom}
use Rattle.row.proofs.Places.{form-back}
use Rattle.row.proofs.Comparing.{same_refl, same-is}

-- an account whose numbers a row has is read from it
pub read-if : (row : List ℕ) (r : Result Tenancy AccountFault) (t : Tenancy) → r ≡ Ok t → same_bytes (row_of t) row ≡ true → chained r (if_row row) ≡ Ok t
read-if row r t e s = rw (e, s)

pub refused-if : (row : List ℕ) (r : Result Tenancy AccountFault) (t : Tenancy) → r ≡ Ok t → same_bytes (row_of t) row ≡ false → chained r (if_row row) ≡ Err BrokenRow
refused-if row r t e s = rw (e, s)

pub fault-if : (row : List ℕ) (r : Result Tenancy AccountFault) (e : AccountFault) → r ≡ Err e → chained r (if_row row) ≡ Err e
fault-if row r e h = rw h

pub read_back : (t : Tenancy) → Kept t → account_of (row_of t) ≡ Ok t
unfolding account_of
read_back t k = read-if (row_of t) (account_made (form_at (row_of t))) t (ap account_made (form-back t k) ∙ account-remade t k) (same_refl (row_of t))

pub written_back : (row : List ℕ) (t : Tenancy) → account_of row ≡ Ok t → Kept t × (row_of t ≡ row)
unfolding account_of
written_back row t h =
    let p = chained-ok (account_made (form_at row)) (if_row row) t h in
    let q = ok-if (same_bytes (row_of p.0) row) (Ok p.0) BrokenRow t p.2 in
    let e : p.0 ≡ t = let z = q.1 in cc in
    (account-keeps (form_at row) t (p.1 ∙ ap Ok e), sym (ap row_of e) ∙ same-is (row_of p.0) row q.0)

only-broken : (row : List ℕ) (r : Result Tenancy AccountFault) (e : AccountFault) → ((d : AccountFault) → r ≡ Err d → d ≡ BrokenRow) → chained r (if_row row) ≡ Err e → e ≡ BrokenRow
only-broken row (Err d) e b h = let q = b d refl in cc
only-broken row (Ok t) e b h =
    elim (same_bytes (row_of t) row) as (λ s. cond s (Ok t) (Err BrokenRow) ≡ Err e → e ≡ BrokenRow) [ true ↦ (λ z. cc) | false ↦ (λ z. cc) ] h

read-from-as : (row : List ℕ) (r : Result Tenancy AccountFault) → account_of row ≡ r → ReadFrom row r
unfolding account_of
read-from-as row (Ok t) h = written_back row t h
read-from-as row (Err e) h =
    (only-broken row (account_made (form_at row)) e (account-broken (form_at row)) h, λ t k w. err-not-ok e t (sym h ∙ ap account_of (sym w) ∙ read_back t k))

pub read-from : (row : List ℕ) → ReadFrom row (account_of row)
read-from row = read-from-as row (account_of row) refl

pub told-apart : (t u : Tenancy) → Kept t → Kept u → row_of t ≡ row_of u → t ≡ u
told-apart t u k l h =
    let a = read_back t k in
    let b = ap account_of h ∙ read_back u l in
    cc
