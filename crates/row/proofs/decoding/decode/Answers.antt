use Rattle.std.proofs.Common.{◌≡◌, ℕ, true, false, eqb, List, Err, Result, sym, ap, ◌∙◌, subst, rules, arith}
use Rattle.std.proofs.lemmas.Bool.Decides.{nat_tests}
use Rattle.std.proofs.lemmas.Result.{err_from_is_err_and}
use lib.Pointwise.{pointwise}
use Rattle.facts.specs.Forms.{made}
use Rattle.account.specs.declared.fault.AccountFault.{AccountFault}
use Rattle.account.specs.Tenancy.{Tenancy, tenancy_of}
use Rattle.account.specs.Forms.{account_made}
use Rattle.row.specs.Rows.{row_of, form_at, same_bytes, account_of}
use Rattle.row.specs.Laws.{ReadFrom}
use Rattle.row.proofs.Comparing.{same-compared}
use Rattle.row.proofs.Inverse.{read-if, refused-if, fault-if, read-from}
use Rattle.row.proofs.decoding.decode.Goals as goal

-- the answer, and whose row the bytes are
both : (row : List ℕ) (r : Result Tenancy AccountFault) → r ≡ account_of row → record { value : r ≡ account_of row; whose : ReadFrom row r }
both row r e = record { value = e; whose = subst (ReadFrom row) (sym e) (read-from row) }

pub returns-in_err-account : goal.returns-in_err-account
unfolding account_of
returns-in_err-account c =
    let p = err_from_is_err_and c.from_residual.result c.from_residual.ensures.1 in
    let m = ap account_made (sym c.form_at.ensures) ∙ sym c.new.ensures ∙ ap (made tenancy_of) c.in_err-account.was in
    both c.args.row.now _ (ap (made tenancy_of) (p.1 ∙ ap Err p.2) ∙ sym (fault-if c.args.row.now (account_made (form_at c.args.row.now)) _ m))

pub returns-then-ne : goal.returns-then-ne
unfolding account_of
returns-then-ne c =
    let row = c.args.row.now in
    let t : Tenancy = tenancy_of c.in_ok-account.account in
    let p : pointwise eqb c.encode.result row ≡ false = grind (arith, nat_tests) in
    let f : same_bytes (row_of t) row ≡ false = sym (same-compared (row_of t) row) ∙ ap (λ xs. pointwise eqb xs row) (sym c.encode.ensures) ∙ p in
    both row _ (sym (refused-if row (account_made (form_at row)) t (ap account_made (sym c.form_at.ensures) ∙ sym c.in_ok-account.ensures) f))

pub returns : goal.returns
unfolding account_of
returns c =
    let row = c.args.row.now in
    let t : Tenancy = tenancy_of c.in_ok-account.account in
    let p : pointwise eqb c.encode.result row ≡ true = grind (arith, nat_tests) in
    let f : same_bytes (row_of t) row ≡ true = sym (same-compared (row_of t) row) ∙ ap (λ xs. pointwise eqb xs row) (sym c.encode.ensures) ∙ p in
    both row _ (sym (read-if row (account_made (form_at row)) t (ap account_made (sym c.form_at.ensures) ∙ sym c.in_ok-account.ensures) f))
