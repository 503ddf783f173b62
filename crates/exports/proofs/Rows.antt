-- The status of bytes tells whether they are an account's row.
use Rattle.std.proofs.Common.{◌≡◌, ℕ, ◌*◌, Bool, true, false, cond, eqb, List, [], ◌∷◌, length, Ok, Err, Result, sym, refl, ap, ◌∙◌, arith, length-append}
use lib.ListN.{length-map}
use Rattle.std.specs.List.{flat_map}
use Rattle.account.specs.declared.fault.AccountFault.{AccountFault}
use Rattle.account.specs.Tenancy.{Tenancy}
use Rattle.account.specs.Kept.{Kept}
use Rattle.row.specs.Bytes.{be32}
use Rattle.row.specs.Rows.{row_of, account_of}
use Rattle.row.specs.Laws.{ReadFrom}
use Rattle.row.proofs.Inverse.{read-from}
use Rattle.exports.specs.Rows.{read_status, row_status, TellsRow}

four-each : (xs : List ℕ) → length (flat_map be32 xs) ≡ 4 * length xs
four-each [] = refl
four-each (x ∷ xs) = omega (arith, four-each xs)

row-length : (t : Tenancy) → Kept t → length (row_of t) ≡ 128
unfolding row_of
row-length t k = simp (length-append, length-map) (omega (arith, four-each t.indices, four-each t.waiting))

tells_as : (bytes : List ℕ) (whole : Bool) (r : Result Tenancy AccountFault) → eqb (length bytes) 128 ≡ whole → ReadFrom bytes r → TellsRow bytes (cond whole (read_status r) 17)
tells_as bytes true (Ok t) e h = (λ z. (t, h.0, h.1), λ u k w. refl)
tells_as bytes true (Err f) e h = (λ z. absurd (omega arith), λ u k w. absurd (h.1 u k w))
tells_as bytes false r e h =
    (λ z. absurd (omega arith), λ u k w. let n : eqb (length bytes) 128 ≡ true = ap (λ n. eqb n 128) (sym (ap length w) ∙ row-length u k) in cc)

pub tells : (bytes : List ℕ) → TellsRow bytes (row_status bytes)
tells bytes = tells_as bytes (eqb (length bytes) 128) (account_of bytes) refl (read-from bytes)
