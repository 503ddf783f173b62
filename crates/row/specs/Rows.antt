-- The row of an account, byte by byte, and the account of a row.
use Rattle.std.specs.Prelude.{ℕ, ◌+◌, ◌*◌, Bool, true, false, cond, ◌&&◌, List, [], ◌∷◌, ◌++◌, map, replicate, Ok, Err, Result, ◌==◌, slice_index}
use Rattle.std.proofs.Common.{of_z, to_z}
use Rattle.std.specs.Int.{w64}
use Rattle.std.specs.List.{range_with_len, flat_map}
use Rattle.common.specs.Outcomes.{chained}
use Rattle.facts.specs.declared.form.ProfileForm.{ProfileForm}
use Rattle.facts.specs.Numbers.{class_number, marks_number, kind_number}
use Rattle.account.specs.declared.fault.AccountFault.{AccountFault}
use Rattle.account.specs.declared.fault.AccountFault.TheVariants.{BrokenRow}
use Rattle.account.specs.declared.form.AccountForm.{AccountForm}
use Rattle.account.specs.States.{state_number}
use Rattle.account.specs.Registers.{twelve}
use Rattle.account.specs.Tenancy.{Tenancy}
use Rattle.account.specs.Forms.{account_made}
use Rattle.row.specs.Bytes.{be16, be32, be64, at16, at32, at64}

-- bytes 0 to 6: state, class, marks, power, exempt power
abbrev pub head_of : Tenancy → List ℕ
head_of t =
    state_number t.state ∷ class_number t.dwelling.class ∷ marks_number t.dwelling.marks
    ∷ (be16 t.dwelling.power ++ be16 t.dwelling.exempt)

-- then the six kinds (7), the next month (13), twelve indices (15), twelve waiting kWh (63), the balance in two's complement (111) and nine zeros (119)
unfoldable pub row_of : Tenancy → List ℕ
row_of t =
    head_of t
    ++ (map kind_number t.dwelling.kinds
    ++ (be16 t.next
    ++ (flat_map be32 t.indices ++ (flat_map be32 t.waiting ++ (be64 (of_z w64 t.balance) ++ replicate 9 0)))))

-- the numbers at these places
abbrev pub kind_numbers_at : List ℕ → List ℕ
kind_numbers_at row = map (λ i. slice_index row (7 + i)) (range_with_len 0 6)

abbrev pub profile_at : List ℕ → ProfileForm
profile_at row = record { class = slice_index row 1; marks = slice_index row 2; power = at16 row 3; exempt = at16 row 5; kinds = kind_numbers_at row }

abbrev pub words_at : List ℕ → ℕ → List ℕ
words_at row from = twelve (λ i. at32 row (from + 4 * i))

abbrev pub form_at : List ℕ → AccountForm
form_at row = record {
  state = slice_index row 0;
  profile = profile_at row;
  next = at16 row 13;
  indices = words_at row 15;
  waiting = words_at row 63;
  balance = to_z w64 (at64 row 111);
}

-- the same bytes
abbrev pub same_bytes : List ℕ → List ℕ → Bool
same_bytes [] [] = true
same_bytes [] (y ∷ ys) = false
same_bytes (x ∷ xs) [] = false
same_bytes (x ∷ xs) (y ∷ ys) = x == y && same_bytes xs ys

-- the account, if these bytes are its row
abbrev pub if_row : List ℕ → Tenancy → Result Tenancy AccountFault
if_row row t = cond (same_bytes (row_of t) row) (Ok t) (Err BrokenRow)

-- the account that has this row: the one that its numbers make, if these bytes are its row
unfoldable pub account_of : List ℕ → Result Tenancy AccountFault
account_of row = chained (account_made (form_at row)) (if_row row)
