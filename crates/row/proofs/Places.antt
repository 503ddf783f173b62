-- The numbers at the places of an account's row are the account's.
use Rattle.std.proofs.Common.{◌≡◌, ℕ, ◌+◌, ◌*◌, ◌^◌, ◌<◌, ◌≤◌, true, List, [], ◌∷◌, ◌++◌, map, length, get_or, replicate, ℤ, pos, negsuc, sym, refl, ap, ◌∙◌, append_assoc, arith, w64, SFits, to_z, of_z}
use mir.ValLaws.{of_z_fits}
use Rattle.std.proofs.lemmas.List.{length-append, length-map, get_or_append_left}
use Rattle.std.proofs.lemmas.List.FromFn.{fill_by_all}
use Rattle.std.proofs.lemmas.Int.{to_z-of_z}
use Rattle.std.proofs.lemmas.Bool.Decides.{nat_tests}
use Rattle.std.specs.List.{flat_map}
use Rattle.facts.specs.declared.kind.Kind.{Kind}
use Rattle.facts.specs.declared.kind.Kind.TheVariants.{Unused, General, NightReserved, Interruptible}
use Rattle.facts.specs.Numbers.{kind_number}
use Rattle.account.specs.declared.figure.Figure.TheVariants.{Index}
use Rattle.account.specs.Registers.{register_size, kind_of, RegisterLimits}
use Rattle.account.specs.Balances.{balance_fits}
use Rattle.account.specs.Tenancy.{Tenancy}
use Rattle.account.specs.Kept.{Kept}
use Rattle.account.specs.Forms.{form_of}
use Rattle.account.proofs.Kwh.{kwh-most, waits-within}
use Rattle.row.specs.Bytes.{be16, be32, be64, at16, at32, at64}
use Rattle.row.specs.Rows.{head_of, row_of, kind_numbers_at, words_at, form_at}
use Rattle.row.proofs.Joining.{join16, join64, behind, behind32, word}

words_back : (pre xs t : List ℕ) (from : ℕ) → length pre ≡ from → length xs ≡ 12 → ((k : ℕ) → k < 12 → get_or xs k 0 < 2 ^ 32) → words_at (pre ++ (flat_map be32 xs ++ t)) from ≡ xs
words_back pre xs t from e n b =
    sym (fill_by_all (λ i. at32 (pre ++ (flat_map be32 xs ++ t)) (from + 4 * i)) xs 12 0 n
    (λ k h. sym (behind32 pre (flat_map be32 xs ++ t) (4 * k) (from + 4 * k) (omega arith) ∙ word xs t k (omega arith) (b k h))))

kinds-back : (pre : List ℕ) (ks : List Kind) (t : List ℕ) → length pre ≡ 7 → length ks ≡ 6 → kind_numbers_at (pre ++ (map kind_number ks ++ t)) ≡ map kind_number ks
kinds-back pre ks t e n =
    sym (fill_by_all (λ i. get_or (pre ++ (map kind_number ks ++ t)) (7 + i) 0) (map kind_number ks) 6 0 (length-map ks kind_number ∙ n)
    (λ k h. sym (behind pre (map kind_number ks ++ t) k (7 + k) (omega arith) ∙ get_or_append_left (map kind_number ks) t 0 k (omega (arith, length-map ks kind_number)))))

length-words : (xs : List ℕ) → length (flat_map be32 xs) ≡ 4 * length xs
length-words [] = refl
length-words (x ∷ xs) = let h = length-words xs in omega arith

size-most : (k : Kind) → register_size k ≤ 1000000
size-most Unused = omega arith
size-most General = omega arith
size-most NightReserved = omega arith
size-most Interruptible = omega arith

index_word : (kinds : List Kind) (xs : List ℕ) → RegisterLimits Index kinds xs → (i : ℕ) → i < 12 → get_or xs i 0 < 2 ^ 32
index_word kinds xs l i h = let s = size-most (kind_of kinds i) in let f = l i h in grind (arith, nat_tests)

balance-word : (b : ℤ) → balance_fits b ≡ true → SFits w64 b
balance-word (pos n) h = record { sfits = grind (arith, nat_tests) }
balance-word (negsuc n) h = record { sfits = grind (arith, nat_tests) }

module _ (t : Tenancy) (k : Kept t) where
  tail : List ℕ
  tail = be64 (of_z w64 t.balance) ++ replicate 9 0

  front13 : List ℕ
  front13 = head_of t ++ map kind_number t.dwelling.kinds

  front15 : List ℕ
  front15 = front13 ++ be16 t.next

  front63 : List ℕ
  front63 = front15 ++ flat_map be32 t.indices

  front111 : List ℕ
  front111 = front63 ++ flat_map be32 t.waiting

  length13 : length front13 ≡ 13
  unfolding front13
  length13 = omega (arith, length-map t.dwelling.kinds kind_number, k.profile.circuits)

  length15 : length front15 ≡ 15
  unfolding front15
  length15 = omega (arith, length-append front13 (be16 t.next), length13)

  length63 : length front63 ≡ 63
  unfolding front63
  length63 = omega (arith, length-append front15 (flat_map be32 t.indices), length15, length-words t.indices, k.indices)

  length111 : length front111 ≡ 111
  unfolding front111
  length111 = omega (arith, length-append front63 (flat_map be32 t.waiting), length63, length-words t.waiting, k.waiting)

  row13 : row_of t ≡ front13 ++ (be16 t.next ++ (flat_map be32 t.indices ++ (flat_map be32 t.waiting ++ tail)))
  unfolding row_of front13 tail
  row13 = sym (append_assoc (head_of t) (map kind_number t.dwelling.kinds) (be16 t.next ++ (flat_map be32 t.indices ++ (flat_map be32 t.waiting ++ tail))))

  row15 : row_of t ≡ front15 ++ (flat_map be32 t.indices ++ (flat_map be32 t.waiting ++ tail))
  unfolding front15
  row15 = row13 ∙ sym (append_assoc front13 (be16 t.next) (flat_map be32 t.indices ++ (flat_map be32 t.waiting ++ tail)))

  row63 : row_of t ≡ front63 ++ (flat_map be32 t.waiting ++ tail)
  unfolding front63
  row63 = row15 ∙ sym (append_assoc front15 (flat_map be32 t.indices) (flat_map be32 t.waiting ++ tail))

  row111 : row_of t ≡ front111 ++ tail
  unfolding front111
  row111 = row63 ∙ sym (append_assoc front63 (flat_map be32 t.waiting) tail)

  kinds-are : kind_numbers_at (row_of t) ≡ map kind_number t.dwelling.kinds
  unfolding row_of
  kinds-are = kinds-back (head_of t) t.dwelling.kinds (be16 t.next ++ (flat_map be32 t.indices ++ (flat_map be32 t.waiting ++ (be64 (of_z w64 t.balance) ++ replicate 9 0)))) refl k.profile.circuits

  next-is : at16 (row_of t) 13 ≡ t.next
  next-is =
      let rest : List ℕ = be16 t.next ++ (flat_map be32 t.indices ++ (flat_map be32 t.waiting ++ tail)) in
      let p : get_or (front13 ++ rest) 13 0 ≡ get_or rest 0 0 = behind front13 rest 0 13 (omega (arith, length13)) in
      let q : get_or (front13 ++ rest) 14 0 ≡ get_or rest 1 0 = behind front13 rest 1 14 (omega (arith, length13)) in
      ap (λ r. at16 r 13) row13 ∙ omega (arith, p, q, join16 t.next (omega (arith, k.month)))

  indices-are : words_at (row_of t) 15 ≡ t.indices
  indices-are = ap (λ r. words_at r 15) row15 ∙ words_back front15 t.indices (flat_map be32 t.waiting ++ tail) 15 length15 k.indices (index_word t.dwelling.kinds t.indices k.shown)

  waiting-word : (i : ℕ) → i < 12 → get_or t.waiting i 0 < 2 ^ 32
  waiting-word i h = omega (arith, kwh-most (kind_of t.dwelling.kinds i) (get_or t.waiting i 0) (waits-within t.state t.dwelling.kinds t.waiting i (k.unsettled i h)))

  waiting-is : words_at (row_of t) 63 ≡ t.waiting
  waiting-is = ap (λ r. words_at r 63) row63 ∙ words_back front63 t.waiting tail 63 length63 k.waiting waiting-word

  balance-is : to_z w64 (at64 (row_of t) 111) ≡ t.balance
  unfolding tail
  balance-is =
      let b : ℕ = of_z w64 t.balance in
      let f : SFits w64 t.balance = balance-word t.balance k.owed in
      let place : (n : ℕ) → get_or (front111 ++ tail) (111 + n) 0 ≡ get_or tail n 0 = λ n. behind front111 tail n (111 + n) (omega (arith, length111)) in
      let e : at64 (front111 ++ tail) 111 ≡ at64 (be64 b) 0 = omega (arith, place 0, place 1, place 2, place 3, place 4, place 5, place 6, place 7) in
      ap (λ r. to_z w64 (at64 r 111)) row111 ∙ ap (to_z w64) (e ∙ join64 b (of_z_fits w64 t.balance f).fits) ∙ to_z-of_z w64 t.balance f

  power-is : at16 (row_of t) 3 ≡ t.dwelling.power
  unfolding row_of
  power-is = join16 t.dwelling.power (omega (arith, k.profile.powers))

  exempt-is : at16 (row_of t) 5 ≡ t.dwelling.exempt
  unfolding row_of
  exempt-is = join16 t.dwelling.exempt (omega (arith, k.profile.powers))

  pub form-back : form_at (row_of t) ≡ form_of t
  unfolding row_of
  form-back = simp (power-is, exempt-is, kinds-are, next-is, indices-are, waiting-is, balance-is)
