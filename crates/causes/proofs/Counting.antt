-- As many rows stand as numbers are open; at most 1,200 months are posted.
use Rattle.std.proofs.Common.{◌≡◌, ℕ, zero, suc, ◌+◌, ◌<◌, ◌≤◌, Bool, true, false, cond, leb, List, [], ◌∷◌, length, get_or, is_some, Some, None, Ok, Err, Option, Result, sym, refl, ap, ◌∙◌, subst, arith, length-append}
use Rattle.std.proofs.lemmas.Bool.{leb-false}
use Rattle.std.specs.Option.{option_map}
use Rattle.common.specs.Counts.{sum_to}
use Rattle.figures.specs.Months.{month_of}
use Rattle.board.specs.Meaning.{Row, one, standing, row_at}
use Rattle.account.specs.Tenancy.{Tenancy}
use Rattle.months.specs.Posted.{with_month}
use Rattle.cabinet.specs.declared.bill.Bill.{Bill}
use Rattle.cabinet.specs.declared.fault.CabinetFault.{CabinetFault}
use Rattle.cabinet.specs.Books.{Books, bill_after, shown_after, settled_at}
use Rattle.law.specs.Transcript.{Call, posting, opening, reading, settling, paying, closing, showing, Transcript, after_of, New, Reached, start, more}
use Rattle.law.specs.History.{History, since}
use Rattle.law.proofs.Stepping.{Standing as Stands, writing}
use Rattle.law.proofs.Twelve.{sum_same}
use Rattle.causes.specs.Rules.{open_below}

-- a sum from its first number on
sum_first : (f : ℕ → ℕ) (n : ℕ) → sum_to f (suc n) ≡ f 0 + sum_to (λ k. f (suc k)) n
sum_first f zero = omega arith
sum_first f (suc n) = let h = sum_first f n in omega (arith, h)

-- rows stand one a number
standing-sum : (rows : List (Option Row)) → standing rows ≡ sum_to (λ k. one (get_or rows k None)) (length rows)
standing-sum [] = refl
standing-sum (r ∷ rows) = ap (λ (s : ℕ). one r + s) (standing-sum rows) ∙ sym (sum_first (λ k. one (get_or (r ∷ rows) k None)) (length rows))

one-open : (h : Option History) → one (option_map writing h) ≡ cond (is_some h) 1 0
one-open None = refl
one-open (Some g) = refl

pub standing-open : (t : Transcript) (b : Books) → Stands t b → standing b.board.rows ≡ open_below b.board.capacity t
standing-open t b s =
    standing-sum b.board.rows
    ∙ sum_same (λ k. one (row_at b.board k)) (λ k. cond (is_some (since k t)) 1 0) (length b.board.rows) (λ k h. ap one (s.law.rows k) ∙ one-open (since k t))
    ∙ ap (sum_to (λ k. cond (is_some (since k t)) 1 0)) s.long

with-most : (months : List (ℕ × ℕ)) (o : Option (ℕ × ℕ)) → length months < 1200 → length (with_month months o) ≤ 1200
with-most months None h = omega arith
with-most months (Some month) h = let e = length-append months (month ∷ []) in omega (arith, e)

posted-most : (months : List (ℕ × ℕ)) (o : Option (ℕ × ℕ)) (full : Bool) → leb 1200 (length months) ≡ full → length months ≤ 1200 → length (cond full months (with_month months o)) ≤ 1200
posted-most months o true e h = h
posted-most months o false e h = with-most months o (leb-false 1200 (length months) e)

bill-months : (b : Books) (n : ℕ) (r : Result (Option Tenancy × Bill) CabinetFault) → (bill_after b n r).months ≡ b.months
bill-months b n (Ok x) = refl
bill-months b n (Err f) = refl

step-most : (c : Call) (b : Books) → length b.months ≤ 1200 → length (after_of b c).months ≤ 1200
step-most (posting s mx nc) b h = posted-most b.months (month_of s mx nc) (leb 1200 (length b.months)) refl h
step-most (opening n form) b h = h
step-most (reading n new) b h = h
step-most (settling n e sheet) b h = subst (λ (ms : List (ℕ × ℕ)). length ms ≤ 1200) (sym (bill-months (shown_after b n) n (settled_at b n e sheet))) h
step-most (paying n cents) b h = h
step-most (closing n) b h = h
step-most (showing n) b h = h

new-most : (b : Books) → New b → length b.months ≤ 1200
new-most b w = let e = ap length w.months in omega (arith, e)

pub most-months : {t : Transcript} {b : Books} → Reached t b → length b.months ≤ 1200
most-months (start {b} w) = new-most b w
most-months (more {t} {b} c r) = step-most c b (most-months r)
