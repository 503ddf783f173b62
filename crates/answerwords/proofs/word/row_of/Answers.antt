use Rattle.std.proofs.Common.{◌≡◌, ℕ, zero, suc, ◌+◌, ◌/◌, ◌<◌, true, cond, ◌&&◌, eqb, List, map, length, get_or, Some, None, sym, refl, ap, ◌∙◌, subst, arith}
use denote.Param.Members.{Mut}
use Rattle.std.specs.Fn.{Called}
use Rattle.std.specs.Array.{IsFromFnResultFrom}
use Rattle.std.specs.List.{range_with_len}
use Rattle.std.proofs.lemmas.List.FromFn.{fill_by_all}
use Rattle.words.specs.Hex.{is_hex, byte_at}
use Rattle.answerwords.specs.Words.{row_of}
use Rattle.answerwords.proofs.word.row_of.Goals as goal

-- calls that leave what they read, each with the byte of its own pair
module _ {F : Type 0} (g : Mut F (ℕ × Unit {0}) ℕ) (read : F → List ℕ) (step : (p q : F) (i y : ℕ) → Called g p (i, tt) y q → (read q ≡ read p) × (y ≡ byte_at (read p) i)) where
  each : (word ys : List ℕ) (n i : ℕ) (p : F) → read p ≡ word → IsFromFnResultFrom g p ys i n → (k : ℕ) → k < n → get_or ys (i + k) 0 ≡ byte_at word (i + k)
  each word ys zero i p e x k h = absurd (omega arith)
  each word ys (suc n) i p e x zero h =
      let s = step p x.0 i x.1 x.3 in
      let z : i ≡ i + 0 = omega arith in
      subst (λ m. get_or ys m 0 ≡ byte_at word m) z (x.2.1 0 ∙ s.1 ∙ ap (λ w. byte_at w i) e)
  each word ys (suc n) i p e x (suc k) h =
      let s = step p x.0 i x.1 x.3 in
      let z : i + 1 + k ≡ i + suc k = omega arith in
      subst (λ m. get_or ys m 0 ≡ byte_at word m) z (each word ys n (i + 1) x.0 (s.0 ∙ e) x.4 k (omega arith))

-- the row of 256 digits
whole : (word bytes : List ℕ) → is_hex word ≡ true → length word ≡ 256 → bytes ≡ map (byte_at word) (range_with_len 0 128) → Some bytes ≡ row_of word
whole word bytes h l e =
    ap Some e ∙ sym (λ i. cond (h i && eqb (l i) 256) (Some (map (byte_at word) (range_with_len 0 (l i / 2)))) None)

pub returns : goal.returns
returns c =
    let word = c.args.word.now in
    let at : (k : ℕ) → k < 128 → get_or c.from_fn.result (0 + k) 0 ≡ byte_at word (0 + k) =
    each _ (λ p. p.0.now) (λ p q i y t. (ap (λ b. b.now) t.met.0, t.met.1)) word c.from_fn.result 128 0 _ refl c.from_fn.ensures.items.each in
    let filled = fill_by_all (byte_at word) c.from_fn.result 128 0 c.from_fn.ensures.items.long (λ k h. let z : 0 + k ≡ k = omega arith in subst (λ m. get_or c.from_fn.result m 0 ≡ byte_at word m) z (at k h)) in
    whole word c.from_fn.result (sym c.if-not-is_hex.ensures) c.if-word-ne256.false filled
