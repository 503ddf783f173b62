-- Calls made one after the other, with the answers behind what their place held.
use Rattle.std.proofs.Common.{◌≡◌, ℕ, ◌+◌, ◌<◌, ◌≤◌, List, [], ◌∷◌, ◌++◌, map, length, get_or, take, drop, sym, refl, ap, ◌∙◌, arith}
use Rattle.std.proofs.lemmas.List.{at_drop_more, at_drop_all, append_assoc, append-nil, map-append, take-append-le, drop-append-le, length-append, take_all, drop_all}
use Rattle.cabinet.specs.Books.{Books}
use Rattle.law.specs.Transcript.{Call, Reply, reply_of, after_of}
use Rattle.run.specs.declared.answer.Answer.{Answer}
use Rattle.run.specs.Asked.{told}
use Rattle.run.specs.Runs.{replies_of, after_all, replies_behind}

-- the first i of the calls xs, which ask what `ask` says, are made: the books were `first` and are b, the place held the n answers `old` and holds `answers`
pub record Running {X : Type 0} (ask : X → Call) (xs : List X) (first b : Books) (n : ℕ) (old answers : List Answer) (i : ℕ) : Type 0 where
  pub after : after_all b (map ask (drop i xs)) ≡ after_all first (map ask xs)
  pub kept : take n answers ≡ old
  pub long : n ≤ length answers
  pub replies : replies_behind n answers ++ replies_of b (map ask (drop i xs)) ≡ replies_of first (map ask xs)

-- n answers have none behind them
pub nothing-behind : (n : ℕ) (answers : List Answer) → n ≡ length answers → replies_behind n answers ≡ []
nothing-behind n answers is = ap (map told) (drop_all n answers (omega arith))

module _ {X : Type 0} (ask : X → Call) (xs : List X) (first : Books) (n : ℕ) (old : List Answer) where
  pub running_none : n ≡ length old → Running ask xs first first n old old 0
  running_none is =
      record {
        after = refl;
        kept = take_all n old (omega arith);
        long = omega arith;
        replies = ap (λ (ys : List Reply). ys ++ replies_of first (map ask xs)) (nothing-behind n old is);
      }

  pub running_more : (b d : Books) (answers later : List Answer) (i : ℕ) (x : X) (a : Answer) → Running ask xs first b n old answers i → i < length xs → x ≡ get_or xs i x
      → later ≡ answers ++ a ∷ [] → told a ≡ reply_of b (ask x) → d ≡ after_of b (ask x) → Running ask xs first d n old later (i + 1)
  running_more b d answers later i x a h within is pushed answer moved =
      let rest = map ask (drop (i + 1) xs) in
      let here = replies_behind n answers in
      let behind : replies_behind n later ≡ here ++ told a ∷ [] =
      ap (replies_behind n) pushed ∙ ap (map told) (drop-append-le n answers (a ∷ []) h.long) ∙ map-append told (drop n answers) (a ∷ []) in
      let step : replies_of b (map ask (drop i xs)) ≡ reply_of b (ask x) ∷ replies_of (after_of b (ask x)) rest =
      at_drop_more (λ (ys : List X). replies_of b (map ask ys)) xs i x within
      ∙ ap (λ (y : X). reply_of b (ask y) ∷ replies_of (after_of b (ask y)) rest) (sym is) in
      record {
        after =
            ap (λ (e : Books). after_all e rest) moved
            ∙ ap (λ (y : X). after_all (after_of b (ask y)) rest) is
            ∙ sym (at_drop_more (λ (ys : List X). after_all b (map ask ys)) xs i x within)
            ∙ h.after;
        kept = ap (take n) pushed ∙ take-append-le n answers (a ∷ []) h.long ∙ h.kept;
        long = omega (arith, h.long, ap length pushed, length-append answers (a ∷ []));
        replies =
            ap (λ (ys : List Reply). ys ++ replies_of d rest) behind
            ∙ append_assoc here (told a ∷ []) (replies_of d rest)
            ∙ ap (λ (e : Books). here ++ told a ∷ replies_of e rest) moved
            ∙ ap (λ (y : Reply). here ++ y ∷ replies_of (after_of b (ask x)) rest) answer
            ∙ ap (λ (ys : List Reply). here ++ ys) (sym step)
            ∙ h.replies;
      }

  -- all are made
  module _ (b : Books) (answers : List Answer) (i : ℕ) (h : Running ask xs first b n old answers i) (past : length xs ≤ i) where
    pub books-are : b ≡ after_all first (map ask xs)
    books-are = sym (at_drop_all (λ (ys : List X). after_all b (map ask ys)) xs i past) ∙ h.after

    pub replies-are : replies_behind n answers ≡ replies_of first (map ask xs)
    replies-are =
        sym (append-nil (replies_behind n answers))
        ∙ ap (λ (ys : List Reply). replies_behind n answers ++ ys) (sym (at_drop_all (λ (ys : List X). replies_of b (map ask ys)) xs i past))
        ∙ h.replies
