-- Gathering numbers word by word: ns so far, and at most k more in what is left.
use Rattle.std.proofs.Common.{◌≡◌, ℕ, zero, suc, true, false, List, [], ◌∷◌, ◌++◌, Some, None, Option, sym, refl, ap, ◌∙◌, append_assoc, append-nil}
use Rattle.std.specs.Option.{option_map}
use Rattle.words.specs.Words.{word_of, rest_of}
use Rattle.words.specs.Numbers.{is_end, number_of, with_number, numbers_of}

abbrev behind : List ℕ → Option (List ℕ) → Option (List ℕ)
behind ns o = option_map (λ xs. ns ++ xs) o

ended : (k : ℕ) (rest : List ℕ) → is_end rest ≡ true → numbers_of k rest ≡ Some []
unfolding numbers_of
ended zero rest h = rw h refl
ended (suc k) rest h = rw h refl

went_on : (k : ℕ) (rest : List ℕ) → is_end rest ≡ false → numbers_of (suc k) rest ≡ with_number (number_of (word_of rest)) (numbers_of k (rest_of rest))
unfolding numbers_of
went_on k rest h = rw h refl

one_more : (ns : List ℕ) (x : ℕ) (o : Option (List ℕ)) → behind ns (option_map (λ xs. x ∷ xs) o) ≡ behind (ns ++ x ∷ []) o
one_more ns x None = refl
one_more ns x (Some xs) = ap Some (sym (append_assoc ns (x ∷ []) xs))

-- none so far
pub at_first : (ns : List ℕ) (o : Option (List ℕ)) → ns ≡ [] → o ≡ option_map (λ xs. ns ++ xs) o
at_first ns None e = refl
at_first ns (Some xs) e = ap (λ (front : List ℕ). Some (front ++ xs)) (sym e)

module _ (ns rest : List ℕ) where
  pub at-end : (k : ℕ) (o : Option (List ℕ)) → o ≡ option_map (λ xs. ns ++ xs) (numbers_of k rest) → is_end rest ≡ true → o ≡ Some ns
  at-end k o e h = e ∙ ap (behind ns) (ended k rest h) ∙ ap Some (append-nil ns)

  pub at_other : (k : ℕ) (o : Option (List ℕ)) → o ≡ option_map (λ xs. ns ++ xs) (numbers_of k rest) → is_end rest ≡ false → number_of (word_of rest) ≡ None → o ≡ None
  unfolding numbers_of
  at_other zero o e h n = e ∙ rw h refl
  at_other (suc k) o e h n = e ∙ ap (behind ns) (went_on k rest h ∙ ap (λ v. with_number v (numbers_of k (rest_of rest))) n)

  pub at-full : (o : Option (List ℕ)) → o ≡ option_map (λ xs. ns ++ xs) (numbers_of 0 rest) → is_end rest ≡ false → o ≡ None
  unfolding numbers_of
  at-full o e h = e ∙ rw h refl

  pub at_more : (k x : ℕ) (o : Option (List ℕ)) → o ≡ option_map (λ xs. ns ++ xs) (numbers_of (suc k) rest) → is_end rest ≡ false → number_of (word_of rest) ≡ Some x
      → o ≡ option_map (λ xs. (ns ++ x ∷ []) ++ xs) (numbers_of k (rest_of rest))
  at_more k x o e h n =
      e ∙ ap (behind ns) (went_on k rest h ∙ ap (λ v. with_number v (numbers_of k (rest_of rest))) n) ∙ one_more ns x (numbers_of k (rest_of rest))
