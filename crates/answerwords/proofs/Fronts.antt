-- Reading numbers word by word: ns so far, and k more at the front of what is left.
use Rattle.std.proofs.Common.{◌≡◌, ℕ, zero, suc, List, [], ◌∷◌, ◌++◌, Some, None, Option, sym, refl, ap, ◌∙◌, append_assoc, append-nil}
use Rattle.std.specs.Option.{option_map}
use Rattle.words.specs.Words.{word_of, rest_of}
use Rattle.words.specs.Numbers.{number_of}
use Rattle.answerwords.specs.Front.{bound, before, front_of}

-- numbers with these before them, and what stands behind them
abbrev pub behind : List ℕ → List ℕ × List ℕ → List ℕ × List ℕ
behind ns front = (ns ++ front.0, front.1)

one_more : (ns : List ℕ) (x : ℕ) (o : Option (List ℕ × List ℕ)) → option_map (behind ns) (option_map (before x) o) ≡ option_map (behind (ns ++ x ∷ [])) o
one_more ns x None = refl
one_more ns x (Some p) = ap (λ (xs : List ℕ). Some (xs, p.1)) (sym (append_assoc ns (x ∷ []) p.0))

-- none so far
pub at_first : (o : Option (List ℕ × List ℕ)) → o ≡ option_map (behind []) o
at_first None = refl
at_first (Some p) = refl

module _ (ns rest : List ℕ) (o : Option (List ℕ × List ℕ)) where
  pub at_none : (k : ℕ) → o ≡ option_map (behind ns) (front_of (suc k) rest) → number_of (word_of rest) ≡ None → o ≡ None
  unfolding front_of
  at_none k e n = e ∙ ap (λ v. option_map (behind ns) (bound v (λ x. option_map (before x) (front_of k (rest_of rest))))) n

  pub at_more : (k x : ℕ) → o ≡ option_map (behind ns) (front_of (suc k) rest) → number_of (word_of rest) ≡ Some x → o ≡ option_map (behind (ns ++ x ∷ [])) (front_of k (rest_of rest))
  unfolding front_of
  at_more k x e n =
      e ∙ ap (λ v. option_map (behind ns) (bound v (λ y. option_map (before y) (front_of k (rest_of rest))))) n ∙ one_more ns x (front_of k (rest_of rest))

  pub at-end : o ≡ option_map (behind ns) (front_of zero rest) → o ≡ Some (ns, rest)
  unfolding front_of
  at-end e = e ∙ ap (λ (xs : List ℕ). Some (xs, rest)) (append-nil ns)
