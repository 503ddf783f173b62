-- The parts of a refusal and of an account are read back.
use Rattle.std.proofs.Common.{◌≡◌, ℕ, ◌^◌, ◌<◌, leb, ◌⊎◌, List, [], ◌∷◌, ◌++◌, Some, None, codes, decimal, sym, refl, ap, ◌∙◌, inl, inr, arith}
use Rattle.std.specs.Option.{option_map}
use Rattle.std.specs.Fmt.{signed_decimal}
use Rattle.std.proofs.lemmas.Bool.{cond-true, le-leb}
use Rattle.refusal.specs.declared.Layer.{Layer}
use Rattle.refusal.specs.declared.Layer.TheVariants.{Board, Ledger, Cabinet, Sheet, Rating}
use Rattle.refusal.specs.declared.Refusal.{Refusal}
use Rattle.refusal.specs.Refusals.{refused, layer_name}
use Rattle.facts.specs.declared.form.ProfileForm.{ProfileForm}
use Rattle.account.specs.declared.form.AccountForm.{AccountForm}
use Rattle.words.specs.Words.{is_word, word_of, rest_of}
use Rattle.words.specs.Numbers.{number_of}
use Rattle.answers.specs.Texts.{spaced, spaced_all, state_text}
use Rattle.answerwords.specs.Front.{bound, front_of, ended}
use Rattle.answerwords.specs.Words.{signed_of, state_of, layer_of}
use Rattle.reread.specs.Forms.{profile_form, profile_of, account_form, figures_of, account_of, byte_alone, refusal_of}
use Rattle.answerlaw.specs.Fits.{Fit64, Array64, AccountFits}
use Rattle.answerlaw.proofs.Spaces.{Solid, Stops, next_word, next-rest, last_word, last_rest}
use Rattle.answerlaw.proofs.Numerals.{solid-decimal, number-decimal, stops-spaced, number-next, front-array, signed_back, solid-signed}

layer-back : (l : Layer) → layer_of (layer_name l) ≡ Some l
unfolding is_word
layer-back Board = refl
layer-back Ledger = refl
layer-back Cabinet = refl
layer-back Sheet = refl
layer-back Rating = refl

solid-layer : (l : Layer) → Solid (layer_name l)
solid-layer Board = record { some = omega arith; whole = refl }
solid-layer Ledger = record { some = omega arith; whole = refl }
solid-layer Cabinet = record { some = omega arith; whole = refl }
solid-layer Sheet = record { some = omega arith; whole = refl }
solid-layer Rating = record { some = omega arith; whole = refl }

-- ` NUMBER LAYER PLACE`
abbrev pub refusal_rest : Refusal → List ℕ
refusal_rest r = spaced r.number ++ (codes " " ++ (layer_name r.layer ++ spaced r.place))

module _ (r : Refusal) (small : r.number < 256) (wide : r.place < 2 ^ 64) where
  place : List ℕ
  place = spaced r.place

  layered : List ℕ
  layered = 32 ∷ (layer_name r.layer ++ place)

  fits : r.number < 2 ^ 64
  fits = omega arith

  pub refusal-back : refusal_of (refusal_rest r) ≡ Some r
  unfolding place layered
  refusal-back =
      let behind : rest_of (refusal_rest r) ≡ layered = next-rest (decimal r.number) layered (solid-decimal r.number fits) refl in
      let word : layer_of (word_of layered) ≡ Some r.layer =
      ap layer_of (next_word (layer_name r.layer) place (solid-layer r.layer) refl) ∙ layer-back r.layer in
      let last : rest_of layered ≡ place = next-rest (layer_name r.layer) place (solid-layer r.layer) refl in
      let byte : byte_alone r.number ≡ Some r.number = cond-true (leb r.number 255) (Some r.number) None (le-leb r.number 255 (omega arith)) in
      let number : bound (number_of (word_of (refusal_rest r))) byte_alone ≡ Some r.number =
      ap (λ o. bound o byte_alone) (number-next r.number fits layered refl) ∙ byte in
      let placed : number_of (word_of place) ≡ Some r.place =
      ap number_of (last_word (decimal r.place) (solid-decimal r.place wide)) ∙ number-decimal r.place wide in
      let end : rest_of place ≡ [] = last_rest (decimal r.place) (solid-decimal r.place wide) in
      ap (λ o. bound o (λ n. bound (layer_of (word_of (rest_of (refusal_rest r)))) (λ l. bound (number_of (word_of (rest_of (rest_of (refusal_rest r))))) (λ p. ended (rest_of (rest_of (rest_of (refusal_rest r)))) (refused n l p))))) number
      ∙ ap (λ (t : List ℕ). bound (layer_of (word_of t)) (λ l. bound (number_of (word_of (rest_of t))) (λ p. ended (rest_of (rest_of t)) (refused r.number l p)))) behind
      ∙ ap (λ o. bound o (λ l. bound (number_of (word_of (rest_of layered))) (λ p. ended (rest_of (rest_of layered)) (refused r.number l p)))) word
      ∙ ap (λ (t : List ℕ). bound (number_of (word_of t)) (λ p. ended (rest_of t) (refused r.number r.layer p))) last
      ∙ ap (λ o. bound o (λ p. ended (rest_of place) (refused r.number r.layer p))) placed
      ∙ ap (λ (t : List ℕ). ended t (refused r.number r.layer r.place)) end

-- ` CLASS MARKS P X K0..K5`
pub profile-back : (p : ProfileForm) (t : List ℕ) → Fit64 (p.class ∷ p.marks ∷ p.power ∷ p.exempt ∷ []) → Array64 6 p.kinds → Stops t
    → profile_of (spaced_all (p.class ∷ p.marks ∷ p.power ∷ p.exempt ∷ []) ++ (spaced_all p.kinds ++ t)) ≡ Some (p, t)
profile-back p t powers kinds e =
    let ns : List ℕ = p.class ∷ p.marks ∷ p.power ∷ p.exempt ∷ [] in
    ap (λ o. bound o (λ front. option_map (λ (six : List ℕ × List ℕ). (profile_form front.0 six.0, six.1)) (front_of 6 front.1)))
    (front-array 4 ns (spaced_all p.kinds ++ t) refl powers (stops-spaced p.kinds t e))
    ∙ ap (option_map (λ (six : List ℕ × List ℕ). (profile_form ns six.0, six.1))) (front-array 6 p.kinds t kinds.0 kinds.1 e)

-- ` I0..I11 W0..W11 BALANCE`
pub figures-back : (a : AccountForm) → AccountFits a
    → figures_of a.state a.profile a.next (spaced_all a.indices ++ (spaced_all a.waiting ++ (codes " " ++ signed_decimal a.balance))) ≡ Some a
figures-back a fits =
    let balance : List ℕ = 32 ∷ signed_decimal a.balance in
    let waiting : List ℕ = spaced_all a.waiting ++ balance in
    let word : signed_of (word_of balance) ≡ Some a.balance =
    ap signed_of (last_word (signed_decimal a.balance) (solid-signed a.balance fits.balance)) ∙ signed_back a.balance fits.balance in
    let end : rest_of balance ≡ [] = last_rest (signed_decimal a.balance) (solid-signed a.balance fits.balance) in
    ap (λ o. bound o (λ is. bound (front_of 12 is.1) (λ ws. bound (signed_of (word_of ws.1)) (λ b. ended (rest_of ws.1) (account_form a.state a.profile a.next is.0 ws.0 b)))))
    (front-array 12 a.indices waiting fits.indices.0 fits.indices.1 (stops-spaced a.waiting balance refl))
    ∙ ap (λ o. bound o (λ ws. bound (signed_of (word_of ws.1)) (λ b. ended (rest_of ws.1) (account_form a.state a.profile a.next a.indices ws.0 b))))
    (front-array 12 a.waiting balance fits.waiting.0 fits.waiting.1 refl)
    ∙ ap (λ o. bound o (λ b. ended (rest_of balance) (account_form a.state a.profile a.next a.indices a.waiting b))) word
    ∙ ap (λ (t : List ℕ). ended t a) end

-- the word of a state
state-back : (n : ℕ) → (n ≡ 1) ⊎ (n ≡ 2) → state_of (state_text n) ≡ Some n
unfolding is_word
state-back n (inl e) = ap (λ k. state_of (state_text k)) e ∙ ap Some (sym e)
state-back n (inr e) = ap (λ k. state_of (state_text k)) e ∙ ap Some (sym e)

pub solid-state : (n : ℕ) → (n ≡ 1) ⊎ (n ≡ 2) → Solid (state_text n)
solid-state n (inl e) = rw e (record { some = omega arith; whole = refl })
solid-state n (inr e) = rw e (record { some = omega arith; whole = refl })

-- ` CLASS .. BALANCE`
abbrev pub profile_rest : AccountForm → List ℕ
profile_rest a =
    spaced_all (a.profile.class ∷ a.profile.marks ∷ a.profile.power ∷ a.profile.exempt ∷ [])
    ++ (spaced_all a.profile.kinds
    ++ (spaced a.next ++ (spaced_all a.indices ++ (spaced_all a.waiting ++ (codes " " ++ signed_decimal a.balance)))))

pub account-back : (a : AccountForm) → AccountFits a → account_of (32 ∷ (state_text a.state ++ profile_rest a)) ≡ Some a
account-back a fits =
    let figures : List ℕ = spaced_all a.indices ++ (spaced_all a.waiting ++ (codes " " ++ signed_decimal a.balance)) in
    let stops : Stops figures = stops-spaced a.indices (spaced_all a.waiting ++ (codes " " ++ signed_decimal a.balance)) (stops-spaced a.waiting (codes " " ++ signed_decimal a.balance) refl) in
    let next : List ℕ = 32 ∷ (decimal a.next ++ figures) in
    let text : List ℕ = 32 ∷ (state_text a.state ++ profile_rest a) in
    let state : state_of (word_of text) ≡ Some a.state =
    ap state_of (next_word (state_text a.state) (profile_rest a) (solid-state a.state fits.state) refl) ∙ state-back a.state fits.state in
    let behind : rest_of text ≡ profile_rest a = next-rest (state_text a.state) (profile_rest a) (solid-state a.state fits.state) refl in
    let profile : profile_of (rest_of text) ≡ Some (a.profile, next) = ap profile_of behind ∙ profile-back a.profile next fits.powers fits.kinds refl in
    let number : number_of (word_of next) ≡ Some a.next = number-next a.next fits.next figures stops in
    let rest : rest_of next ≡ figures = next-rest (decimal a.next) figures (solid-decimal a.next fits.next) stops in
    ap (λ o. bound o (λ s. bound (profile_of (rest_of text)) (λ p. bound (number_of (word_of p.1)) (λ u. figures_of s p.0 u (rest_of p.1))))) state
    ∙ ap (λ o. bound o (λ p. bound (number_of (word_of p.1)) (λ u. figures_of a.state p.0 u (rest_of p.1)))) profile
    ∙ ap (λ o. bound o (λ u. figures_of a.state a.profile u (rest_of next))) number
    ∙ ap (figures_of a.state a.profile a.next) rest
    ∙ figures-back a fits
