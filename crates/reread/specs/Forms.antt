-- The parts of an account and of a refusal, read word by word.
use Rattle.std.specs.Prelude.{ℕ, cond, List, ℤ, Some, None, Option, nat_le, slice_index}
use Rattle.std.specs.Option.{option_map}
use Rattle.facts.specs.declared.form.ProfileForm.{ProfileForm}
use Rattle.account.specs.declared.form.AccountForm.{AccountForm}
use Rattle.refusal.specs.declared.Refusal.{Refusal}
use Rattle.refusal.specs.Refusals.{refused}
use Rattle.words.specs.Words.{word_of, rest_of}
use Rattle.words.specs.Numbers.{number_of}
use Rattle.answerwords.specs.Front.{bound, front_of, ended}
use Rattle.answerwords.specs.Words.{signed_of, state_of, layer_of}

-- class, marks, power and exempt power, and six kinds
abbrev pub profile_form : List ℕ → List ℕ → ProfileForm
profile_form n kinds =
    record { class = slice_index n 0; marks = slice_index n 1; power = slice_index n 2; exempt = slice_index n 3; kinds = kinds }

abbrev pub profile_of : List ℕ → Option (ProfileForm × List ℕ)
profile_of text =
    bound (front_of 4 text) (λ powers.
    option_map (λ kinds. (profile_form powers.0 kinds.0, kinds.1)) (front_of 6 powers.1))

abbrev pub account_form : ℕ → ProfileForm → ℕ → List ℕ → List ℕ → ℤ → AccountForm
account_form state profile next indices waiting balance =
    record { state = state; profile = profile; next = next; indices = indices; waiting = waiting; balance = balance }

-- the registers and the balance at the end of an account
abbrev pub figures_of : ℕ → ProfileForm → ℕ → List ℕ → Option AccountForm
figures_of state profile next text =
    bound (front_of 12 text) (λ indices.
    bound (front_of 12 indices.1) (λ waiting.
    bound (signed_of (word_of waiting.1)) (λ balance.
    ended (rest_of waiting.1) (account_form state profile next indices.0 waiting.0 balance))))

-- `STATE CLASS MARKS P X K0..K5 U I0..I11 W0..W11 BALANCE`
abbrev pub account_of : List ℕ → Option AccountForm
account_of text =
    bound (state_of (word_of text)) (λ state.
    bound (profile_of (rest_of text)) (λ profile.
    bound (number_of (word_of profile.1)) (λ next.
    figures_of state profile.0 next (rest_of profile.1))))

-- the number of a refusal is a byte
abbrev pub byte_alone : ℕ → Option ℕ
byte_alone n = cond (nat_le n 255) (Some n) None

-- `NUMBER LAYER PLACE`
abbrev pub refusal_of : List ℕ → Option Refusal
refusal_of text =
    bound (bound (number_of (word_of text)) byte_alone) (λ number.
    bound (layer_of (word_of (rest_of text))) (λ layer.
    bound (number_of (word_of (rest_of (rest_of text)))) (λ place.
    ended (rest_of (rest_of (rest_of text))) (refused number layer place))))
