-- Reading inverts writing.
use Rattle.std.proofs.Common.{◌≡◌, ℕ, ◌^◌, ◌<◌, false, cond, leb, List, [], ◌∷◌, ◌++◌, Some, None, codes, decimal, sym, refl, ap, ◌∙◌, arith}
use Rattle.std.specs.Option.{option_map}
use Rattle.std.proofs.lemmas.Bool.{cond-true, le-leb}
use Rattle.words.specs.Words.{is_word}
use Rattle.words.specs.Numbers.{is_end}
use Rattle.answers.specs.declared.answer.Answer.TheVariants.{Tenths, Lines, Parts, NotPermitted, Plan, NoPlan, Made, Posted, Done, Bill, Account, Vacant, Row, Refused, Unreadable, NoMemory}
use Rattle.answers.specs.Bills.{bill_numbers}
use Rattle.answers.specs.Texts.{spaced, spaced_all, hex_text, state_text}
use Rattle.refusal.specs.Refusals.{layer_name}
use Rattle.answerwords.specs.Front.{bound, ended}
use Rattle.answerwords.specs.Words.{row_of}
use Rattle.reread.specs.Answers.{tenths_of, lines_of, parts_of, plan_of, made_of, posted_of, bill_of, bare_of, row_answer, behind_of, answer_with, answer_of}
use Rattle.answerlaw.specs.Fits.{AnswerFits}
use Rattle.answerlaw.specs.Laws.{Answers-come-back, Texts-tell-apart}
use Rattle.answerlaw.proofs.Spaces.{Solid, Stops, first_word, first_rest, not_end, last_word, last_rest, last-not-end}
use Rattle.answerlaw.proofs.Numerals.{solid-decimal, exactly-spaced}
use Rattle.answerlaw.proofs.Bytes.{row_back, solid-row}
use Rattle.answerlaw.proofs.Parts.{refusal_rest, refusal-back, solid-state, profile_rest, account-back}

-- a first word, and others behind it
behind-back : (w t : List ℕ) → Solid w → Stops t → is_end t ≡ false → answer_of (w ++ t) ≡ behind_of w t
behind-back w t s e h =
    (λ i. answer_with (first_word w t s e i) (first_rest w t s e i)) ∙ ap (λ b. cond b (bare_of w) (behind_of w t)) h

stops-all : (ns : List ℕ) → Stops (spaced_all ns)
stops-all [] = refl
stops-all (n ∷ ns) = refl

-- a word, and numbers behind it
numbered-back : (w : List ℕ) (n : ℕ) (ns : List ℕ) → Solid w → n < 2 ^ 64 → answer_of (w ++ spaced_all (n ∷ ns)) ≡ behind_of w (spaced_all (n ∷ ns))
numbered-back w n ns s h =
    behind-back w (spaced_all (n ∷ ns)) s refl (not_end (decimal n) (spaced_all ns) (solid-decimal n h) (stops-all ns))

tenths-fit : (n : ℕ) → n < 2 ^ 16 → tenths_of (n ∷ []) ≡ Some (Tenths n)
tenths-fit n h = cond-true (leb n 65535) (Some (Tenths n)) None (le-leb n 65535 (omega arith))

row_read : (bytes : List ℕ) → AnswerFits (Row bytes) → row_answer (32 ∷ hex_text bytes) ≡ Some (Row bytes)
row_read bytes h =
    let s = solid-row bytes h.0 h.1 in
    (λ i. bound (row_of (last_word (hex_text bytes) s i)) (λ bs. ended (last_rest (hex_text bytes) s i) (Row bs)))
    ∙ ap (λ o. bound o (λ bs. ended [] (Row bs))) (row_back bytes h.0 h.1)

pub come-back : Answers-come-back
unfolding is_word
come-back (Tenths n) h =
    numbered-back (codes "tenths") n [] (record { some = omega arith; whole = refl }) (omega arith)
    ∙ ap (λ o. bound o tenths_of) (exactly-spaced (n ∷ []) (omega arith, tt)) ∙ tenths-fit n h
come-back (Lines n) h =
    numbered-back (codes "lines") n [] (record { some = omega arith; whole = refl }) h.0 ∙ ap (option_map lines_of) (exactly-spaced (n ∷ []) h)
come-back (Parts fixed energy cents) h =
    numbered-back (codes "parts") fixed (energy ∷ cents ∷ []) (record { some = omega arith; whole = refl }) h.0
    ∙ ap (option_map parts_of) (exactly-spaced (fixed ∷ energy ∷ cents ∷ []) h)
come-back NotPermitted h = refl
come-back (Plan code fixed energy cents) h =
    numbered-back (codes "plan") code (fixed ∷ energy ∷ cents ∷ []) (record { some = omega arith; whole = refl }) h.0
    ∙ ap (option_map plan_of) (exactly-spaced (code ∷ fixed ∷ energy ∷ cents ∷ []) h)
come-back NoPlan h = refl
come-back (Made capacity limit) h =
    numbered-back (codes "made") capacity (limit ∷ []) (record { some = omega arith; whole = refl }) h.0
    ∙ ap (option_map made_of) (exactly-spaced (capacity ∷ limit ∷ []) h)
come-back (Posted month ne) h =
    numbered-back (codes "posted") month (ne ∷ []) (record { some = omega arith; whole = refl }) h.0
    ∙ ap (option_map posted_of) (exactly-spaced (month ∷ ne ∷ []) h)
come-back Done h = refl
come-back (Bill b) h =
    numbered-back (codes "bill") b.code (b.months ∷ b.day ∷ b.night ∷ b.fixed ∷ b.energy ∷ b.cents ∷ []) (record { some = omega arith; whole = refl }) h.0
    ∙ ap (option_map bill_of) (exactly-spaced (bill_numbers b) h)
come-back (Account a) h =
    behind-back (codes "account") (32 ∷ (state_text a.state ++ profile_rest a)) (record { some = omega arith; whole = refl }) refl
    (not_end (state_text a.state) (profile_rest a) (solid-state a.state h.state) refl)
    ∙ ap (option_map Account) (account-back a h)
come-back Vacant h = refl
come-back (Row bytes) h =
    behind-back (codes "row") (32 ∷ hex_text bytes) (record { some = omega arith; whole = refl }) refl (last-not-end (hex_text bytes) (solid-row bytes h.0 h.1))
    ∙ row_read bytes h
come-back (Refused r) h =
    behind-back (codes "refused") (refusal_rest r) (record { some = omega arith; whole = refl }) refl
    (not_end (decimal r.number) (codes " " ++ (layer_name r.layer ++ spaced r.place)) (solid-decimal r.number (omega arith)) refl)
    ∙ ap (option_map Refused) (refusal-back r h.0 h.1)
come-back Unreadable h = refl
come-back NoMemory h = refl

pub told-apart : Texts-tell-apart
told-apart a b f g e = let same : Some a ≡ Some b = sym (come-back a f) ∙ ap answer_of e ∙ come-back b g in cc
