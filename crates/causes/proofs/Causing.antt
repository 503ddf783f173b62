-- Every call has its causes.
use Rattle.std.proofs.Common.{◌≡◌, ℕ, ◌≤◌, cond, ◌&&◌, leb, ◌⊎◌, List, [], ◌∷◌, length, Some, None, Ok, Err, Option, Result, sym, refl, ap, ◌∙◌, subst}
use Rattle.std.specs.Option.{option_map}
use Rattle.refusal.specs.declared.Refusal.{Refusal}
use Rattle.refusal.specs.declared.Layer.TheVariants.{Ledger, Cabinet}
use Rattle.refusal.specs.Refusals.{refused}
use Rattle.figures.specs.Months.{index_fits, figure_fits, non_fuel}
use Rattle.account.specs.declared.event.Event.TheVariants.{Read, Pay, Close}
use Rattle.account.specs.declared.state.State.TheVariants.{Ready}
use Rattle.account.specs.Steps.{read_to, paid, closed}
use Rattle.account.specs.Tenancy.{Tenancy}
use Rattle.ledger.specs.declared.fault.LedgerFault.{LedgerFault}
use Rattle.months.specs.declared.fault.PostFault.TheVariants.{AllPosted}
use Rattle.months.specs.Posted.{posted_as, post_answer}
use Rattle.cabinet.specs.Books.{Books, raised_post}
use Rattle.law.specs.Transcript.{Call, posting, opening, reading, settling, paying, closing, showing, Reply, post_reply, show_reply, reply_of, Transcript}
use Rattle.law.specs.History.{months_in, since, state_of, charged_in, paid_in, account_since}
use Rattle.law.proofs.Calling.{loaded}
use Rattle.law.proofs.Loading.{load-outside}
use Rattle.law.proofs.Standings.{standing}
use Rattle.law.proofs.Stepping.{Standing}
use Rattle.causes.specs.Rules.{FiguresFit, Holds, Shows, KwhFit, PassesPaid}
use Rattle.causes.specs.Causes.{because, all_posted, figures_outside, payment_outside, causes_of}
use Rattle.causes.specs.Caused.{refusal_in, ByFirst, Caused, CausedAt, Causes-stand}
use Rattle.causes.proofs.Counting.{most-months}
use Rattle.causes.proofs.Deciding.{decides-leb, decides-figures}
use Rattle.causes.proofs.Events.{reading-first, paying-first, closing-first}
use Rattle.causes.proofs.Firsts.{first-unless, first-if, none-refused, none-stands, Without, never, accepted-from, accepted-none}
use Rattle.causes.proofs.Opening.{opening-first}
use Rattle.causes.proofs.Refusing.{number-first, account-first}
use Rattle.causes.proofs.Settling.{settling-first}

posting-first : (t : Transcript) (s mx nc : ℕ) → ByFirst (all_posted t ∷ figures_outside t s mx nc ∷ []) (refusal_in (post_reply (raised_post (post_answer (months_in t) s mx nc))))
posting-first t s mx nc =
    let due = length (months_in t) in
    let fits = index_fits s && index_fits mx && figure_fits nc && figure_fits (non_fuel s mx) in
    let answer = posted_as due (cond fits (Some (non_fuel s mx, nc)) None) in
    first-if (leb 1200 due) (1200 ≤ due) (refused 1 Cabinet due) (figures_outside t s mx nc ∷ []) (λ full. refusal_in (post_reply (raised_post (cond full (Err (AllPosted due)) answer)))) (decides-leb 1200 due) refl
    (λ _. first-unless fits (FiguresFit s mx nc → ⊥) (FiguresFit s mx nc) (refused 2 Cabinet due) [] (λ ok. refusal_in (post_reply (raised_post (posted_as due (cond ok (Some (non_fuel s mx, nc)) None))))) (decides-figures s mx nc) (λ q p. p q) (λ f. f) refl
    (λ _. refl))

shown-none : (o : Option Tenancy) → refusal_in (show_reply (Ok o)) ≡ None
shown-none None = refl
shown-none (Some a) = refl

module _ (t : Transcript) (b : Books) (s : Standing t b) (most : length b.months ≤ 1200) where
  first-cause : (c : Call) → ByFirst (causes_of b.board.capacity b.board.limit t c) (refusal_in (reply_of b c))
  first-cause (posting x mx nc) =
      subst (λ (ms : List (ℕ × ℕ)). ByFirst (all_posted t ∷ figures_outside t x mx nc ∷ []) (refusal_in (post_reply (raised_post (post_answer ms x mx nc))))) (sym s.law.months) (posting-first t x mx nc)
  first-cause (opening n form) = opening-first t b s n form
  first-cause (reading n new) =
      account-first t b s n (Read new) Some (read_to new) (λ h. because (Holds h (λ o ds. Shows o.dwelling.kinds new → ⊥)) (refused 8 Ledger n) ∷ because (Holds h (λ o ds. KwhFit o ds new → ⊥)) (refused 9 Ledger n) ∷ []) (λ o. refl)
      (λ g. reading-first n g new)
  first-cause (settling n e sheet) = settling-first t b s most n e sheet
  first-cause (paying n cents) =
      account-first t b s n (Pay cents) Some (paid cents) (λ h. payment_outside n cents ∷ because (Holds h (λ o ds. PassesPaid ds cents)) (refused 15 Ledger n) ∷ []) (λ o. refl) (λ g. paying-first n g cents)
  first-cause (closing n) =
      account-first t b s n Close (λ _. None) closed (λ h. because (Holds h (λ o ds. (state_of ds ≡ Ready) ⊎ (charged_in ds ≡ paid_in ds → ⊥))) (refused 16 Ledger n) ∷ []) (λ o. refl) (λ g. closing-first n g)
  first-cause (showing n) =
      let by : Result (Option Tenancy) LedgerFault → Option Refusal = λ l. refusal_in (show_reply l) in
      number-first t b s n [] (refusal_in (reply_of b (showing n))) (λ h. ap by (load-outside b.board n h)) (λ h. ap by (loaded t b s n h) ∙ shown-none (option_map account_since (since n t)))

-- 17 is no cause's number
without-broken : (capacity limit : ℕ) (t : Transcript) (c : Call) → Without 17 (causes_of capacity limit t c)
without-broken capacity limit t (posting s mx nc) = (refl, (refl, tt))
without-broken capacity limit t (opening n form) = (refl, (refl, (refl, (refl, tt))))
without-broken capacity limit t (reading n new) = (refl, (refl, (refl, (refl, tt))))
without-broken capacity limit t (settling n e sheet) = (refl, (refl, (refl, (refl, (refl, (refl, (refl, tt)))))))
without-broken capacity limit t (paying n cents) = (refl, (refl, (refl, (refl, tt))))
without-broken capacity limit t (closing n) = (refl, (refl, (refl, tt)))
without-broken capacity limit t (showing n) = (refl, tt)

-- from the first cause, all
from_first : (capacity limit : ℕ) (t : Transcript) (c : Call) (r : Reply) → ByFirst (causes_of capacity limit t c) (refusal_in r) → Caused capacity limit t c r
from_first capacity limit t c r f = record {
  first = f;
  free = λ w. accepted-from r (none-refused (causes_of capacity limit t c) (refusal_in r) f w);
  freed = λ h. none-stands (causes_of capacity limit t c) (refusal_in r) f (accepted-none r h);
  whole = never 17 (causes_of capacity limit t c) (refusal_in r) (without-broken capacity limit t c) f;
}

pub causes-stand : Causes-stand
causes-stand b c t r = from_first b.board.capacity b.board.limit t c (reply_of b c) (first-cause t b (standing r) (most-months r) c)

-- the same with the answer that a cabinet gave
pub caused-as : (b : Books) (c : Call) (r : Reply) → r ≡ reply_of b c → CausedAt b c r
caused-as b c r e = subst (CausedAt b c) (sym e) (causes-stand b c)
