use Rattle.std.proofs.Common.{◌≡◌, Decides, rules, refl}
use Rattle.std.proofs.lemmas.Bool.Decides.{Decides-at, Decides-and, Decides-like, Decides-eqb, Decides-int_eq}
use Rattle.std.proofs.lemmas.Slice.Eq.{slice_eq-Decides, bytes_eq-Decides}
use Rattle.facts.specs.contracts.kind.KindPartialEq.TheImpl as same_kind
use Rattle.facts.specs.contracts.profile.ProfilePartialEq.TheImpl as same_profile
use Rattle.facts.specs.declared.kind.Kind.{Kind}
use Rattle.facts.specs.declared.profile.Profile.{Profile}
use Rattle.facts.specs.Usage.{dwelling_of}
use Rattle.account.specs.contracts.state.StatePartialEq.TheImpl as same_state
use Rattle.account.specs.contracts.account.AccountPartialEq.TheImpl as same_account
use Rattle.account.specs.declared.state.State.{State}
use Rattle.account.specs.declared.account.Account.{Account}
use Rattle.account.specs.Tenancy.{tenancy_of}
use Rattle.run.specs.contracts.answer.AnswerPartialEq.TheImpl as same_answer
use Rattle.run.specs.declared.answer.Answer.{Answer}
use Rattle.run.specs.declared.answer.Answer.TheVariants.{Shown, Vacant}
use Rattle.run.specs.Asked.{told}
use Rattle.twoboards.proofs.agreement.is_alike.Goals as goal

kinds : (a b : Kind) → Decides (same_kind.ghosts.eq a b) (a ≡ b)
kinds a b = search rules

-- profiles are equal where their plain figures are the same
profiles : (a b : Profile) → Decides (same_profile.ghosts.eq a b) (dwelling_of a ≡ dwelling_of b)
profiles a b = let listed = slice_eq-Decides {E = same_kind.ghosts.eq} kinds a.kinds b.kinds _ refl in search rules

states : (a b : State) → Decides (same_state.ghosts.eq a b) (a ≡ b)
states a b = search rules

-- and so are accounts
accounts : (a b : Account) → Decides (same_account.ghosts.eq a b) (tenancy_of a ≡ tenancy_of b)
accounts a b =
    let registers = Decides-and _ _ (bytes_eq-Decides a.indices b.indices) (Decides-and _ _ (bytes_eq-Decides a.waiting b.waiting) (Decides-int_eq a.balance b.balance)) in
    Decides-like _ (λ h. search rules) (λ e. search rules)
    (Decides-and _ _ (states a.state b.state) (Decides-and _ _ (profiles a.profile b.profile) (Decides-and _ _ (Decides-eqb a.next b.next) registers)))

-- answers are equal where they tell the same
answers : (a b : Answer) → Decides (same_answer.ghosts.eq a b) (told a ≡ told b)
answers (Shown x) (Shown y) = let shown = accounts x y in search rules
answers Vacant Vacant = search rules
answers a b = search rules

pub returns : goal.returns
returns c = Decides-at c.eq.result (same_answer.ghosts.eq c.args.left.now c.args.right.now) c.eq.ensures (answers c.args.left.now c.args.right.now)
