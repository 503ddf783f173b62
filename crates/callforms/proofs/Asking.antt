-- A verb asks for its own call.
use Rattle.std.proofs.Common.{◌≡◌, ℕ, Bool, cond, eqb, List, length, get_or, IfSome, Some, None, Option, refl}
use Rattle.std.specs.Option.{option_map}
use Rattle.std.proofs.lemmas.Bool.{cond_both}
use Rattle.account.specs.declared.event.OpeningForm.{OpeningForm}
use Rattle.run.specs.declared.call.Call.{Call}
use Rattle.run.specs.declared.call.Call.TheVariants.{Post, Settle, Pay, Close, Show}
use Rattle.words.specs.Words.{word_of, rest_of}
use Rattle.words.specs.Numbers.{is_end, number_of, numbers_of}
use Rattle.script.specs.declared.line.SheetName.{SheetName}
use Rattle.lineforms.specs.declared.verb.CallVerb.{CallVerb}
use Rattle.lineforms.specs.declared.verb.CallVerb.TheVariants as verb
use Rattle.script.specs.Lines.{sheet_at}
use Rattle.lineforms.specs.Forms.{opening_in, indices_in}
use Rattle.callforms.specs.Calls.{account_in, post_call, open_call, read_call, settle_call, pay_call, call_in}
use Rattle.callforms.specs.Saying.{call_verb}

-- a call that is asked for is the verb's
abbrev pub CallOf : CallVerb → Option (Call SheetName) → Type 0
CallOf v o = IfSome o (λ call. call_verb call ≡ v)

-- a call under a test
tested : (v : CallVerb) (b : Bool) (call : Call SheetName) → call_verb call ≡ v → CallOf v (cond b (Some call) None)
tested v b call h = cond_both b (Some call) None (CallOf v) (λ _. h) (λ _. tt)

posts : (o : Option (List ℕ)) → CallOf verb.Post (post_call o)
posts None = tt
posts (Some n) = tested verb.Post (eqb (length n) 3) (Post (get_or n 0 0) (get_or n 1 0) (get_or n 2 0)) refl

opens : (account : Option ℕ) (form : Option OpeningForm) → CallOf verb.Open (open_call account form)
opens None form = tt
opens (Some account) None = tt
opens (Some account) (Some form) = refl

reads : (account : Option ℕ) (indices : Option (List ℕ)) → CallOf verb.Read (read_call account indices)
reads None indices = tt
reads (Some account) None = tt
reads (Some account) (Some indices) = refl

settles : (account end : Option ℕ) (sheet : Option SheetName) (last : Bool) → CallOf verb.Settle (settle_call account end sheet last)
settles None end sheet last = tt
settles (Some account) None sheet last = tt
settles (Some account) (Some end) None last = tt
settles (Some account) (Some end) (Some sheet) last = tested verb.Settle last (Settle account end sheet) refl

pays : (o : Option (List ℕ)) → CallOf verb.Pay (pay_call o)
pays None = tt
pays (Some n) = tested verb.Pay (eqb (length n) 2) (Pay (get_or n 0 0) (get_or n 1 0)) refl

-- a call that names an account alone
names : (v : CallVerb) (call : ℕ → Call SheetName) → ((account : ℕ) → call_verb (call account) ≡ v) → (o : Option ℕ) → CallOf v (option_map call o)
names v call h None = tt
names v call h (Some account) = h account

pub own-call : (v : CallVerb) (rest : List ℕ) → CallOf v (call_in v rest)
own-call verb.Post rest = posts (numbers_of 26 rest)
own-call verb.Open rest = opens (number_of (word_of rest)) (opening_in (rest_of rest))
own-call verb.Read rest = reads (number_of (word_of rest)) (indices_in (rest_of rest))
own-call verb.Settle rest =
    settles (number_of (word_of rest)) (number_of (word_of (rest_of rest))) (sheet_at (word_of (rest_of (rest_of rest)))) (is_end (rest_of (rest_of (rest_of rest))))
own-call verb.Pay rest = pays (numbers_of 26 rest)
own-call verb.Close rest = names verb.Close (λ account. Close account) (λ _. refl) (account_in rest)
own-call verb.Show rest = names verb.Show (λ account. Show account) (λ _. refl) (account_in rest)
