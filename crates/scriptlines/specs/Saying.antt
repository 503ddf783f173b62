-- Which word says what a line asks for.
use Rattle.std.specs.Prelude.{◌≡◌, ℕ, List, IfSome, Some, None, Option}
use Rattle.lineforms.specs.declared.verb.Verb.{Verb}
use Rattle.lineforms.specs.declared.verb.Verb.TheVariants as verb
use Rattle.lineforms.specs.Verbs.{verb_name}
use Rattle.callforms.specs.Saying.{call_verb}
use Rattle.scriptlines.specs.declared.line.Line.{Line}
use Rattle.scriptlines.specs.declared.line.Line.TheVariants.{Silent, Unreadable, Rating, House, Price, Choose, Board, Call, Row, Store, Clear}

-- the verb of what a line asks for; a silent line and an unreadable one ask for nothing
abbrev pub line_verb : Line (List ℕ) → Option Verb
line_verb Silent = None
line_verb Unreadable = None
line_verb (Rating network ampere) = Some verb.Rating
line_verb (House text) = Some verb.House
line_verb (Price sheet code facts) = Some verb.Price
line_verb (Choose sheet facts) = Some verb.Choose
line_verb (Board form) = Some verb.Board
line_verb (Call call) = Some (verb.Call (call_verb call))
line_verb (Row account) = Some verb.Row
line_verb (Store account text) = Some verb.Store
line_verb (Clear account) = Some verb.Clear

-- a line whose first word is this asks for nothing but what the word says
abbrev pub SaidBy : List ℕ → Line (List ℕ) → Type 0
SaidBy word line = IfSome (line_verb line) (λ v. word ≡ verb_name v)
