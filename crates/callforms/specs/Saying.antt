-- The verbs of calls.
use Rattle.run.specs.declared.call.Call.{Call}
use Rattle.run.specs.declared.call.Call.TheVariants.{Post, Open, Read, Settle, Pay, Close, Show}
use Rattle.lineforms.specs.declared.verb.CallVerb.{CallVerb}
use Rattle.lineforms.specs.declared.verb.CallVerb.TheVariants as verb

abbrev pub call_verb : {S : Type 0} → Call S → CallVerb
call_verb (Post s mx nc) = verb.Post
call_verb (Open account form) = verb.Open
call_verb (Read account indices) = verb.Read
call_verb (Settle account end sheet) = verb.Settle
call_verb (Pay account cents) = verb.Pay
call_verb (Close account) = verb.Close
call_verb (Show account) = verb.Show
