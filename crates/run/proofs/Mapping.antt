-- A call on another type of sheet asks the same, where the sheets mean the same.
use Rattle.std.proofs.Common.{◌≡◌, ap, ◌∙◌}
use Rattle.sheet.specs.Tariff.{Tariff}
use Rattle.law.specs.Transcript.{settling}
use Rattle.run.specs.declared.call.Call.{Call}
use Rattle.run.specs.declared.call.Call.TheVariants.{Post, Open, Read, Settle, Pay, Close, Show}
use Rattle.run.specs.Asked.{asked, Mapped}

pub asked-mapped : {S T : Type 0} (old : S → Tariff) (new : T → Tariff) (made : S → T → Type 0) → ((s : S) (t : T) → made s t → new t ≡ old s) → (c : Call S) (d : Call T) → Mapped made c d → asked new d ≡ asked old c
asked-mapped old new made same (Post s mx nc) d p = ap (asked new) p
asked-mapped old new made same (Open number form) d p = ap (asked new) p
asked-mapped old new made same (Read number indices) d p = ap (asked new) p
asked-mapped old new made same (Settle number end sheet) d p = ap (asked new) p.2 ∙ ap (settling number end) (same sheet p.0 p.1)
asked-mapped old new made same (Pay number cents) d p = ap (asked new) p
asked-mapped old new made same (Close number) d p = ap (asked new) p
asked-mapped old new made same (Show number) d p = ap (asked new) p
