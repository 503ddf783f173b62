-- What an accepted event leaves is an account.
use Rattle.std.specs.Prelude.{◌≡◌, Some, Ok, Option}
use Rattle.account.specs.declared.event.Event.{Event}
use Rattle.account.specs.Tenancy.{Tenancy}
use Rattle.account.specs.Kept.{Kept, KeptAt}
use Rattle.account.specs.Steps.{stepped}

abbrev pub Steps-keep-limits : Type 0
Steps-keep-limits = (event : Event) (o : Option Tenancy) (u : Tenancy) → KeptAt o → stepped event o ≡ Ok (Some u) → Kept u
