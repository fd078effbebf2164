-- What Entries and Exits do.
use Rattle.std.proofs.Common.{[], ◌∷◌}
use Rattle.components.specs.declared.kind.Kind.TheVariants.{Entry, Exit}
use Rattle.components.specs.Name.{Name}
use Rattle.components.specs.Kind.{Shape}
use Rattle.circuits.specs.PortTokens.{Token, one}
use Rattle.circuits.specs.Firing.{Label.Feed, Label.Take}
use Rattle.circuits.proofs.MadeSteps.{Deed}

abbrev pub feeding : Name → Shape → Token → Deed
feeding n a v = record { node = n; kind = Entry a; label = Feed v; taken = []; given = one v ∷ []; new = [] }

abbrev pub taking : Name → Shape → Token → Deed
taking n a v = record { node = n; kind = Exit a; label = Take v; taken = one v ∷ []; given = []; new = [] }
