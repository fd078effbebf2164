use Rattle.std.proofs.Common.{◌≡◌, None, sym, ap, subst}
use Rattle.std.specs.Prelude.{slice_get, Some}
use Rattle.std.proofs.lemmas.Bool.{false≢true}
use Rattle.circuits.specs.Replacing.{In}
use Rattle.graph_core.specs.Place.{index_of}
use Rattle.loop_find.proofs.Places.{at_in, stands, no_place}
use Rattle.loop_find.proofs.node_set.NodeSet.contains.Goals as goal

pub returns-in-Some : goal.returns-in-Some
returns-in-Some c =
    let same : c.self.inside.ids.items ≡ c.args.self.now.ids = ap (λ v. v.ids) c.self.view_is in
    let found : slice_get c.self.inside.places.items (index_of c.args.id) ≡ Some c.in-Some.place = cc in (
      λ yes. at_in c.args.self.now.ids c.in-Some.place c.args.id (c.stands_at.ensures.0 yes),
      λ i. c.stands_at.ensures.1 (subst (λ ids. slice_get ids c.in-Some.place ≡ Some c.args.id) same
          (stands c.self.inside.ids.items c.self.inside.places.items c.self.invariant c.args.id c.in-Some.place found (subst (In c.args.id) (sym same) i))),
    )

pub returns-in-None : goal.returns-in-None
returns-in-None c =
    let same : c.self.inside.ids.items ≡ c.args.self.now.ids = ap (λ v. v.ids) c.self.view_is in
    let none : slice_get c.self.inside.places.items (index_of c.args.id) ≡ None = cc in (
      λ yes. absurd (false≢true yes),
      λ i. absurd (no_place c.self.inside.ids.items c.self.inside.places.items c.self.invariant c.args.id none (subst (In c.args.id) (sym same) i)),
    )
