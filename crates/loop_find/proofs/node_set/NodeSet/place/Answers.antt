use Rattle.std.proofs.Common.{◌≡◌, ◌∙◌, None, sym, ap, subst}
use Rattle.std.specs.Prelude.{slice_get, Some}
use Rattle.std.proofs.lemmas.Bool.{false≢true}
use Rattle.circuits.specs.Replacing.{In}
use Rattle.graph_core.specs.Place.{index_of}
use Rattle.loop_find.proofs.Places.{stands, no_place}
use Rattle.loop_find.proofs.node_set.NodeSet.place.Goals as goal

pub returns-in_default : goal.returns-in_default
returns-in_default c =
    let same : c.self.inside.ids.items ≡ c.args.self.now.ids = ap (λ v. v.ids) c.self.view_is in
    let found : slice_get c.self.inside.places.items (index_of c.args.id) ≡ Some c.in-Some.place = cc in
    λ i. false≢true (sym c.if-stands_at.false ∙ c.stands_at.ensures.1 (subst (λ ids. slice_get ids c.in-Some.place ≡ Some c.args.id) same
    (stands c.self.inside.ids.items c.self.inside.places.items c.self.invariant c.args.id c.in-Some.place found (subst (In c.args.id) (sym same) i))))

pub returns-in_default-2 : goal.returns-in_default-2
returns-in_default-2 c =
    let same : c.self.inside.ids.items ≡ c.args.self.now.ids = ap (λ v. v.ids) c.self.view_is in
    let unplaced : slice_get c.self.inside.places.items (index_of c.args.id) ≡ None = cc in
    λ i. no_place c.self.inside.ids.items c.self.inside.places.items c.self.invariant c.args.id unplaced (subst (In c.args.id) (sym same) i)
