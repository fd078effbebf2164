use Rattle.std.proofs.Common.{◌≡◌, ◌<◌, ◌∙◌, length, set, arith, rules, sym, ap, subst}
use Rattle.std.proofs.lemmas.Bool.{false≢true}
use Rattle.circuits.specs.Replacing.{In}
use Rattle.graph_core.specs.Place.{index_of}
use Rattle.loop_find.specs.NodeSets.{HavePlaces}
use Rattle.loop_find.proofs.Places.{have_after}
use Rattle.loop_find.proofs.node_set.NodeSet.insert.Goals as goal

pub invariant_of-self : goal.invariant_of-self
invariant_of-self c =
    let same : c.self.inside.ids.items ≡ c.args.self.now.ids = ap (λ v. v.ids) c.self.view_is in
    let room : length c.self.inside.places.items ≡ c.args.self.now.room = ap (λ v. v.room) c.self.view_is in
    let new = λ (i : In c.args.id c.self.inside.ids.items). false≢true (sym c.if-contains.false ∙ c.contains.ensures.1 (subst (In c.args.id) same i)) in
    let below : index_of c.args.id < length c.self.inside.places.items = omega (arith, room, c.requires) in
    let index : index_of c.args.id ≡ c.index.result = sym c.index.ensures in
    let count : length c.self.inside.ids.items ≡ c.len.result = search rules in
    subst (λ n. HavePlaces c.push.new.ids.items (set c.self.inside.places.items n c.len.result)) index
    (subst (λ n. HavePlaces c.push.new.ids.items (set c.self.inside.places.items (index_of c.args.id) n)) count
    (have_after c.self.inside.ids.items c.self.inside.places.items c.self.invariant c.args.id new c.push.result c.push.new.ids.items c.push.ensures.ok c.push.ensures.err below))
