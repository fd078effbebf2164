-- Ids by the names that they denote, in one graph and in two.
use Rattle.std.proofs.Common.{◌≡◌, ℕ, ◌<◌, Bool, true, false, if◌then◌else◌, [], Some, None, refl, sym, ap, ◌∙◌}
use Rattle.std.proofs.lemmas.Bool.{false≢true}
use Rattle.std.proofs.lemmas.Option.{none-some, same_Some}
use Rattle.std.specs.Prelude.{Option, MatchOption, is_some, unwrap_or}
use Rattle.std.proofs.Math.Bridge.{no_suc-le-zero}
use Rattle.std.specs.FinMap as finite
use Rattle.components.specs.declared.kind.Kind.{Kind}
use Rattle.components.specs.declared.node.Node.{Node}
use Rattle.components.specs.Name.{Name}
use Rattle.components.specs.Node.{Body}
use Rattle.circuits.specs.Circuit.{circuit_of, kind_of_body}
use Rattle.circuits.specs.Plug.{Apart}
use Rattle.graph_core.specs.declared.place.NodeId.{NodeId}
use Rattle.graph_core.specs.Denoting.{denoted_by}
use Rattle.module_sem.specs.declared.link.Link.{Link}
use Rattle.module_sem.specs.Beside.{AreApart}
use Rattle.graph_core.specs.Place.{id_of}
use Rattle.graph_core.specs.GraphValue.{GraphValue, Denotes, IsGraph, IsNodeAt, name_by}

-- the node behind a kind
pub record HasBody (o : Option Body) (kind : Kind) : Type 0 where
  pub body : Body
  pub is : o ≡ Some body
  pub of_kind : body.kind ≡ kind

pub body_behind : (o : Option Body) (kind : Kind) → kind_of_body o ≡ Some kind → HasBody o kind
body_behind None kind e = absurd (none-some kind e)
body_behind (Some body) kind e = record { body = body; is = refl; of_kind = same_Some body.kind kind e }

-- no node has the empty name, which that of an id stands for where no live node has it
pub nothing_unnamed : (g : GraphValue) → IsGraph g → finite.get g.graph.nodes [] ≡ None
nothing_unnamed g is = at (finite.get g.graph.nodes []) refl
  where
    at : (o : Option Body) → finite.get g.graph.nodes [] ≡ o → o ≡ None
    at None e = refl
    at (Some body) e = absurd (no_suc-le-zero (is.graph.names [] body e).some)

pub nothing_dead : (g h : GraphValue) → IsGraph h → (id : NodeId) → finite.get g.ids id ≡ None → finite.get h.graph.nodes (name_by g.ids id) ≡ None
nothing_dead g h is id dead = ap (λ o. finite.get h.graph.nodes (unwrap_or o [])) dead ∙ nothing_unnamed h is

-- the name of a live node, and whether a name is found

pub name_at : (g : GraphValue) (id : NodeId) (node : Node) → IsNodeAt g id node → name_by g.ids id ≡ node.name
name_at g id node at = ap (λ o. unwrap_or o []) at.denotes

pub some_found : (g : GraphValue) → IsGraph g → (name : Name) (o : Option NodeId) → MatchOption o (finite.get g.graph.nodes name ≡ None) (λ id. Denotes g id name) → is_some o ≡ is_some (finite.get g.graph.nodes name)
some_found g is name None found = sym (ap is_some found)
some_found g is name (Some id) found = sym (ap is_some (is.denoted id name found).1)

-- the id of a node denotes it
pub named_denotes : (g : GraphValue) → IsGraph g → (id : NodeId) (kind : Kind) → (circuit_of g.graph).kind_at (name_by g.ids id) ≡ Some kind → Denotes g id (name_by g.ids id)
named_denotes g is id kind e =
    let node = body_behind (finite.get g.graph.nodes (name_by g.ids id)) kind e in
    denoted_by g is (record { node = id; port = 0 }) (name_by g.ids id) node.body node.is refl

-- ids of nodes with one name are one
pub same_id : (g : GraphValue) → IsGraph g → (i j : NodeId) (k m : Kind) → (circuit_of g.graph).kind_at (name_by g.ids i) ≡ Some k → (circuit_of g.graph).kind_at (name_by g.ids j) ≡ Some m
    → name_by g.ids i ≡ name_by g.ids j → i ≡ j
same_id g is i j k m at_i at_j same =
    is.alone i j (name_by g.ids j) (named_denotes g is i k at_i ∙ ap Some same) (named_denotes g is j m at_j)

-- so are the graphs, where the names of two are apart
module _ (c g : GraphValue) (is_c : IsGraph c) (is_g : IsGraph g) (apart : Apart (circuit_of c.graph) (circuit_of g.graph)) where
  abbrev side : Bool → GraphValue
  side outer = if outer then c else g

  pub same_end : (a b : Bool) (i j : NodeId) (k m : Kind) → (circuit_of (side a).graph).kind_at (name_by (side a).ids i) ≡ Some k → (circuit_of (side b).graph).kind_at (name_by (side b).ids j) ≡ Some m
      → name_by (side a).ids i ≡ name_by (side b).ids j → (a ≡ b) × (i ≡ j)
  same_end true true i j k m at_i at_j same = (refl, same_id c is_c i j k m at_i at_j same)
  same_end true false i j k m at_i at_j same = absurd (apart (name_by g.ids j) k m (ap (circuit_of c.graph).kind_at (sym same) ∙ at_i) at_j)
  same_end false true i j k m at_i at_j same = absurd (apart (name_by c.ids j) m k at_j (ap (circuit_of g.graph).kind_at (sym same) ∙ at_i))
  same_end false false i j k m at_i at_j same = (refl, same_id g is_g i j k m at_i at_j same)

-- no name is in both graphs where that of no id is in the second

pub apart_where_none : (c g : GraphValue) → IsGraph c → ((k : ℕ) → k < c.slots → is_some (finite.get g.graph.nodes (name_by c.ids (id_of k))) ≡ false) → Apart (circuit_of c.graph) (circuit_of g.graph)
apart_where_none c g is none n k m at_c at_g =
    let left = body_behind (finite.get c.graph.nodes n) k at_c in
    let right = body_behind (finite.get g.graph.nodes n) m at_g in
    let (id, denotes) = is.live n left.body left.is in
    let missing = none id.index (is.within id n denotes) in
    false≢true (sym missing ∙ ap (λ o. is_some (finite.get g.graph.nodes (unwrap_or o []))) denotes ∙ ap is_some right.is)

pub none_where_apart : (c g : GraphValue) → IsGraph c → IsGraph g → Apart (circuit_of c.graph) (circuit_of g.graph) → (id : NodeId) → is_some (finite.get g.graph.nodes (name_by c.ids id)) ≡ false
none_where_apart c g is_c is_g apart id = at (finite.get c.ids id) refl
  where
    in_both : (name : Name) → Denotes c id name → (o : Option Body) → finite.get g.graph.nodes name ≡ o → is_some o ≡ false
    in_both name denotes None e = refl
    in_both name denotes (Some body) e =
        let (other, found) = is_c.denoted id name denotes in
        absurd (apart name other.kind body.kind (ap kind_of_body found) (ap kind_of_body e))

    at : (o : Option Name) → finite.get c.ids id ≡ o → is_some (finite.get g.graph.nodes (name_by c.ids id)) ≡ false
    at None e = ap is_some (nothing_dead c g is_g id e)
    at (Some name) e = ap (λ o. is_some (finite.get g.graph.nodes (unwrap_or o []))) e ∙ in_both name e (finite.get g.graph.nodes name) refl

-- the same of graphs by names
pub are_apart : (c g : GraphValue) → Apart (circuit_of c.graph) (circuit_of g.graph) → AreApart c.graph g.graph
are_apart c g apart name body found = at (finite.get c.graph.nodes name) refl
  where
    at : (o : Option Body) → finite.get c.graph.nodes name ≡ o → o ≡ None
    at None e = refl
    at (Some other) e = absurd (apart name other.kind body.kind (ap kind_of_body e) (ap kind_of_body found))

-- what stands past the end of a list of links
abbrev pub no_link : Link
no_link = record { outer_exit = false; exit = id_of 0; entry = id_of 0 }
