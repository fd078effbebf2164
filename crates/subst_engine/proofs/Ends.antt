-- What stands at the ends of wires: an inner node, or an Entry or an Exit.
use Rattle.std.proofs.Common.{◌≡◌, true, Option, Some, None, refl, sym, ap, subst, ◌∙◌}
use Rattle.std.specs.FinMap as map
use Rattle.std.proofs.lemmas.Bool.{true≢false}
use Rattle.std.proofs.lemmas.Option.{none-some, same_Some}
use Rattle.components.specs.declared.kind.Kind.{Kind}
use Rattle.components.specs.declared.kind.Kind.TheVariants.{Entry, Exit, Buffer, Fork, Join, Split, Operator, Constant, Source0, Sink0, Pure, Mux, Branch, Merge, CtrlMerge, Init, Tagger}
use Rattle.components.specs.Name.{Name, Port, port_get}
use Rattle.components.specs.Kind.{Shape, ins, outs}
use Rattle.components.specs.NamedGraph.{NamedGraph, IsWire}
use Rattle.components.specs.Node.{Body}
use Rattle.circuits.specs.Circuit.{circuit_of, kind_of_body}
use Rattle.circuits.specs.Replacing.{is_inner}
use Rattle.circuits.specs.ReplacedGraph.{has_inner}

-- an inner kind, an Entry or an Exit
pub data Role (k : Kind) : Type 0 where
  inside : is_inner (Some k) ≡ true → Role k
  entry : (a : Shape) → k ≡ Entry a → Role k
  exit : (a : Shape) → k ≡ Exit a → Role k

pub role : (k : Kind) → Role k
role (Entry a) = entry a refl
role (Exit a) = exit a refl
role (Buffer a) = inside refl
role (Fork a count) = inside refl
role (Join shapes) = inside refl
role (Split shapes) = inside refl
role (Operator op widths width) = inside refl
role (Constant a width value) = inside refl
role (Source0 a) = inside refl
role (Sink0 a) = inside refl
role (Pure fun a) = inside refl
role (Mux a) = inside refl
role (Branch a) = inside refl
role (Merge a count) = inside refl
role (CtrlMerge a count width) = inside refl
role (Init value mark) = inside refl
role (Tagger a tags) = inside refl

-- an inner node is one of the graph
pub inner_there : (g : NamedGraph) (n : Name) → has_inner g n ≡ true → (body : Body) × (map.get g.nodes n ≡ Some body)
inner_there g n inner = by (map.get g.nodes n) refl
  where
    by : (o : Option Body) → map.get g.nodes n ≡ o → (body : Body) × (map.get g.nodes n ≡ Some body)
    by None is = absurd (true≢false (sym inner ∙ ap (λ o. is_inner (kind_of_body o)) is))
    by (Some body) is = (body, is)

-- a node that is looked up by its kind
pub found_body : (o : Option Body) (k : Kind) → kind_of_body o ≡ Some k → (body : Body) × (o ≡ Some body) × (body.kind ≡ k)
found_body None k is = absurd (none-some k is)
found_body (Some body) k is = (body, refl, same_Some _ _ is)

pub no_body : (o : Option Body) → kind_of_body o ≡ None → o ≡ None
no_body None is = refl
no_body (Some body) is = absurd (none-some body.kind (sym is))

-- An input is of an inner node or an Exit, an output of an inner node or an Entry

pub data IsInput (g : NamedGraph) (p : Port) : Type 0 where
  of_inner : has_inner g p.node ≡ true → IsInput g p
  of_exit : (a : Shape) → (circuit_of g).kind_at p.node ≡ Some (Exit a) → IsInput g p

pub data IsOutput (g : NamedGraph) (q : Port) : Type 0 where
  of_inner : has_inner g q.node ≡ true → IsOutput g q
  of_entry : (a : Shape) → (circuit_of g).kind_at q.node ≡ Some (Entry a) → IsOutput g q

module _ (g : NamedGraph) where
  input_by : (p : Port) (k : Kind) (s : Shape) → (circuit_of g).kind_at p.node ≡ Some k → port_get (ins k) p.port ≡ Some s → Role k → IsInput g p
  input_by p k s found there (inside is) = of_inner (ap is_inner found ∙ is)
  input_by p k s found there (entry a is) = absurd (none-some s (subst (λ x. port_get (ins x) p.port ≡ Some s) is there))
  input_by p k s found there (exit a is) = of_exit a (found ∙ ap (λ x. Some x) is)

  output_by : (q : Port) (k : Kind) (s : Shape) → (circuit_of g).kind_at q.node ≡ Some k → port_get (outs k) q.port ≡ Some s → Role k → IsOutput g q
  output_by q k s found there (inside is) = of_inner (ap is_inner found ∙ is)
  output_by q k s found there (entry a is) = of_entry a (found ∙ ap (λ x. Some x) is)
  output_by q k s found there (exit a is) = absurd (none-some s (subst (λ x. port_get (outs x) q.port ≡ Some s) is there))

  pub input_of : (q p : Port) → IsWire g q p → IsInput g p
  input_of q p wire = input_by p wire.to.kind wire.shape (ap kind_of_body wire.is_to) wire.enters (role wire.to.kind)

  pub output_of : (q p : Port) → IsWire g q p → IsOutput g q
  output_of q p wire = output_by q wire.from.kind wire.shape (ap kind_of_body wire.is_from) wire.leaves (role wire.from.kind)
