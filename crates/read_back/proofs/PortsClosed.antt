-- In a typed graph no port is on no wire.
use Rattle.std.proofs.Common.{◌≡◌, ℕ, suc, ◌+◌, true, cond, ◌&&◌, ◌==◌, List, [], ◌∷◌, ◌++◌, Some, None, is_some, refl, sym, ap, subst, ◌∙◌, arith}
use Rattle.std.specs.Prelude.{bytes_eq}
use Rattle.std.specs.Option.{option_or, option_map}
use Rattle.std.specs.FinMap as map_of
use Rattle.std.proofs.lemmas.Bool.{and_from, eq-eqb}
use Rattle.std.proofs.lemmas.List.{append_assoc}
use Rattle.port_types.specs.declared.side.Side.{Side}
use Rattle.port_types.specs.declared.side.Side.TheVariants.{Ins, Outs}
use Rattle.components.specs.Name.{Name, Port, port_cmp, port_get}
use Rattle.components.specs.Kind.{Shape, ports}
use Rattle.components.specs.Node.{Body}
use Rattle.components.specs.NamedGraph.{NamedGraph, IsTyped, is_wired}
use Rattle.graph_read.specs.GraphReading.{first_free, open_port, open_refusal, first_open}
use Rattle.components.specs.Orders.{name_total, name_same, same_bytes}
use Rattle.components.specs.Entries.{found_there}
use Rattle.read_back.proofs.MapEntries.{found_passes}

module _ (g : NamedGraph) (typed : IsTyped g) where
  -- the output feeds the wire that is there
  feeding : (p target : Port) → map_of.get g.feeders target ≡ Some p → is_wired g Outs p ≡ true
  feeding p target is =
      found_passes port_cmp (λ wire. bytes_eq wire.1.node p.node && (wire.1.port == p.port)) target p
      (λ q. and_from (bytes_eq p.node p.node) (p.port == p.port) (same_bytes p.node p.node refl) (eq-eqb p.port p.port refl)) (map_of.entries g.feeders)
      (sym (map_of.get-entries g.feeders target) ∙ is)

  wired : (side : Side) (name : Name) (body : Body) (number : ℕ) (shape : Shape) → map_of.get g.nodes name ≡ Some body → port_get (ports body.kind side) number ≡ Some shape →
      is_wired g side (record { node = name; port = number }) ≡ true
  wired Ins name body number shape there is = ap is_some (typed.inputs (record { node = name; port = number }) body shape there is).1
  wired Outs name body number shape there is =
      let fed = typed.outputs (record { node = name; port = number }) body shape there is in
      feeding (record { node = name; port = number }) fed.0 fed.1

  none_free : (side : Side) (name : Name) (number : ℕ) (shapes : List Shape) →
      ((i : ℕ) (shape : Shape) → port_get shapes (suc i) ≡ Some shape → is_wired g side (record { node = name; port = number + i }) ≡ true) →
      first_free g side name number shapes ≡ None
  none_free side name number [] each = refl
  none_free side name number (shape ∷ shapes) each =
      let here : is_wired g side (record { node = name; port = number }) ≡ true = subst (λ (n : ℕ). is_wired g side (record { node = name; port = n }) ≡ true) (omega arith) (each 0 shape refl) in
      ap (λ t. cond t (first_free g side name (number + 1) shapes) (Some number)) here
      ∙ none_free side name (number + 1) shapes (λ i other is.
      let next : number + suc i ≡ number + 1 + i = omega arith in
      subst (λ (n : ℕ). is_wired g side (record { node = name; port = n }) ≡ true) next (each (suc i) other is))

  side_closed : (side : Side) (name : Name) (body : Body) → map_of.get g.nodes name ≡ Some body → first_free g side name 1 (ports body.kind side) ≡ None
  side_closed side name body there =
      none_free side name 1 (ports body.kind side) (λ i shape is.
      let same : suc i ≡ 1 + i = omega arith in
      subst (λ (n : ℕ). is_wired g side (record { node = name; port = n }) ≡ true) same (wired side name body (suc i) shape there is))

  node_closed : (name : Name) (body : Body) → map_of.get g.nodes name ≡ Some body → open_port g (name, body) ≡ None
  node_closed name body there =
      λ i. option_or (option_map (λ number. (Ins, number)) (side_closed Ins name body there i)) (option_map (λ number. (Outs, number)) (side_closed Outs name body there i))

  from_here : (before after : List (Name × Body)) (place : ℕ) → map_of.entries g.nodes ≡ before ++ after → first_open g place after ≡ None
  from_here before [] place whole = refl
  from_here before (node ∷ after) place whole =
      let there = found_there name_total name_same g.nodes before node after whole in
      ap (λ o. option_or (open_refusal place node.0 o) (first_open g (place + 1) after)) (node_closed node.0 node.1 there)
      ∙ from_here (before ++ node ∷ []) after (place + 1) (whole ∙ sym (append_assoc before (node ∷ []) after))

  pub none_open : first_open g 1 (map_of.entries g.nodes) ≡ None
  none_open = from_here [] (map_of.entries g.nodes) 1 refl
