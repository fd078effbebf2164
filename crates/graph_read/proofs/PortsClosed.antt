-- Where no port of the nodes is found open, each stands on a wire.
use Rattle.std.proofs.Common.{◌≡◌, ℕ, zero, suc, ◌+◌, Bool, true, false, List, [], ◌∷◌, All, Contains, Option, Some, None, is_some, refl, sym, ap, ◌∙◌, arith, if◌then◌else◌}
use Rattle.std.specs.Option.{option_or, option_map}
use Rattle.std.specs.FinMap as map
use Rattle.std.proofs.lemmas.Bool.{true≢false}
use Rattle.std.proofs.lemmas.List.Elements.{All-nil, All-cons, All-contains}
use Rattle.std.proofs.lemmas.Option.{none-some}
use Rattle.port_types.specs.declared.side.Side.{Side}
use Rattle.port_types.specs.declared.side.Side.TheVariants.{Ins, Outs}
use Rattle.components.specs.Kind.{Shape, ports, ins, outs}
use Rattle.components.specs.Name.{Name, Port, port_get}
use Rattle.components.specs.Node.{Body}
use Rattle.components.specs.NamedGraph.{NamedGraph, is_wired}
use Rattle.graph_read.specs.declared.fault.GraphRefusal.{GraphRefusal}
use Rattle.graph_read.specs.GraphReading.{first_free, open_port, open_refusal, first_open}
use Rattle.graph_read.proofs.OpenPorts.{port_named, opened}
use Rattle.components.specs.Wired.{fed_where_wired}

-- The ports of a side

module _ (g : NamedGraph) (side : Side) (name : Name) where
  -- each of these ports, from this number on, is on a wire
  abbrev AreWired : ℕ → List Shape → Type 0
  AreWired number shapes = (i : ℕ) (shape : Shape) → port_get shapes (suc i) ≡ Some shape → is_wired g side (port_named name (number + i)) ≡ true

  first_wired : (number : ℕ) (shape : Shape) (shapes : List Shape) → (first_free g side name (number + 1) shapes ≡ None → AreWired (number + 1) shapes) →
      (wired : Bool) → is_wired g side (port_named name number) ≡ wired → (if wired then first_free g side name (number + 1) shapes else Some number) ≡ None → AreWired number (shape ∷ shapes)
  first_wired number shape shapes later false is none i other there = absurd (none-some number (sym none))
  first_wired number shape shapes later true is none zero other there =
      let at : number + zero ≡ number = omega arith in ap (λ (n : ℕ). is_wired g side (port_named name n)) at ∙ is
  first_wired number shape shapes later true is none (suc i) other there =
      let at : number + suc i ≡ number + 1 + i = omega arith in ap (λ (n : ℕ). is_wired g side (port_named name n)) at ∙ later none i other there

  all_wired : (number : ℕ) (shapes : List Shape) → first_free g side name number shapes ≡ None → AreWired number shapes
  all_wired number [] none = λ i shape there. absurd (none-some shape there)
  all_wired number (shape ∷ shapes) none =
      first_wired number shape shapes (all_wired (number + 1) shapes) (is_wired g side (port_named name number)) refl none

  no_port : (shapes : List Shape) (shape : Shape) → port_get shapes zero ≡ Some shape → ⊥
  no_port [] shape there = none-some shape there
  no_port (first ∷ shapes) shape there = none-some shape there

  port_wired : (shapes : List Shape) (number : ℕ) (shape : Shape) → first_free g side name 1 shapes ≡ None → port_get shapes number ≡ Some shape → is_wired g side (port_named name number) ≡ true
  port_wired shapes zero shape none there = absurd (no_port shapes shape there)
  port_wired shapes (suc i) shape none there =
      let at : suc i ≡ 1 + i = omega arith in ap (λ (n : ℕ). is_wired g side (port_named name n)) at ∙ all_wired 1 shapes none i shape there

-- The nodes

-- neither of two answers is there
neither : {A B C : Type 0} (f : A → C) (h : B → C) (a : Option A) (b : Option B) → option_or (option_map f a) (option_map h b) ≡ None → (a ≡ None) × (b ≡ None)
neither f h None None none = (refl, refl)
neither f h None (Some y) none = absurd (none-some (h y) (sym none))
neither f h (Some x) b none = absurd (none-some (f x) (sym none))

node_wired : (g : NamedGraph) (node : Name × Body) → open_port g node ≡ None → (side : Side) (number : ℕ) (shape : Shape) →
    port_get (ports node.1.kind side) number ≡ Some shape → is_wired g side (port_named node.0 number) ≡ true
node_wired g node none side number shape there = on side there
  where
    closed : (first_free g Ins node.0 1 (ins node.1.kind) ≡ None) × (first_free g Outs node.0 1 (outs node.1.kind) ≡ None)
    closed = neither (λ (n : ℕ). (Ins, n)) (λ (n : ℕ). (Outs, n)) (first_free g Ins node.0 1 (ins node.1.kind)) (first_free g Outs node.0 1 (outs node.1.kind)) none

    on : (s : Side) → port_get (ports node.1.kind s) number ≡ Some shape → is_wired g s (port_named node.0 number) ≡ true
    on Ins there = port_wired g Ins node.0 (ins node.1.kind) number shape closed.0 there
    on Outs there = port_wired g Outs node.0 (outs node.1.kind) number shape closed.1 there

first_closed : (place : ℕ) (name : Name) (found : Option (Side × ℕ)) {rest : Option GraphRefusal} → option_or (open_refusal place name found) rest ≡ None → (found ≡ None) × (rest ≡ None)
first_closed place name None none = (refl, none)
first_closed place name (Some port) none = absurd (none-some (opened place name port) (sym none))

each_closed : (g : NamedGraph) (place : ℕ) (nodes : List (Name × Body)) → first_open g place nodes ≡ None → All (λ node. open_port g node ≡ None) nodes
each_closed g place [] none = All-nil (λ (node : Name × Body). open_port g node ≡ None)
each_closed g place (node ∷ nodes) none =
    let parts = first_closed place node.0 (open_port g node) none in
    All-cons (λ (n : Name × Body). open_port g n ≡ None) node nodes parts.0 (each_closed g (place + 1) nodes parts.1)

module _ (g : NamedGraph) (nodes : List (Name × Body)) (none : first_open g 1 nodes ≡ None) (name : Name) (body : Body) (one : Contains nodes (name, body)) where
  pub ports_closed : (side : Side) (number : ℕ) (shape : Shape) → port_get (ports body.kind side) number ≡ Some shape → is_wired g side (port_named name number) ≡ true
  ports_closed = node_wired g (name, body) (All-contains (λ (node : Name × Body). open_port g node ≡ None) nodes (name, body) (each_closed g 1 nodes none) one)

  -- each input of the node is fed
  pub inputs_fed : (number : ℕ) (shape : Shape) → port_get (ins body.kind) number ≡ Some shape → (source : Port) × (map.get g.feeders (port_named name number) ≡ Some source)
  inputs_fed number shape there = value (map.get g.feeders (port_named name number)) (ports_closed Ins number shape there)
    where
      value : (o : Option Port) → is_some o ≡ true → (source : Port) × (o ≡ Some source)
      value None wired = absurd (true≢false (sym wired))
      value (Some source) wired = (source, refl)

  -- each output of the node feeds an input
  pub outputs_feed : (number : ℕ) (shape : Shape) → port_get (outs body.kind) number ≡ Some shape → (target : Port) × (map.get g.feeders target ≡ Some (port_named name number))
  outputs_feed number shape there = fed_where_wired g (port_named name number) (ports_closed Outs number shape there)
