-- The wires into the first inputs of a node, one input more.
use Rattle.std.proofs.Common.{◌≡◌, ◌∙◌, ℕ, zero, suc, ◌+◌, ◌-◌, ◌≤◌, List, [], ◌∷◌, ◌++◌, length, take, sym, ap, arith, IsSome}
use Rattle.std.proofs.lemmas.List.{append-nil, append_assoc}
use Rattle.std.specs.FinMap as map
use Rattle.components.specs.Name.{Name, Port, port_get}
use Rattle.components.specs.Kind.{Shape}
use Rattle.components.specs.NamedGraph.{NamedGraph}
use Rattle.graph_print.specs.PrintedWires.{wire_of, wires_from}
use Rattle.graph_print.proofs.PortsInOrder.{port_get-within}

-- the wire into the input of this number
abbrev pub wire_at : NamedGraph → Name → ℕ → List (Port × Port)
wire_at g name number = wire_of (record { node = name; port = number }) (map.get g.feeders (record { node = name; port = number }))

module _ (g : NamedGraph) (name : Name) where
  one_more : (number k : ℕ) (shapes : List Shape) → IsSome (port_get shapes (suc k)) → wires_from g name number (take (suc k) shapes) ≡ wires_from g name number (take k shapes) ++ wire_at g name (number + k)
  one_more number k [] there = cc
  one_more number zero (shape ∷ shapes) there =
      let same : number + 0 ≡ number = omega arith in
      append-nil (wire_at g name number) ∙ ap (wire_at g name) (sym same)
  one_more number (suc k) (shape ∷ shapes) there =
      let same : (number + 1) + k ≡ number + suc k = omega arith in
      ap (λ wires. wire_at g name number ++ wires) (one_more (number + 1) k shapes there ∙ ap (λ n. wires_from g name (number + 1) (take k shapes) ++ wire_at g name n) same)
      ∙ sym (append_assoc (wire_at g name number) (wires_from g name (number + 1) (take k shapes)) (wire_at g name (number + suc k)))

  -- up to an input, and the wire into it
  pub wires_up_to : (port : ℕ) (shapes : List Shape) → 1 ≤ port → port ≤ length shapes → wires_from g name 1 (take port shapes) ≡ wires_from g name 1 (take (port - 1) shapes) ++ wire_at g name port
  wires_up_to zero shapes some few = absurd (omega (arith, some))
  wires_up_to (suc k) shapes some few =
      let same : suc k - 1 ≡ k = omega arith in
      let number : 1 + k ≡ suc k = omega arith in
      one_more 1 k shapes (port_get-within shapes (suc k) some few) ∙ (λ i. wires_from g name 1 (take (sym same i) shapes) ++ wire_at g name (number i))
