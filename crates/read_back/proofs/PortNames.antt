-- The name of a port is read as its number.
use Rattle.std.proofs.Common.{◌≡◌, ◌≢◌, ℕ, zero, suc, ◌+◌, ◌≤◌, ◌<◌, ◌^◌, true, false, cond, List, [], ◌∷◌, length, Some, sym, ap, subst, ◌∙◌, arith}
use Rattle.std.specs.Prelude.{bytes_eq}
use Rattle.std.proofs.lemmas.Option.{same_Some}
use Rattle.std.specs.Option.{option_map}
use Rattle.port_types.specs.declared.side.Side.{Side}
use Rattle.port_types.specs.PortText.{port_name}
use Rattle.components.specs.Name.{port_get}
use Rattle.components.specs.Numbered.{one_number}
use Rattle.components.specs.Kind.{Shape, ports}
use Rattle.components.specs.NamedGraph.{NamedGraph, IsTyped}
use Rattle.components.specs.Laws.{PortsAreShapes}
use Rattle.graph_read.specs.GraphReading.{named_in}
use Rattle.components.specs.Orders.{same_bytes, other_bytes}
use Rattle.read_back.proofs.EdgesBack.{NamesPorts}

pub last_port : {A : Type 0} (xs : List A) (port : ℕ) (x : A) → port_get xs port ≡ Some x → port ≤ length xs
last_port [] port x is = absurd (cc)
last_port (y ∷ xs) zero x is = omega arith
last_port (y ∷ xs) (suc zero) x is = omega arith
last_port (y ∷ xs) (suc (suc i)) x is = omega (arith, last_port xs (suc i) x is)

-- the names of different ports differ
other_name : (side : Side) (a b : ℕ) → a < 2 ^ 64 → b < 2 ^ 64 → a ≢ b → bytes_eq (port_name side a) (port_name side b) ≡ false
other_name side a b small also other = other_bytes (port_name side a) (port_name side b) (λ same. other (one_number side a b small also same))

-- a port is found by its name
found_from : (side : Side) (number i : ℕ) (shapes : List Shape) (shape : Shape) → number + length shapes ≤ 1000 → port_get shapes (suc i) ≡ Some shape →
    named_in side (port_name side (number + i)) number shapes ≡ Some (number + i, shape)
found_from side number i [] shape few is = absurd (cc)
found_from side number zero (x ∷ shapes) shape few is =
    let same : number + 0 ≡ number = omega arith in
    let test : bytes_eq (port_name side (number + 0)) (port_name side number) ≡ true = same_bytes (port_name side (number + 0)) (port_name side number) (ap (port_name side) same) in
    ap (λ t. cond t (Some (number, x)) (named_in side (port_name side (number + 0)) (number + 1) shapes)) test
    ∙ (λ j. Some (sym same j, same_Some x shape is j))
found_from side number (suc i) (x ∷ shapes) shape few is =
    let next : number + suc i ≡ (number + 1) + i = omega arith in
    let some : suc i ≤ length shapes = last_port shapes (suc i) shape is in
    let test = other_name side (number + suc i) number (omega (arith, few, some)) (omega (arith, few)) (λ same. omega (arith, same)) in
    ap (λ t. cond t (Some (number, x)) (named_in side (port_name side (number + suc i)) (number + 1) shapes)) test
    ∙ ap (λ n. named_in side (port_name side n) (number + 1) shapes) next
    ∙ found_from side (number + 1) i shapes shape (omega (arith, few)) is
    ∙ ap (λ (n : ℕ). Some (n, shape)) (sym next)

found_at : (side : Side) (number : ℕ) (shapes : List Shape) (shape : Shape) → length shapes ≤ 64 → port_get shapes number ≡ Some shape → named_in side (port_name side number) 1 shapes ≡ Some (number, shape)
found_at side zero [] shape few is = absurd (cc)
found_at side zero (x ∷ shapes) shape few is = absurd (cc)
found_at side (suc i) shapes shape few is =
    let same : suc i ≡ 1 + i = omega arith in
    subst (λ n. named_in side (port_name side n) 1 shapes ≡ Some (n, shape)) (sym same) (found_from side 1 i shapes shape (omega (arith, few)) is)

pub names_ports : PortsAreShapes → (g : NamedGraph) → IsTyped g → NamesPorts g
names_ports right g typed side name body number shape there is =
    let few : length (ports body.kind side) ≤ 64 = (right body.kind side (typed.kinds name body there)).0 in
    ap (option_map (λ (found : ℕ × Shape). (record { node = name; port = found.0 }, found.1))) (found_at side number (ports body.kind side) shape few is)
