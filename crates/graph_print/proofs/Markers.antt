-- Markers are those of the format.
use Rattle.std.proofs.Common.{◌≡◌, ◌∙◌, ℕ, zero, suc, ◌+◌, ◌-◌, ◌≤◌, List, [], ◌∷◌, ◌++◌, take, Some, refl, ap, arith}
use Rattle.std.proofs.lemmas.Option.{same_Some}
use Rattle.std.specs.Prelude.{IsTrue}
use Rattle.port_types.specs.declared.side.Side.{Side}
use Rattle.port_types.specs.PortGrammar.{are_marked}
use Rattle.components.specs.declared.kind.Kind.{Kind}
use Rattle.components.specs.Kind.{Shape}
use Rattle.components.specs.Name.{port_get}
use Rattle.graph_print.specs.CanonicalText.{PrintedPort, marker, marked_from}
use Rattle.graph_print.specs.Markers.{marker_ok}

pub marked : (kind : Kind) (side : Side) (number : ℕ) (shapes : List Shape) → IsTrue (are_marked (marked_from kind side number shapes))
marked kind side number [] = refl
marked kind side number (shape ∷ shapes) = rw (marker_ok kind side number) (marked kind side (number + 1) shapes)

-- the marked port of this number and shape
abbrev pub marked_port : Kind → Side → ℕ → Shape → PrintedPort
marked_port kind side number shape = record { marker = marker kind side number; shape = shape }

one_more : (kind : Kind) (side : Side) (number k : ℕ) (shapes : List Shape) (shape : Shape) → port_get shapes (suc k) ≡ Some shape →
    marked_from kind side number (take (suc k) shapes) ≡ marked_from kind side number (take k shapes) ++ marked_port kind side (number + k) shape ∷ []
one_more kind side number k [] shape there = cc
one_more kind side number zero (x ∷ shapes) shape there =
    let same : number ≡ number + 0 = omega arith in
    λ i. marked_port kind side (same i) (same_Some x shape there i) ∷ []
one_more kind side number (suc k) (x ∷ shapes) shape there =
    let same : (number + 1) + k ≡ number + suc k = omega arith in
    ap (λ ports. marked_port kind side number x ∷ ports) (one_more kind side (number + 1) k shapes shape there)
    ∙ ap (λ n. marked_from kind side number (x ∷ take k shapes) ++ marked_port kind side n shape ∷ []) same

-- up to a port, and the port
pub marked_up_to : (kind : Kind) (side : Side) (number : ℕ) (shapes : List Shape) (shape : Shape) → 1 ≤ number → port_get shapes number ≡ Some shape →
    marked_from kind side 1 (take number shapes) ≡ marked_from kind side 1 (take (number - 1) shapes) ++ marked_port kind side number shape ∷ []
marked_up_to kind side zero shapes shape some there = absurd (omega (arith, some))
marked_up_to kind side (suc k) shapes shape some there =
    let same : k ≡ suc k - 1 = omega arith in
    let number : 1 + k ≡ suc k = omega arith in
    one_more kind side 1 k shapes shape there ∙ (λ i. marked_from kind side 1 (take (same i) shapes) ++ marked_port kind side (number i) shape ∷ [])
