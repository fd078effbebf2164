-- The printed ports of a side are read as the shapes of the ports.
use Rattle.std.proofs.Common.{◌≡◌, ℕ, ◌+◌, Bool, true, false, cond, ◌||◌, ◌==◌, List, [], ◌∷◌, length, map, Result, Ok, Err, refl, sym, ap, ◌∙◌, arith}
use Rattle.std.specs.List.{AllByRecursion, list_any, join_with_byte}
use Rattle.std.proofs.lemmas.Bool.{and_from}
use Rattle.std.proofs.lemmas.List.Elements.{recursion_from_All, All-from_recursion}
use Rattle.std.proofs.lemmas.List.Folds.{list_any-append}
use Rattle.port_types.specs.Shape.{IsShape}
use Rattle.port_types.specs.declared.port.Port.{Port}
use Rattle.port_types.specs.declared.port.PortFault.{PortFault}
use Rattle.port_types.specs.declared.port.PortFault.TheVariants.{MemoryPort}
use Rattle.port_types.specs.declared.side.Side.{Side}
use Rattle.port_types.specs.PortText.{marked_texts_from, marked_ports_text}
use Rattle.port_types.specs.PortGrammar.{is_marker_or_none, are_marked, words_of, word_reading, then_ports, words_reading}
use Rattle.port_types.specs.PortLaws.{ArePorts, ReadsPorts, ReadsBack}
use Rattle.components.specs.declared.kind.Kind.{Kind}
use Rattle.components.specs.Kind.{Shape, ports, KindOk}
use Rattle.components.specs.Laws.{PortsAreShapes}
use Rattle.graph_print.specs.Markers.{marker_ok}
use Rattle.graph_print.specs.CanonicalText.{PrintedPort, marker, marked_from, marked_ports}
use Rattle.graph_read.specs.NodeReading.{has_star, shapes_in, text_reading}
use Rattle.read_back.proofs.PairsBack.{text_of_side}

-- ---- the printed ports are ports of the format

module _ (kind : Kind) (side : Side) where
  all_marked : (number : ℕ) (shapes : List Shape) → are_marked (marked_from kind side number shapes) ≡ true
  all_marked number [] = refl
  all_marked number (shape ∷ shapes) = and_from (is_marker_or_none (marker kind side number)) (are_marked (marked_from kind side (number + 1) shapes)) (marker_ok kind side number) (all_marked (number + 1) shapes)

  same_length : (number : ℕ) (shapes : List Shape) → length (marked_from kind side number shapes) ≡ length shapes
  same_length number [] = refl
  same_length number (shape ∷ shapes) = omega (arith, same_length (number + 1) shapes)

  each_shape : (number : ℕ) (shapes : List Shape) → AllByRecursion IsShape shapes → AllByRecursion (λ (port : PrintedPort). IsShape port.shape) (marked_from kind side number shapes)
  each_shape number [] each = tt
  each_shape number (shape ∷ shapes) each = (each.0, each_shape (number + 1) shapes each.1)

  shapes_of : (number : ℕ) (shapes : List Shape) → map (λ (port : PrintedPort). port.shape) (marked_from kind side number shapes) ≡ shapes
  shapes_of number [] = refl
  shapes_of number (shape ∷ shapes) = ap (λ (ss : List Shape). shape ∷ ss) (shapes_of (number + 1) shapes)

pub are_ports : PortsAreShapes → (kind : Kind) (side : Side) → KindOk kind → ArePorts (marked_ports kind side)
are_ports right kind side ok =
    let shapes = ports kind side in
    let bounds = right kind side ok in
    record {
      few = omega (arith, bounds.0, same_length kind side 1 shapes);
      marked = all_marked kind side 1 shapes;
      shapes = All-from_recursion (λ (port : PrintedPort). IsShape port.shape) (marked_ports kind side) (each_shape kind side 1 shapes (recursion_from_All IsShape shapes bounds.1));
    }

side_reads : ReadsBack → (side : Side) (printed : List PrintedPort) → ArePorts printed → text_reading side (text_of_side side printed) ≡ Ok (map (λ (port : PrintedPort). port.shape) printed)
side_reads reads side [] are = refl
side_reads reads side (port ∷ printed) are = ap shapes_in (reads side (port ∷ printed) are)

pub ports_read : PortsAreShapes → ReadsBack → (kind : Kind) (side : Side) → KindOk kind → text_reading side (text_of_side side (marked_ports kind side)) ≡ Ok (ports kind side)
ports_read right reads kind side ok =
    side_reads reads side (marked_ports kind side) (are_ports right kind side ok) ∙ ap (λ (shapes : List Shape). Ok shapes) (shapes_of kind side 1 (ports kind side))

-- ---- and none is one to a memory

abbrev AreStarless : List (List ℕ) → Type 0
AreStarless words = AllByRecursion (λ word. list_any (λ byte. byte == 42) word ≡ false) words

not_refused : (star : Bool) (read : Result Port PortFault) (port : Port) → cond star (Err MemoryPort) read ≡ Ok port → star ≡ false
not_refused true read port e = absurd (cc)
not_refused false read port e = refl

word_starless : (side : Side) (number : ℕ) (word : List ℕ) (port : Port) → word_reading side number word ≡ Ok port → list_any (λ byte. byte == 42) word ≡ false
unfolding word_reading
word_starless side number word port e = not_refused (list_any (λ byte. byte == 42) word) _ port e

both_read : (first : Result Port PortFault) (more : Result (List Port) PortFault) (ports : List Port) → then_ports first more ≡ Ok ports →
    ((port : Port) × (first ≡ Ok port)) × ((others : List Port) × (more ≡ Ok others))
both_read (Err fault) more ports e = absurd (cc)
both_read (Ok port) (Err fault) ports e = absurd (cc)
both_read (Ok port) (Ok others) ports e = ((port, refl), (others, refl))

words_starless : (side : Side) (number : ℕ) (words : List (List ℕ)) (ports : List Port) → words_reading side number words ≡ Ok ports → AreStarless words
words_starless side number [] ports e = tt
words_starless side number (word ∷ words) ports e =
    let both = both_read (word_reading side number word) (words_reading side (number + 1) words) ports e in
    (word_starless side number word both.0.0 both.0.1, words_starless side (number + 1) words both.1.0 both.1.1)

join_starless : (words : List (List ℕ)) → AreStarless words → list_any (λ byte. byte == 42) (join_with_byte 32 words) ≡ false
join_starless [] each = refl
join_starless (word ∷ []) each = each.0
join_starless (word ∷ other ∷ words) each =
    list_any-append (λ byte. byte == 42) word (32 ∷ join_with_byte 32 (other ∷ words)) ∙ (λ i. each.0 i || join_starless (other ∷ words) each.1 i)

side_starless : ReadsPorts → ReadsBack → (side : Side) (printed : List PrintedPort) → ArePorts printed → has_star (text_of_side side printed) ≡ false
side_starless says reads side [] are = refl
side_starless says reads side (port ∷ printed) are =
    let text = marked_ports_text side (port ∷ printed) in
    let read = reads side (port ∷ printed) are in
    let words : words_of text ≡ marked_texts_from side 1 (port ∷ printed) = ((says side text (port ∷ printed)).0 read).0 in
    join_starless (marked_texts_from side 1 (port ∷ printed))
    (words_starless side 1 (marked_texts_from side 1 (port ∷ printed)) (port ∷ printed) (ap (words_reading side 1) (sym words) ∙ read))

pub ports_starless : PortsAreShapes → ReadsPorts → ReadsBack → (kind : Kind) (side : Side) → KindOk kind → has_star (text_of_side side (marked_ports kind side)) ≡ false
ports_starless right says reads kind side ok = side_starless says reads side (marked_ports kind side) (are_ports right kind side ok)
