-- The next piece of a list of texts that are joined by a byte.
use Rattle.std.proofs.Common.{◌≡◌, ℕ, suc, ◌+◌, ◌<◌, List, [], ◌∷◌, ◌++◌, length, map, get_or, take, refl, ap, add-zero, arith, append_assoc, length-take, if◌then◌else◌, ◌==◌, false, tests}
use Rattle.std.specs.List.{join_with_byte}
use Rattle.std.specs.Fmt.{decimal}
use Rattle.std.proofs.lemmas.List.{take_more, map-append, length-map}
use Rattle.port_types.specs.declared.side.Side.{Side}
use Rattle.port_types.specs.declared.port.Port.{Port}
use Rattle.port_types.specs.PortText.{shape_text, marked_text, marked_texts_from, marked_ports_text}

-- a last piece goes behind the byte, if it is not the first
join_with_byte-push : (c : ℕ) (pieces : List (List ℕ)) (piece : List ℕ) → join_with_byte c (pieces ++ piece ∷ []) ≡ (join_with_byte c pieces ++ (if length pieces == 0 then [] else c ∷ [])) ++ piece
join_with_byte-push c [] piece = refl
join_with_byte-push c (x ∷ []) piece = simp append_assoc
join_with_byte-push c (x ∷ y ∷ pieces) piece =
    let one_before : (length (y ∷ pieces) == 0) ≡ false = grind (arith, tests) in
    let two_before : (length (x ∷ y ∷ pieces) == 0) ≡ false = grind (arith, tests) in
    rw (join_with_byte-push c (y ∷ pieces) piece, one_before, two_before) (simp append_assoc)

-- one more width
pub next_width : (widths : List ℕ) (i : ℕ) → i < length widths → shape_text (take (i + 1) widths) ≡ (shape_text (take i widths) ++ (if i == 0 then [] else 46 ∷ [])) ++ decimal (get_or widths i 0)
next_width widths i within =
    let count : length (map decimal (take i widths)) ≡ i = simp (length-map, length-take) (omega arith) in
    rw (take_more widths i 0 within, map-append) (rw count at (join_with_byte-push 46 (map decimal (take i widths)) (decimal (get_or widths i 0))))

-- one more port gives one more text
marked_texts_from-push : (side : Side) (number : ℕ) (ports : List Port) (port : Port) → marked_texts_from side number (ports ++ port ∷ []) ≡ marked_texts_from side number ports ++ marked_text side (number + length ports) port ∷ []
marked_texts_from-push side number [] port = rw add-zero refl
marked_texts_from-push side number (first ∷ ports) port =
    let numbers : (number + 1) + length ports ≡ number + length (first ∷ ports) = omega arith in
    ap (λ texts. marked_text side number first ∷ texts) (rw (← numbers) (marked_texts_from-push side (number + 1) ports port))

length-marked_texts_from : (side : Side) (number : ℕ) (ports : List Port) → length (marked_texts_from side number ports) ≡ length ports
length-marked_texts_from side number [] = refl
length-marked_texts_from side number (port ∷ ports) = ap (λ n. suc n) (length-marked_texts_from side (number + 1) ports)

pub next_marked_port : (side : Side) (ports : List Port) (i : ℕ) (d : Port) → i < length ports → marked_ports_text side (take (i + 1) ports) ≡ (marked_ports_text side (take i ports) ++ (if i == 0 then [] else 32 ∷ [])) ++ marked_text side (i + 1) (get_or ports i d)
next_marked_port side ports i d within =
    let before = take i ports in
    let number : 1 + length before ≡ i + 1 = simp length-take (omega arith) in
    let count : length (marked_texts_from side 1 before) ≡ i = rw length-marked_texts_from (omega arith) in
    let texts = marked_texts_from-push side 1 before (get_or ports i d) in
    rw (take_more ports i d within, texts, number) (rw count at (join_with_byte-push 32 (marked_texts_from side 1 before) (marked_text side (i + 1) (get_or ports i d))))
