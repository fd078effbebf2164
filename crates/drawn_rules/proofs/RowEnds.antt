-- Entries and Exits that come in rows, place by place.
use Rattle.std.proofs.Common.{◌≡◌, ℕ, suc, ◌+◌, ◌<◌, refl, sym, ap, ◌∙◌, List, [], ◌∷◌, ◌++◌, length, take, map, append_assoc, arith, slice_index_or}
use Rattle.std.proofs.Math.Seq.{take-suc}
use Rattle.std.proofs.lemmas.List.{length-take-le}
use Rattle.components.specs.declared.node.Node.{Node}
use Rattle.components.specs.Kind.{Shape}
use Rattle.circuit_plans.specs.Places.{Place, first, later, item, before, number, each_of}
use Rattle.drawn_rules.specs.declared.row_ends.EndKind.{EndKind}
use Rattle.drawn_rules.specs.RowEnds.{end_node, end_nodes}
use Rattle.drawn_rules.proofs.Places.{each_next}

module _ (end : EndKind) (ends : ℕ) (letter : List ℕ) where
  ends_last : (from : ℕ) (shapes : List Shape) (shape : Shape) → end_nodes end ends letter from (shapes ++ shape ∷ []) ≡ end_nodes end ends letter from shapes ++ end_node end ends letter (from + length shapes) shape ∷ []
  ends_last from [] shape = let e : from ≡ from + 0 = omega arith in ap (λ z. end_node end ends letter z shape ∷ []) e
  ends_last from (s ∷ shapes) shape =
      let e : suc from + length shapes ≡ from + suc (length shapes) = omega arith in
      ap (λ z. end_node end ends letter from s ∷ z) (ends_last (suc from) shapes shape ∙ ap (λ z. end_nodes end ends letter (suc from) shapes ++ end_node end ends letter z shape ∷ []) e)

  ends_taken : (shapes : List Shape) (place : ℕ) (shape : Shape) → slice_index_or shapes place shape ≡ shape → place < length shapes →
      end_nodes end ends letter 1 (take (place + 1) shapes) ≡ end_nodes end ends letter 1 (take place shapes) ++ end_node end ends letter (place + 1) shape ∷ []
  ends_taken shapes place shape is within =
      let next : place + 1 ≡ suc place = omega arith in
      let long : 1 + length (take place shapes) ≡ place + 1 = ap (λ z. 1 + z) (length-take-le place shapes (omega (arith, within))) ∙ omega arith in
      ap (λ z. end_nodes end ends letter 1 (take z shapes)) next ∙ ap (end_nodes end ends letter 1) (take-suc shapes place shape within ∙ ap (λ z. take place shapes ++ z ∷ []) is)
      ∙ ends_last 1 (take place shapes) shape ∙ ap (λ z. end_nodes end ends letter 1 (take place shapes) ++ end_node end ends letter z shape ∷ []) long

  -- one more
  pub ends_more : (shapes : List Shape) (place : ℕ) (shape : Shape) (new old start : List Node) (node : Node) → slice_index_or shapes place shape ≡ shape → place < length shapes →
      new ≡ old ++ node ∷ [] → old ≡ start ++ end_nodes end ends letter 1 (take place shapes) → node ≡ end_node end ends letter (place + 1) shape → new ≡ start ++ end_nodes end ends letter 1 (take (place + 1) shapes)
  ends_more shapes place shape new old start node is within pushed was same =
      pushed ∙ ap (λ z. z ++ node ∷ []) was ∙ append_assoc start (end_nodes end ends letter 1 (take place shapes)) (node ∷ [])
      ∙ ap (λ z. start ++ z) (ap (λ z. end_nodes end ends letter 1 (take place shapes) ++ z ∷ []) same ∙ sym (ends_taken shapes place shape is within))

  ends_from : {N : Type 0} (shapes : List Shape) (from : ℕ) (family : Place shapes → N) (made : N → Node) → ((l : Place shapes) → end_node end ends letter (from + before shapes l) (item shapes l) ≡ made (family l)) →
      end_nodes end ends letter from shapes ≡ map made (each_of shapes family)
  ends_from [] from family made h = refl
  ends_from (s ∷ shapes) from family made h =
      let here : from ≡ from + 0 = omega arith in
      (λ i. (ap (λ z. end_node end ends letter z s) here ∙ h first) i ∷ ends_from shapes (suc from) (λ l. family (later l)) made (λ l. ap (λ z. end_node end ends letter z (item shapes l)) (further l) ∙ h (later l)) i)
      ∙ ap (map made) (sym (each_next s shapes family))
    where
      further : (l : Place shapes) → suc from + before shapes l ≡ from + suc (before shapes l)
      further l = omega arith

  -- they are a family of nodes
  pub ends_each : {N : Type 0} (shapes : List Shape) (family : Place shapes → N) (made : N → Node) → ((l : Place shapes) → end_node end ends letter (number shapes l) (item shapes l) ≡ made (family l)) →
      end_nodes end ends letter 1 shapes ≡ map made (each_of shapes family)
  ends_each shapes family made h = ends_from shapes 1 family made (λ l. ap (λ z. end_node end ends letter z (item shapes l)) (one_more l) ∙ h l)
    where
      one_more : (l : Place shapes) → 1 + before shapes l ≡ suc (before shapes l)
      one_more l = omega arith
