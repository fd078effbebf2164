-- The wires of the new graph, by the places of their nodes.
use Rattle.std.proofs.Common.{◌≡◌, ℕ, suc, ◌+◌, refl, sym, ap, ◌∙◌, List, [], ◌∷◌, ◌++◌, map, length, Option, Some, arith}
use Rattle.std.specs.List.{concat}
use Rattle.std.proofs.lemmas.Option.{none-some}
use Rattle.components.specs.Kind.{Shape, ins}
use Rattle.components.specs.Name.{port_get}
use Rattle.fun_expr.specs.Function.{Function}
use Rattle.graph_core.specs.declared.exchange.End.TheVariants.{Fresh}
use Rattle.circuit_plans.specs.Plans.{Out, Plan, from}
use Rattle.circuit_plans.specs.Places.{before, each_of}
use Rattle.body_laws.specs.Bodies.{Body}
use Rattle.body_laws.specs.BodyPlans.{Way, next, condition, other, way_shape, way_copy, next_shapes, Gathered, entry, pure, pair, vals, fork, way, only, gathered_plan}
use Rattle.drawn_rules.specs.declared.rows.Row.TheVariants.{Nodes, Ports}
use Rattle.drawn_rules.specs.Rows.{row_wires}
use Rattle.drawn_rules.specs.Sides.{ends_of}
use Rattle.drawn_rules.proofs.Labelled.{wire_ends}
use Rattle.gather_rule.specs.PlanDrawing.{wires_into, all_wires}
use Rattle.gather_rule.specs.GatherGraphs.{gathered_drawing}
use Rattle.gather_rule.specs.GatherSides.{rows_from, right_ends}
use Rattle.gather_rule.proofs.PlanDrawn.{Enters}
use Rattle.gather_rule.proofs.GatherNodes.{new_place, new_next, new_other}
use Rattle.gather_rule.proofs.BodyTyped.{only_is, ends_into, ends_both, ends_family, ends_one, map_both}

module _ (b : Body) (f : Function) (same : length b.others ≡ length b.next) where
  abbrev pub plan : Plan (Gathered b)
  plan = gathered_plan b f

  one_input : (m : Gathered b) (a : Shape) (o : Option (Out (Gathered b))) (i : ℕ) (q : Out (Gathered b)) → ins (plan.kind m) ≡ a ∷ [] → only o i ≡ Some q → (c : Shape) × (port_get (ins (plan.kind m)) i ≡ Some c)
  one_input m a o i q is e = let (port, source) = only_is o i q e in (a, (λ j. port_get (is j) (port j)))

  pub enters : Enters plan
  enters entry i q e = absurd (none-some q e)
  enters pure i q e = one_input pure f.input (from entry 1) i q refl e
  enters pair i q e = one_input pair (concat (next_shapes b) ++ 1 ∷ []) (from pure 1) i q concat_two e
    where
      concat_two : concat (concat (next_shapes b) ∷ (1 ∷ []) ∷ []) ∷ [] ≡ (concat (next_shapes b) ++ 1 ∷ []) ∷ []
      concat_two = refl
  enters vals i q e = one_input vals (concat (next_shapes b)) (from pair 1) i q refl e
  enters fork i q e = one_input fork (1 ∷ []) (from pair 2) i q refl e
  enters (way w) i q e = one_input (way w) (way_shape b w) (way_copy b w) i q refl e

  abbrev pub place : Gathered b → ℕ
  place = new_place b

  abbrev k : ℕ
  k = length b.next

  -- a row of wires is that of a list
  row_from : {A : Type 0} (source low : ℕ) (xs : List A) (index : ℕ) → row_wires (Ports source) (Nodes low 1) index (length xs) ≡ rows_from (λ p x. (Fresh source (p + 1), Fresh (low + p) 1) ∷ []) index xs
  row_from source low [] index = refl
  row_from source low (x ∷ xs) index = ap (λ z. (Fresh source (index + 1), Fresh (low + index) 1) ∷ z) (row_from source low xs (suc index))

  way_ends : (w : Way b) (q : Out (Gathered b)) (source port low : ℕ) → way_copy b w ≡ Some q → place q.at ≡ source → q.port ≡ port → place (way w) ≡ low →
      map (wire_ends place) (wires_into plan (way w) 1 (ins (plan.kind (way w)))) ≡ (Fresh source port, Fresh low 1) ∷ []
  way_ends w q source port low is at is_port into = ends_one plan place (way w) (way_shape b w) q refl is ∙ (λ i. (Fresh (at i) (is_port i), Fresh (into i) 1) ∷ [])

  next_ends : ends_into plan place (each_of b.next (new_next b)) ≡ row_wires (Ports 3) (Nodes 5 1) 0 k
  next_ends =
      ends_family plan place (λ p x. (Fresh 3 (p + 1), Fresh (5 + p) 1) ∷ []) b.next (new_next b) 0
      (λ p. way_ends (next p) (record { at = vals; port = suc (before b.next p) }) 3 ((0 + before b.next p) + 1) (5 + (0 + before b.next p)) refl refl (omega arith) (omega arith))
      ∙ sym (row_from 3 5 b.next 0)

  condition_ends : ends_into plan place (way condition ∷ each_of b.others (new_other b)) ≡ row_wires (Ports 4) (Nodes (5 + k) 1) 0 (suc k)
  condition_ends =
      map_both (wire_ends place) (wires_into plan (way condition) 1 (ins (plan.kind (way condition)))) (all_wires plan (each_of b.others (new_other b)))
      ∙ (λ i. way_ends condition (record { at = fork; port = 1 }) 4 (0 + 1) ((5 + k) + 0) refl refl refl (omega arith) i ++
      (ends_family plan place (λ p x. (Fresh 4 (p + 1), Fresh ((5 + k) + p) 1) ∷ []) b.others (new_other b) 1
      (λ p. way_ends (other p) (record { at = fork; port = suc (suc (before b.others p)) }) 4 ((1 + before b.others p) + 1) ((5 + k) + (1 + before b.others p)) refl refl (omega arith) (omega arith))
      ∙ sym (row_from 4 (5 + k) b.others 1)) i)
      ∙ ap (λ z. (Fresh 4 (0 + 1), Fresh ((5 + k) + 0) 1) ∷ row_wires (Ports 4) (Nodes (5 + k) 1) 1 z) same

  pub ends_are : right_ends k ≡ ends_of (gathered_drawing b f) place
  ends_are =
      sym (ap (λ z. (Fresh 0 1, Fresh 1 1) ∷ (Fresh 1 1, Fresh 2 1) ∷ (Fresh 2 1, Fresh 3 1) ∷ (Fresh 2 2, Fresh 4 1) ∷ z)
      (ends_both plan place (each_of b.next (new_next b)) (way condition ∷ each_of b.others (new_other b)) ∙ (λ i. next_ends i ++ condition_ends i)))
