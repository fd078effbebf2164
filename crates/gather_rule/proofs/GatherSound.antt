-- The rule gather meets what a rule owes.
use Rattle.std.proofs.Common.{◌≡◌, ℕ, suc, ◌+◌, ◌≤◌, true, length, map, List, [], ◌∷◌, ◌++◌, Option, Some, None, refl, sym, ap, subst, ◌∙◌, arith}
use Rattle.std.specs.Prelude.{unwrap_or}
use Rattle.std.specs.List.{AllByRecursion, concat}
use Rattle.std.proofs.lemmas.Option.{same_Some}
use Rattle.std.proofs.lemmas.List.{length-map}
use Rattle.std.proofs.lemmas.List.Elements.{All-from_recursion, recursion_from_All}
use Rattle.port_types.specs.Shape.{IsShape}
use Rattle.components.specs.declared.kind.Kind.{Kind}
use Rattle.components.specs.declared.kind.Kind.TheVariants.{Entry, Exit}
use Rattle.components.specs.declared.node.Node.{Node}
use Rattle.components.specs.Name.{Name, IsName}
use Rattle.components.specs.Kind.{Shape, AreParts, KindOk}
use Rattle.fun_expr.specs.Function.{Function}
use Rattle.circuits.specs.Circuit.{circuit_of}
use Rattle.circuits.specs.Laws.{GraphIsTyped}
use Rattle.circuits.specs.Refines.{Refines}
use Rattle.circuits.specs.Replacing.{NoneTwice}
use Rattle.circuit_plans.specs.Plans.{Out, Naming, built}
use Rattle.circuit_plans.specs.Places.{Place}
use Rattle.circuit_plans.proofs.Namings.{naming}
use Rattle.circuit_plans.proofs.NoThrough.{PlanNoThrough, none_through}
use Rattle.circuit_plans.proofs.Drawn.{Draws, drawn_is}
use Rattle.circuit_plans.proofs.Places.{each_both}
use Rattle.body_laws.specs.Bodies.{Body, IsSteady, BodyNode, at_output, body_shapes}
use Rattle.body_laws.specs.BodyPlans.{Part, enter, vars, node, tail, Way, way_out, Gathered, pure, pair, vals, fork, way, out_of, some_shape, shape_of, body_plan, gathered_kind, gathered_plan}
use Rattle.body_laws.specs.BodyPlans as plans
use Rattle.body_laws.specs.Laws.{GatherRefines}
use Rattle.subst_engine.specs.Rule.{IsSoundRule}
use Rattle.drawn_rules.specs.Labels.{AreFree}
use Rattle.drawn_rules.proofs.Labelled as labelled
use Rattle.loop_body.specs.declared.body_port.BodyPort.{BodyPort}
use Rattle.loop_body.specs.Body.{IsBody, kinds, shapes}
use Rattle.loop_body.specs.Body as lists
use Rattle.loop_body.specs.BodyFunction.{body_function}
use Rattle.loop_body.specs.Laws.{next_shapes, ValueIsOne, TurnIsOne, FunctionTurns, FunctionIsTyped}
use Rattle.gather_rule.specs.NumberedBody.{numbered, numbered_port, other_ports}
use Rattle.gather_rule.specs.GatherGraphs.{body_list, body_drawing, gathered_list, gathered_drawing}
use Rattle.gather_rule.specs.Gather.{old_label, old_name, new_name, listed_names, gather, CanGather, GatherIsSound}
use Rattle.gather_rule.proofs.PlanDrawn.{draws}
use Rattle.gather_rule.proofs.GoodBodies.{GoodBody, good, one_root, nodes_long, shape_at}
use Rattle.gather_rule.proofs.Functions.{is_function}
use Rattle.gather_rule.proofs.GatherNodes.{old_in, new_in, old_rank, old_total, old_counted, old_fits, old_place}
use Rattle.gather_rule.proofs.NewLabels as new
use Rattle.gather_rule.proofs.BodyTyped as body
use Rattle.gather_rule.proofs.BodyTyped.{at_item, only_is}
use Rattle.gather_rule.proofs.GatheredDrawn as gathered

some_or : (o : Option Shape) → some_shape o ≡ unwrap_or o []
some_or None = refl
some_or (Some a) = refl

others_long : (cs : List BodyPort) (lanes : ℕ) → length cs ≡ lanes + 1 → length (other_ports cs) ≡ lanes
others_long [] lanes h = omega (arith, h)
others_long (c ∷ cs) lanes h = length-map cs numbered_port ∙ omega (arith, h)

module _ (b : lists.Body) (h : IsBody b) (can : CanGather b) where
  abbrev pub nb : Body
  nb = numbered b

  abbrev pub f : Function
  f = body_function b

  pub next_long : length nb.next ≡ length b.next
  next_long = length-map b.next numbered_port

  pub same : length nb.others ≡ length nb.next
  same = others_long b.conditions (length nb.next) (h.count ∙ ap (λ z. z + 1) (sym next_long))

  pub few : length nb.next ≤ 63
  few = subst (λ z. z ≤ 63) (sym next_long) can.few

  pub listed_long : length nb.nodes ≡ length b.nodes
  listed_long = nodes_long (b.vars ∷ []) (kinds b) b.inputs h.nodes ∙ length-map b.nodes (λ (n : Node). n.kind)

  pub is_good : GoodBody nb
  is_good = good b h can

  lane_shapes : (ps : List BodyPort) → map (shape_of nb) (map numbered_port ps) ≡ map (λ p. unwrap_or (lists.entry (shapes b) p) []) ps
  lane_shapes [] = refl
  lane_shapes (p ∷ ps) = λ i. (some_or (at p) ∙ ap (λ o. unwrap_or o []) (shape_at b h p)) i ∷ lane_shapes ps i
    where
      at : BodyPort → Option Shape
      at p = at_output (body_shapes nb) (numbered_port p)

  pub lanes_are : plans.next_shapes nb ≡ next_shapes b
  lanes_are = lane_shapes b.next

  -- the new nodes meet their rows

  bit_narrow : AllByRecursion (λ width. width ≤ 64) (1 ∷ [])
  bit_narrow = (omega arith, tt)

  bit_ok : IsShape (1 ∷ [])
  bit_ok = record { some = omega arith; few = omega arith; narrow = All-from_recursion (λ width. width ≤ 64) (1 ∷ []) bit_narrow }

  length_both : (xs ys : List ℕ) → length (xs ++ ys) ≡ length xs + length ys
  length_both [] ys = omega arith
  length_both (x ∷ xs) ys = omega (arith, length_both xs ys)

  with_bit : (lanes : Shape) → IsShape lanes → length lanes ≤ 127 → IsShape (lanes ++ 1 ∷ [])
  with_bit lanes ok short =
      let long = length_both lanes (1 ∷ []) in
      record {
        some = omega (arith, long);
        few = omega (arith, long, short);
        narrow = All-from_recursion (λ width. width ≤ 64) (lanes ++ 1 ∷ [])
            (each_both (λ width. width ≤ 64) lanes (1 ∷ []) (recursion_from_All (λ width. width ≤ 64) lanes ok.narrow) bit_narrow);
      }

  pub lanes_ok : AreParts (plans.next_shapes nb)
  lanes_ok = subst AreParts (sym lanes_are) can.parts

  pub lanes_short : length (concat (plans.next_shapes nb)) ≤ 127
  lanes_short = subst (λ z. length (concat z) ≤ 127) (sym lanes_are) can.fields

  pair_ok : AreParts (concat (plans.next_shapes nb) ∷ (1 ∷ []) ∷ [])
  pair_ok =
      record {
        count = (omega arith, omega arith);
        parts = All-from_recursion IsShape (concat (plans.next_shapes nb) ∷ (1 ∷ []) ∷ []) (lanes_ok.whole, (bit_ok, tt));
        whole = with_bit (concat (plans.next_shapes nb)) lanes_ok.whole lanes_short;
      }

  module _ (typed : FunctionIsTyped) where
    pub new_kinds : (n : Gathered nb) → KindOk (gathered_kind nb f n)
    new_kinds plans.entry = h.vars.whole
    new_kinds pure =
        let (ok, widths) = typed b h can.fields in
        (with_bit (concat (plans.next_shapes nb)) lanes_ok.whole lanes_short, ok, widths ∙ ap (λ z. concat z ++ 1 ∷ []) (sym lanes_are))
    new_kinds pair = pair_ok
    new_kinds vals = lanes_ok
    new_kinds fork = (bit_ok, (omega arith, few_wires))
      where
        few_wires : suc (length nb.others) ≤ 64
        few_wires = let one = same in let two = few in omega (arith, one, two)
    new_kinds (way w) = body.way_ok nb is_good w

  -- no Exit of the body is fed by its Entry

  steady_end : (p : Place nb.nodes) (k : Kind) → (IsSteady k → ⊥) → (body_plan nb).kind (node p) ≡ k → ⊥
  steady_end p k none e = none (subst IsSteady e (at_item (λ (n : BodyNode). IsSteady n.kind) nb.nodes is_good.steady p))

  entry_first : (m : Part nb (Way nb)) (a : Shape) → (body_plan nb).kind m ≡ Entry a → old_place nb m ≡ 0
  entry_first enter a e = refl
  entry_first vars a e = absurd cc
  entry_first (node p) a e = absurd (steady_end p (Entry a) (λ z. z) e)
  entry_first (tail w) a e = absurd cc

  pub apart : PlanNoThrough (body_plan nb)
  apart enter i q x y e is_exit is_entry = absurd cc
  apart vars i q x y e is_exit is_entry = absurd cc
  apart (node p) i q x y e is_exit is_entry = absurd (steady_end p (Exit x) (λ z. z) is_exit)
  apart (tail w) i q x y e is_exit is_entry =
      let r = body.way_resolved nb is_good w in
      let source : out_of nb (Way nb) (Some (way_out nb w)) ≡ Some q = (only_is (out_of nb (Way nb) (Some (way_out nb w))) i q e).1 in
      let out : r.out ≡ q = same_Some r.out q (sym r.is ∙ source) in
      let at : old_place nb q.at ≡ suc (way_out nb w).at = ap (λ (z : Out (Part nb (Way nb))). old_place nb z.at) (sym out) ∙ r.at in
      let zero : old_place nb q.at ≡ 0 = entry_first q.at y is_entry in
      absurd (omega (arith, at, zero))

  module _ (prefix ends : ℕ) (split : Name) (free : AreFree prefix ends (listed_names split b)) where
    abbrev pub names : List Name
    names = listed_names split b

    abbrev pub old : Part nb (Way nb) → Name
    old = old_name prefix ends names nb

    abbrev pub fresh : Gathered nb → Name
    fresh = new_name prefix ends names nb

    long : length names ≡ suc (length nb.nodes)
    long = ap suc (length-map b.nodes (λ (n : Node). n.name) ∙ sym listed_long)

    pub old_once : NoneTwice (map old (body_list nb))
    old_once = labelled.once (body_drawing nb) (old_label nb) true prefix ends names free (old_in nb) (old_fits nb names long few same) (old_rank (length nb.nodes) (length nb.next)) (old_total nb) (old_counted nb)

    pub old_allowed : (n : Part nb (Way nb)) → IsName (old n)
    old_allowed = labelled.is_allowed (body_drawing nb) (old_label nb) true prefix ends names free (old_in nb) (old_fits nb names long few same) (old_rank (length nb.nodes) (length nb.next)) (old_total nb) (old_counted nb)

    pub new_once : NoneTwice (map fresh (gathered_list nb))
    new_once = new.once nb few same prefix ends names free

    pub new_allowed : (n : Gathered nb) → IsName (fresh n)
    new_allowed = new.allowed nb few same prefix ends names free

    abbrev pub old_naming : Naming (Part nb (Way nb))
    old_naming = naming old (body_list nb) (old_in nb) old_once

    abbrev pub new_naming : Naming (Gathered nb)
    new_naming = naming fresh (gathered_list nb) (new_in nb) new_once

    pub old_draws : Draws (body_drawing nb) (body_plan nb)
    old_draws = draws (body_plan nb) (body.enters nb is_good) (body_list nb) (old_in nb)

    pub new_draws : Draws (gathered_drawing nb f) (gathered_plan nb f)
    new_draws = draws (gathered_plan nb f) (gathered.enters nb f same) (gathered_list nb) (new_in nb)

    pub old_is : circuit_of (gather prefix ends split b).left ≡ built (body_plan nb) old_naming
    old_is = drawn_is (body_drawing nb) (body_plan nb) old_draws old_naming old_once

    pub new_is : circuit_of (gather prefix ends split b).right ≡ built (gathered_plan nb f) new_naming
    new_is = drawn_is (gathered_drawing nb f) (gathered_plan nb f) new_draws new_naming new_once

-- what the proof takes from lower crates
pub record Known : Type 0 where
  pub values : ValueIsOne
  pub one_turn : TurnIsOne
  pub turns : FunctionTurns
  pub typed : FunctionIsTyped
  pub refines : GatherRefines
  pub graph : GraphIsTyped

module _ (known : Known) (prefix ends : ℕ) (split : Name) (b : lists.Body) (free : AreFree prefix ends (listed_names split b)) (h : IsBody b) (can : CanGather b) where
  refines : Refines (circuit_of (gather prefix ends split b).right) (circuit_of (gather prefix ends split b).left)
  refines =
      subst (λ c. Refines c (circuit_of (gather prefix ends split b).left)) (sym (new_is b h can prefix ends split free))
      (subst (Refines (built (gathered_plan (numbered b) (body_function b)) (new_naming b h can prefix ends split free))) (sym (old_is b h can prefix ends split free))
      (known.refines (numbered b) (body_function b) (numbered_port h.condition.root) (new_naming b h can prefix ends split free) (old_naming b h can prefix ends split free)
      (body.typed_body (numbered b) (good b h can)) (is_function known.values known.one_turn known.turns b h) (one_root b h) (new_kinds b h can known.typed)
      (record { entry = refl; ways = λ w. refl })))

  pub sound_at : IsSoundRule (gather prefix ends split b)
  sound_at =
      record {
        is_rule = record {
          old_typed = known.graph (gather prefix ends split b).left refines.old_typed;
          new_typed = known.graph (gather prefix ends split b).right refines.new_typed;
          ports = refines.ports;
          no_through = λ p q x y e m k.
              none_through (body_plan (numbered b)) (old_naming b h can prefix ends split free) (apart b h can) p q x y
              (ap (λ c. c.feeder p) (sym (old_is b h can prefix ends split free)) ∙ e) (ap (λ c. c.kind_at p.node) (sym (old_is b h can prefix ends split free)) ∙ m)
              (ap (λ c. c.kind_at q.node) (sym (old_is b h can prefix ends split free)) ∙ k);
        };
        refines = refines;
      }

pub sound : Known → GatherIsSound
sound known prefix ends split b free h can = sound_at known prefix ends split b free h can
