-- The lists that the two graphs are made of.
use Rattle.std.proofs.Common.{◌≡◌, ℕ, suc, ◌+◌, ◌≤◌, length, map, List, [], ◌∷◌, ◌++◌, Some, refl, sym, ap, subst, ◌∙◌, append_assoc, arith, codes}
use Rattle.std.specs.Prelude.{replicate, slice_get}
use Rattle.std.proofs.lemmas.List.{length-map}
use Rattle.components.specs.declared.kind.Kind.{Kind}
use Rattle.components.specs.declared.kind.Kind.TheVariants as kind
use Rattle.components.specs.declared.node.Node.{Node}
use Rattle.components.specs.Name.{Name}
use Rattle.components.specs.Kind.{Shape, field, outs}
use Rattle.graph_core.specs.declared.exchange.End.{End}
use Rattle.graph_core.specs.declared.exchange.End.TheVariants.{Fresh}
use Rattle.circuit_plans.specs.Plans.{Out}
use Rattle.circuit_plans.specs.Places.{Place, first, later, item, before, each_of}
use Rattle.body_laws.specs.BodyPlans.{Part, enter, vars, node, tail, Way, next, condition, other, shape_of, body_plan, Gathered, gathered_plan, way}
use Rattle.body_laws.specs.BodyPlans as plans
use Rattle.drawn_rules.specs.declared.row_ends.EndKind.TheVariants.{Exit}
use Rattle.drawn_rules.specs.Labels.{AreFree, nth}
use Rattle.drawn_rules.specs.RowEnds.{end_node, end_nodes}
use Rattle.drawn_rules.specs.Sides.{nodes_of, ends_of}
use Rattle.drawn_rules.proofs.DrawnMade.{can_make, made_is}
use Rattle.drawn_rules.proofs.Places.{each_next, stands_at}
use Rattle.subst_engine.specs.Making.{bare_node, CanMake, rule_graph}
use Rattle.loop_body.specs.declared.body_port.BodyPort.{BodyPort}
use Rattle.loop_body.specs.Body.{Body, kinds, IsBody, NodesFit}
use Rattle.loop_body.specs.BodyFunction.{body_function}
use Rattle.loop_body.specs.Laws.{next_shapes}
use Rattle.gather_rule.specs.NumberedBody.{numbered, numbered_port, numbered_nodes, first_port, other_ports}
use Rattle.gather_rule.specs.GatherGraphs.{body_list, body_drawing, gathered_list, gathered_drawing}
use Rattle.gather_rule.specs.Gather.{listed_names, gather, CanGather, GatherIsSound}
use Rattle.gather_rule.specs.GatherSides.{rows_from, out_end, nodes_ends, exit_ends, left_ends, right_ends, way_nodes, left_list, right_list, inputs_ends, ways_ends, body_ends, input_ends}
use Rattle.gather_rule.proofs.GoodBodies.{some_conditions}
use Rattle.gather_rule.proofs.GatherNodes.{old_in, new_in, old_place, new_place, old_total, new_total, old_counted, new_counted, old_next, old_other}
use Rattle.gather_rule.proofs.BodyTyped as body
use Rattle.gather_rule.proofs.GatheredDrawn as gathered
use Rattle.gather_rule.proofs.GatherSound.{nb, same, is_good, lanes_are, next_long, old, fresh, old_once, new_once, old_allowed, new_allowed}
use Rattle.gather_rule.proofs.GatherMatches.{old_targets, new_targets}

-- Exits of a family
module _ (ends : ℕ) (letter : List ℕ) where
  ends_mapped : {A N : Type 0} (xs : List A) (shape : A → Shape) (from : ℕ) (family : Place xs → N) (made : N → Node) → ((p : Place xs) → end_node Exit ends letter (from + before xs p) (shape (item xs p)) ≡ made (family p)) →
      end_nodes Exit ends letter from (map shape xs) ≡ map made (each_of xs family)
  ends_mapped [] shape from family made h = refl
  ends_mapped (x ∷ xs) shape from family made h =
      let here : from ≡ from + 0 = omega arith in
      (λ i. (ap (λ z. end_node Exit ends letter z (shape x)) here ∙ h first) i ∷
      ends_mapped xs shape (suc from) (λ p. family (later p)) made (λ p. ap (λ z. end_node Exit ends letter z (shape (item xs p))) (further p) ∙ h (later p)) i)
      ∙ ap (map made) (sym (each_next x xs family))
    where
      further : (p : Place xs) → suc from + before xs p ≡ from + suc (before xs p)
      further p = omega arith

const_map : {A : Type 0} (a : Shape) (xs : List A) → map (λ x. a) xs ≡ replicate (length xs) a
const_map a [] = refl
const_map a (x ∷ xs) = ap (λ z. a ∷ z) (const_map a xs)

map_both : {A B : Type 0} (f : A → B) (xs ys : List A) → map f (xs ++ ys) ≡ map f xs ++ map f ys
map_both f [] ys = refl
map_both f (x ∷ xs) ys = ap (λ z. f x ∷ z) (map_both f xs ys)

-- the nodes of a body under their names
nodes_from : {N : Type 0} (front : List (List Shape)) (nodes : List Node) (inputs : List (List BodyPort)) → NodesFit front (map (λ (n : Node). n.kind) nodes) inputs →
    (family : Place (numbered_nodes (map (λ (n : Node). n.kind) nodes) inputs) → N) (made : N → Node) →
    ((p : Place (numbered_nodes (map (λ (n : Node). n.kind) nodes) inputs)) →
    bare_node (nth (map (λ (n : Node). n.name) nodes) (before (numbered_nodes (map (λ (n : Node). n.kind) nodes) inputs) p)) (item (numbered_nodes (map (λ (n : Node). n.kind) nodes) inputs) p).kind ≡ made (family p)) →
    map (λ (n : Node). bare_node n.name n.kind) nodes ≡ map made (each_of (numbered_nodes (map (λ (n : Node). n.kind) nodes) inputs) family)
nodes_from front [] [] fits family made h = refl
nodes_from front [] (ports ∷ inputs) fits family made h = absurd fits
nodes_from front (n ∷ nodes) [] fits family made h = absurd fits
nodes_from front (n ∷ nodes) (ports ∷ inputs) fits family made h =
    (λ i. h first i ∷ nodes_from (front ++ outs n.kind ∷ []) nodes inputs fits.2 (λ p. family (later p)) made (λ p. h (later p)) i)
    ∙ ap (map made) (sym (each_next (record { kind = n.kind; inputs = map numbered_port ports }) (numbered_nodes (map (λ (n : Node). n.kind) nodes) inputs) family))

-- the wires by lists of ports

ports_rows : (place low : ℕ) (ports : List BodyPort) → rows_from (λ i p. (out_end (numbered_port p), Fresh place i) ∷ []) low ports ≡ input_ends place low (map numbered_port ports)
ports_rows place low [] = refl
ports_rows place low (p ∷ ports) = ap (λ z. (out_end (numbered_port p), Fresh place low) ∷ z) (ports_rows place (suc low) ports)

inputs_rows : (front : List (List Shape)) (low : ℕ) (ks : List Kind) (inputs : List (List BodyPort)) → NodesFit front ks inputs → inputs_ends low inputs ≡ nodes_ends low (numbered_nodes ks inputs)
inputs_rows front low [] [] fits = refl
inputs_rows front low [] (ports ∷ inputs) fits = absurd fits
inputs_rows front low (k ∷ ks) [] fits = absurd fits
inputs_rows front low (k ∷ ks) (ports ∷ inputs) fits = λ i. ports_rows low 1 ports i ++ inputs_rows (front ++ outs k ∷ []) (suc low) ks inputs fits.2 i

ways_rows : (low : ℕ) (ports : List BodyPort) → ways_ends low ports ≡ exit_ends low (map numbered_port ports)
ways_rows low [] = refl
ways_rows low (p ∷ ports) = ap (λ z. (out_end (numbered_port p), Fresh low 1) ∷ z) (ways_rows (suc low) ports)

exits_both : (low : ℕ) (xs ys : List (Out ℕ)) → exit_ends low (xs ++ ys) ≡ exit_ends low xs ++ exit_ends (low + length xs) ys
exits_both low [] ys = let here : low ≡ low + 0 = omega arith in ap (λ z. exit_ends z ys) here
exits_both low (x ∷ xs) ys =
    let further : suc low + length xs ≡ low + suc (length xs) = omega arith in
    ap (λ z. (out_end x, Fresh low 1) ∷ z) (exits_both (suc low) xs ys ∙ ap (λ z. exit_ends (suc low) xs ++ exit_ends z ys) further)

inputs_long : (front : List (List Shape)) (ks : List Kind) (inputs : List (List BodyPort)) → NodesFit front ks inputs → length inputs ≡ length (numbered_nodes ks inputs)
inputs_long front [] [] fits = refl
inputs_long front [] (ports ∷ inputs) fits = absurd fits
inputs_long front (k ∷ ks) [] fits = absurd fits
inputs_long front (k ∷ ks) (ports ∷ inputs) fits = ap suc (inputs_long (front ++ outs k ∷ []) ks inputs fits.2)

both_conditions : (cs : List BodyPort) → 1 ≤ length cs → map numbered_port cs ≡ first_port cs ∷ other_ports cs
both_conditions [] h = absurd (omega (arith, h))
both_conditions (c ∷ cs) h = refl

module _ (b : Body) (h : IsBody b) (can : CanGather b) where
  abbrev n : ℕ
  n = length (numbered b).nodes

  ends_by_lists : body_ends b.inputs b.next b.conditions ≡ left_ends (numbered b)
  ends_by_lists =
      let long : length b.inputs ≡ n = inputs_long (b.vars ∷ []) (kinds b) b.inputs h.nodes in
      let lanes : length b.next ≡ length (numbered b).next = sym (next_long b h can) in
      let inputs = inputs_rows (b.vars ∷ []) 2 (kinds b) b.inputs h.nodes in
      let nexts : ways_ends (2 + length b.inputs) b.next ≡ exit_ends (2 + n) (numbered b).next = ap (λ z. ways_ends (2 + z) b.next) long ∙ ways_rows (2 + n) b.next in
      let last : ways_ends ((2 + length b.inputs) + length b.next) b.conditions ≡ exit_ends ((2 + n) + length (numbered b).next) ((numbered b).condition ∷ (numbered b).others) =
      (λ i. ways_ends ((2 + long i) + lanes i) b.conditions) ∙ ways_rows ((2 + n) + length (numbered b).next) b.conditions
      ∙ ap (exit_ends ((2 + n) + length (numbered b).next)) (both_conditions b.conditions (some_conditions b h)) in
      (λ i. ((((Fresh 0 1, Fresh 1 1) ∷ []) ++ inputs i) ++ nexts i) ++ last i)
      ∙ append_assoc (((Fresh 0 1, Fresh 1 1) ∷ []) ++ nodes_ends 2 (numbered b).nodes) (exit_ends (2 + n) (numbered b).next) (exit_ends ((2 + n) + length (numbered b).next) ((numbered b).condition ∷ (numbered b).others))
      ∙ ap (λ z. (Fresh 0 1, Fresh 1 1) ∷ (nodes_ends 2 (numbered b).nodes ++ z)) (sym (exits_both (2 + n) (numbered b).next ((numbered b).condition ∷ (numbered b).others)))

  module _ (prefix ends : ℕ) (split : Name) (free : AreFree prefix ends (listed_names split b)) where
    abbrev old_made : Part (nb b h can) (Way (nb b h can)) → Node
    old_made m = bare_node (old b h can prefix ends split free m) ((body_plan (nb b h can)).kind m)

    abbrev new_made : Gathered (nb b h can) → Node
    new_made m = bare_node (fresh b h can prefix ends split free m) ((gathered_plan (nb b h can) (body_function b)).kind m)

    bits : replicate (suc (length (plans.next_shapes (nb b h can)))) (field 1) ≡ field 1 ∷ map (λ q. field 1) (numbered b).others
    bits = ap (λ z. field 1 ∷ z) (ap (λ z. replicate z (field 1)) (length-map (numbered b).next (shape_of (numbered b)) ∙ sym (same b h can)) ∙ sym (const_map (field 1) (numbered b).others))

    -- the Exits, in a graph that has them
    ways_are : {N : Type 0} (made : N → Node) (family : Way (nb b h can) → N) →
        ((p : Place (numbered b).next) → end_node Exit ends (codes "x") (1 + before (numbered b).next p) (shape_of (numbered b) (item (numbered b).next p)) ≡ made (family (next p))) →
        end_node Exit ends (codes "y") 1 (field 1) ≡ made (family condition) →
        ((p : Place (numbered b).others) → end_node Exit ends (codes "y") (2 + before (numbered b).others p) (field 1) ≡ made (family (other p))) →
        way_nodes ends (plans.next_shapes (nb b h can)) ≡ map made (each_of (numbered b).next (λ p. family (next p)) ++ (family condition ∷ each_of (numbered b).others (λ p. family (other p))))
    ways_are made family one two three =
        (λ i. ends_mapped ends (codes "x") (numbered b).next (shape_of (numbered b)) 1 (λ p. family (next p)) made one i ++
        (ap (end_nodes Exit ends (codes "y") 1) bits ∙ (λ j. two j ∷ ends_mapped ends (codes "y") (numbered b).others (λ q. field 1) 2 (λ p. family (other p)) made three j)) i)
        ∙ sym (map_both made (each_of (numbered b).next (λ p. family (next p))) (family condition ∷ each_of (numbered b).others (λ p. family (other p))))

    end_number : (letter : List ℕ) (shape : Shape) (a c : ℕ) → a ≡ c → end_node Exit ends letter a shape ≡ end_node Exit ends letter c shape
    end_number letter shape a c e = ap (λ z. end_node Exit ends letter z shape) e

    more : (m : ℕ) → 1 + m ≡ suc m
    more m = omega arith

    most : (m : ℕ) → 2 + m ≡ suc (suc m)
    most m = omega arith

    pub left_nodes_are : left_list ends split b.vars b.nodes (next_shapes b) ≡ nodes_of (body_drawing (nb b h can)) (old b h can prefix ends split free)
    left_nodes_are =
        ap (left_list ends split b.vars b.nodes) (sym (lanes_are b h can))
        ∙ (λ i. old_made enter ∷ old_made vars ∷
        (nodes_from (b.vars ∷ []) b.nodes b.inputs h.nodes node old_made (λ p. refl) i ++
        ways_are old_made tail (λ p. end_number (codes "x") (shape_of (numbered b) (item (numbered b).next p)) _ _ (more (before (numbered b).next p))) refl (λ p. end_number (codes "y") (field 1) _ _ (most (before (numbered b).others p))) i))
        ∙ ap (λ z. old_made enter ∷ old_made vars ∷ z) (sym (map_both old_made (each_of (numbered b).nodes node) (each_of (numbered b).next (old_next (numbered b)) ++ (tail condition ∷ each_of (numbered b).others (old_other (numbered b))))))

    pub right_nodes_are : right_list prefix ends b.vars (body_function b) (next_shapes b) ≡ nodes_of (gathered_drawing (nb b h can) (body_function b)) (fresh b h can prefix ends split free)
    right_nodes_are =
        ap (right_list prefix ends b.vars (body_function b)) (sym (lanes_are b h can))
        ∙ (λ i. new_made plans.entry ∷ new_made plans.pure ∷ new_made plans.pair ∷ new_made plans.vals ∷
        bare_node (fresh b h can prefix ends split free plans.fork) (kind.Fork (1 ∷ []) (suc (count i))) ∷
        ways_are new_made way (λ p. end_number (codes "x") (shape_of (numbered b) (item (numbered b).next p)) _ _ (more (before (numbered b).next p))) refl (λ p. end_number (codes "y") (field 1) _ _ (most (before (numbered b).others p))) i)
      where
        count : length (plans.next_shapes (nb b h can)) ≡ length (numbered b).others
        count = length-map (numbered b).next (shape_of (numbered b)) ∙ sym (same b h can)

    -- the graphs

    module _ (law : GatherIsSound) (nodes : List Node) (wires : List (End × End)) where
      module _ (is_nodes : nodes ≡ left_list ends split b.vars b.nodes (next_shapes b)) (is_wires : wires ≡ body_ends b.inputs b.next b.conditions) where
        same_nodes : nodes ≡ nodes_of (body_drawing (nb b h can)) (old b h can prefix ends split free)
        same_nodes = is_nodes ∙ left_nodes_are

        same_wires : wires ≡ ends_of (body_drawing (nb b h can)) (old_place (nb b h can))
        same_wires = is_wires ∙ ends_by_lists ∙ body.ends_are (nb b h can) (is_good b h can)

        stands : (m : Part (nb b h can) (Way (nb b h can))) → slice_get (body_list (nb b h can)) (old_place (nb b h can) m) ≡ Some m
        stands m = stands_at (old_place (nb b h can)) (old_total (nb b h can)) (body_list (nb b h can)) m (old_counted (nb b h can)) (old_in (nb b h can) m)

        pub can_left : CanMake nodes wires
        can_left =
            subst (λ z. CanMake z wires) (sym same_nodes) (subst (CanMake (nodes_of (body_drawing (nb b h can)) (old b h can prefix ends split free))) (sym same_wires)
            (can_make (body_drawing (nb b h can)) (old b h can prefix ends split free) (old_in (nb b h can)) (old_once b h can prefix ends split free) (old_allowed b h can prefix ends split free)
            (law prefix ends split b free h can).is_rule.old_typed (old_targets b h can prefix ends split free) (old_place (nb b h can)) stands))

        pub left_is : rule_graph nodes wires ≡ (gather prefix ends split b).left
        left_is =
            (λ i. rule_graph (same_nodes i) (same_wires i))
            ∙ made_is (body_drawing (nb b h can)) (old b h can prefix ends split free) (old_in (nb b h can)) (old_once b h can prefix ends split free) (old_allowed b h can prefix ends split free)
            (law prefix ends split b free h can).is_rule.old_typed (old_targets b h can prefix ends split free) (old_place (nb b h can)) stands

      module _ (is_nodes : nodes ≡ right_list prefix ends b.vars (body_function b) (next_shapes b)) (is_wires : wires ≡ right_ends (length (next_shapes b))) where
        new_nodes : nodes ≡ nodes_of (gathered_drawing (nb b h can) (body_function b)) (fresh b h can prefix ends split free)
        new_nodes = is_nodes ∙ right_nodes_are

        lanes : length (next_shapes b) ≡ length (numbered b).next
        lanes = ap length (sym (lanes_are b h can)) ∙ length-map (numbered b).next (shape_of (numbered b))

        new_wires : wires ≡ ends_of (gathered_drawing (nb b h can) (body_function b)) (new_place (nb b h can))
        new_wires = is_wires ∙ ap right_ends lanes ∙ gathered.ends_are (nb b h can) (body_function b) (same b h can)

        new_stands : (m : Gathered (nb b h can)) → slice_get (gathered_list (nb b h can)) (new_place (nb b h can) m) ≡ Some m
        new_stands m = stands_at (new_place (nb b h can)) (new_total (nb b h can)) (gathered_list (nb b h can)) m (new_counted (nb b h can)) (new_in (nb b h can) m)

        pub can_right : CanMake nodes wires
        can_right =
            subst (λ z. CanMake z wires) (sym new_nodes) (subst (CanMake (nodes_of (gathered_drawing (nb b h can) (body_function b)) (fresh b h can prefix ends split free))) (sym new_wires)
            (can_make (gathered_drawing (nb b h can) (body_function b)) (fresh b h can prefix ends split free) (new_in (nb b h can)) (new_once b h can prefix ends split free) (new_allowed b h can prefix ends split free)
            (law prefix ends split b free h can).is_rule.new_typed (new_targets b h can prefix ends split free) (new_place (nb b h can)) new_stands))

        pub right_is : rule_graph nodes wires ≡ (gather prefix ends split b).right
        right_is =
            (λ i. rule_graph (new_nodes i) (new_wires i))
            ∙ made_is (gathered_drawing (nb b h can) (body_function b)) (fresh b h can prefix ends split free) (new_in (nb b h can)) (new_once b h can prefix ends split free) (new_allowed b h can prefix ends split free)
            (law prefix ends split b free h can).is_rule.new_typed (new_targets b h can prefix ends split free) (new_place (nb b h can)) new_stands
