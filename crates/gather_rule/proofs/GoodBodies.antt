-- A body of named nodes, by numbers: what its circuit needs, its root and its function.
use Rattle.std.proofs.Common.{◌≡◌, ◌≢◌, ℕ, zero, suc, ◌≤◌, List, [], ◌∷◌, ◌++◌, map, length, Option, Some, None, refl, sym, ap, subst, ◌∙◌, append_assoc, arith}
use Rattle.std.specs.Prelude.{slice_get, unwrap_or}
use Rattle.std.specs.List.{AllByRecursion}
use Rattle.std.proofs.lemmas.Option.{none-some, same_Some}
use Rattle.std.proofs.lemmas.List.Elements.{recursion_from_All}
use Rattle.port_types.specs.Shape.{IsShape}
use Rattle.components.specs.declared.kind.Kind.{Kind}
use Rattle.components.specs.declared.kind.Kind.TheVariants.{Entry, Exit, Buffer, Fork, Join, Split, Operator, Constant, Source0, Sink0, Pure, Mux, Branch, Merge, CtrlMerge, Init, Tagger}
use Rattle.components.specs.Kind.{Shape, AreParts, KindOk, outs}
use Rattle.fun_expr.specs.Each.{Each}
use Rattle.circuits.specs.Replacing.{In}
use Rattle.circuits.specs.Root.{PassesThrough}
use Rattle.circuit_plans.specs.Plans.{Out}
use Rattle.circuit_plans.proofs.Namings.{mapped_in}
use Rattle.subst_engine.specs.Making.{AllDiffer}
use Rattle.body_laws.specs.Bodies.{IsSteady, BodyNode, on_side, at_output, NodesInOrder, body_shapes, CopiedFrom, here, past, OneRoot}
use Rattle.body_laws.specs.Bodies as numbers
use Rattle.loop_body.specs.declared.body_port.BodyPort.{BodyPort}
use Rattle.loop_body.specs.Body.{Body, kinds, in_row, entry, shapes, NodesFit, flat, uses, PassesOn, BodyRoot, IsBody}
use Rattle.loop_body.specs.Body as body
use Rattle.loop_body.specs.BodyKind.{IsBodyKind, MayStand}
use Rattle.loop_body.specs.Laws.{next_shapes}
use Rattle.gather_rule.specs.NumberedBody.{numbered_port, numbered_nodes, first_port, other_ports, numbered}
use Rattle.gather_rule.specs.Gather.{CanGather}
use Rattle.gather_rule.proofs.Used.{uses_differ, used}

-- the outputs that nodes take from, and all that are used
abbrev pub taken_by : List BodyNode → List (Out ℕ)
taken_by [] = []
taken_by (n ∷ ns) = n.inputs ++ taken_by ns

abbrev pub sources : numbers.Body → List (Out ℕ)
sources b = taken_by b.nodes ++ (b.next ++ b.condition ∷ b.others)

-- an output of some shape
pub record Shaped (b : numbers.Body) (q : Out ℕ) : Type 0 where
  pub shape : Shape
  pub is : at_output (body_shapes b) q ≡ Some shape
  pub ok : IsShape shape

abbrev pub IsBit : numbers.Body → Out ℕ → Type 0
IsBit b q = at_output (body_shapes b) q ≡ Some (1 ∷ [])

pub record GoodBody (b : numbers.Body) : Type 0 where
  pub vars : AreParts b.vars
  pub steady : Each (λ n. IsSteady n.kind) b.nodes
  pub kinds : Each (λ n. KindOk n.kind) b.nodes
  pub order : NodesInOrder (b.vars ∷ []) b.nodes
  pub next : Each (Shaped b) b.next
  pub condition : IsBit b b.condition
  pub others : Each (IsBit b) b.others
  pub once : AllDiffer (sources b)
  pub all : (q : Out ℕ) (a : Shape) → at_output (body_shapes b) q ≡ Some a → In q (sources b)

-- Ports

side_row : {A : Type 0} (o : Option (List A)) (i : ℕ) → on_side o i ≡ in_row i o
side_row None i = refl
side_row (Some row) i = refl

pub entry_is : {A : Type 0} (t : List (List A)) (p : BodyPort) → at_output t (numbered_port p) ≡ entry t p
entry_is t p = side_row (slice_get t p.node) p.port

pub entries_are : {A : Type 0} (t : List (List A)) (ports : List BodyPort) → map (at_output t) (map numbered_port ports) ≡ map (entry t) ports
entries_are t [] = refl
entries_are t (p ∷ ports) = λ i. entry_is t p i ∷ entries_are t ports i

-- Nodes

steady_is : (k : Kind) → IsBodyKind k → IsSteady k
steady_is (Buffer shape) h = tt
steady_is (Fork shape count) h = tt
steady_is (Join shapes) h = tt
steady_is (Split shapes) h = tt
steady_is (Operator op widths width) h = tt
steady_is (Constant shape width value) h = tt
steady_is (Source0 shape) h = tt
steady_is (Sink0 shape) h = tt
steady_is (Pure fun shape) h = tt
steady_is (Entry shape) h = h
steady_is (Exit shape) h = h
steady_is (Mux shape) h = h
steady_is (Branch shape) h = h
steady_is (Merge shape count) h = h
steady_is (CtrlMerge shape count width) h = h
steady_is (Init value mark) h = h
steady_is (Tagger shape tags) h = h

pub in_order : (before : List (List Shape)) (ks : List Kind) (inputs : List (List BodyPort)) → NodesFit before ks inputs → NodesInOrder before (numbered_nodes ks inputs)
in_order before [] [] h = tt
in_order before [] (ports ∷ inputs) h = absurd h
in_order before (k ∷ ks) [] h = absurd h
in_order before (k ∷ ks) (ports ∷ inputs) h = (entries_are before ports ∙ h.1, in_order (before ++ outs k ∷ []) ks inputs h.2)

each_node : (P : Kind → Type 0) → ((k : Kind) → MayStand k → P k) → (before : List (List Shape)) (ks : List Kind) (inputs : List (List BodyPort)) → NodesFit before ks inputs → Each (λ (n : BodyNode). P n.kind) (numbered_nodes ks inputs)
each_node P f before [] [] h = tt
each_node P f before [] (ports ∷ inputs) h = tt
each_node P f before (k ∷ ks) [] h = tt
each_node P f before (k ∷ ks) (ports ∷ inputs) h = (f k h.0, each_node P f (before ++ outs k ∷ []) ks inputs h.2)

outs_are : (before : List (List Shape)) (ks : List Kind) (inputs : List (List BodyPort)) → NodesFit before ks inputs → map (λ (n : BodyNode). outs n.kind) (numbered_nodes ks inputs) ≡ map outs ks
outs_are before [] [] h = refl
outs_are before [] (ports ∷ inputs) h = absurd h
outs_are before (k ∷ ks) [] h = absurd h
outs_are before (k ∷ ks) (ports ∷ inputs) h = ap (λ z. outs k ∷ z) (outs_are (before ++ outs k ∷ []) ks inputs h.2)

pub nodes_long : (before : List (List Shape)) (ks : List Kind) (inputs : List (List BodyPort)) → NodesFit before ks inputs → length (numbered_nodes ks inputs) ≡ length ks
nodes_long before [] [] h = refl
nodes_long before [] (ports ∷ inputs) h = absurd h
nodes_long before (k ∷ ks) [] h = absurd h
nodes_long before (k ∷ ks) (ports ∷ inputs) h = ap suc (nodes_long (before ++ outs k ∷ []) ks inputs h.2)

map_both : {A B : Type 0} (f : A → B) (xs ys : List A) → map f (xs ++ ys) ≡ map f xs ++ map f ys
map_both f [] ys = refl
map_both f (x ∷ xs) ys = ap (λ z. f x ∷ z) (map_both f xs ys)

taken_are : (before : List (List Shape)) (ks : List Kind) (inputs : List (List BodyPort)) → NodesFit before ks inputs → taken_by (numbered_nodes ks inputs) ≡ map numbered_port (flat inputs)
taken_are before [] [] h = refl
taken_are before [] (ports ∷ inputs) h = absurd h
taken_are before (k ∷ ks) [] h = absurd h
taken_are before (k ∷ ks) (ports ∷ inputs) h =
    ap (λ z. map numbered_port ports ++ z) (taken_are (before ++ outs k ∷ []) ks inputs h.2) ∙ sym (map_both numbered_port ports (flat inputs))

pub node_at : (ks : List Kind) (inputs : List (List BodyPort)) (i : ℕ) (k : Kind) (ports : List BodyPort) → slice_get ks i ≡ Some k → slice_get inputs i ≡ Some ports →
    slice_get (numbered_nodes ks inputs) i ≡ Some (record { kind = k; inputs = map numbered_port ports })
node_at [] inputs i k ports e f = absurd (none-some k e)
node_at (l ∷ ks) [] i k ports e f = absurd (none-some ports f)
node_at (l ∷ ks) (ps ∷ inputs) zero k ports e f = λ j. Some (record { kind = same_Some l k e j; inputs = map numbered_port (same_Some ps ports f j) })
node_at (l ∷ ks) (ps ∷ inputs) (suc i) k ports e f = node_at ks inputs i k ports e f

-- The ways out

both_conditions : (cs : List BodyPort) → 1 ≤ length cs → first_port cs ∷ other_ports cs ≡ map numbered_port cs
both_conditions [] h = absurd (omega (arith, h))
both_conditions (c ∷ cs) h = refl

first_of : (P : Out ℕ → Type 0) (Q : BodyPort → Type 0) → ((p : BodyPort) → Q p → P (numbered_port p)) → (cs : List BodyPort) → 1 ≤ length cs → Each Q cs → P (first_port cs)
first_of P Q f [] h each = absurd (omega (arith, h))
first_of P Q f (c ∷ cs) h each = f c each.0

each_of_ports : (P : Out ℕ → Type 0) (Q : BodyPort → Type 0) → ((p : BodyPort) → Q p → P (numbered_port p)) → (ps : List BodyPort) → Each Q ps → Each P (map numbered_port ps)
each_of_ports P Q f [] each = tt
each_of_ports P Q f (p ∷ ps) each = (f p each.0, each_of_ports P Q f ps each.1)

others_of : (P : Out ℕ → Type 0) (Q : BodyPort → Type 0) → ((p : BodyPort) → Q p → P (numbered_port p)) → (cs : List BodyPort) → Each Q cs → Each P (other_ports cs)
others_of P Q f [] each = tt
others_of P Q f (c ∷ cs) each = each_of_ports P Q f cs each.1

differ_mapped : (ps : List BodyPort) → AllDiffer ps → AllDiffer (map numbered_port ps)
differ_mapped [] h = tt
differ_mapped (p ∷ ps) h = (apart p ps h.0, differ_mapped ps h.1)
  where
    apart : (p : BodyPort) (ps : List BodyPort) → AllByRecursion (λ q. p ≢ q) ps → AllByRecursion (λ q. numbered_port p ≢ q) (map numbered_port ps)
    apart p [] h = tt
    apart p (q ∷ ps) h = ((λ e. h.0 (λ i. record { node = ap (λ (z : Out ℕ). z.at) e i; port = ap (λ (z : Out ℕ). z.port) e i })), apart p ps h.1)

module _ (b : Body) (h : IsBody b) where
  pub some_conditions : 1 ≤ length b.conditions
  some_conditions = let count = h.count in omega (arith, count)

  pub shapes_are : body_shapes (numbered b) ≡ shapes b
  shapes_are = ap (λ z. b.vars ∷ z) (outs_are (b.vars ∷ []) (kinds b) b.inputs h.nodes)

  pub shape_at : (p : BodyPort) → at_output (body_shapes (numbered b)) (numbered_port p) ≡ entry (shapes b) p
  shape_at p = ap (λ z. at_output z (numbered_port p)) shapes_are ∙ entry_is (shapes b) p

  sources_are : sources (numbered b) ≡ map numbered_port (uses b)
  sources_are =
      (λ i. taken_are (b.vars ∷ []) (kinds b) b.inputs h.nodes i ++ (map numbered_port b.next ++ both_conditions b.conditions some_conditions i))
      ∙ sym (append_assoc (map numbered_port (flat b.inputs)) (map numbered_port b.next) (map numbered_port b.conditions))
      ∙ ap (λ z. z ++ map numbered_port b.conditions) (sym (map_both numbered_port (flat b.inputs) b.next)) ∙ sym (map_both numbered_port (flat b.inputs ++ b.next) b.conditions)

  -- an output whose shape is one is there
  shaped : (o : Option Shape) → IsShape (unwrap_or o []) → (a : Shape) × (o ≡ Some a) × IsShape a
  shaped None ok = let some = ok.some in absurd (omega (arith, some))
  shaped (Some a) ok = (a, refl, ok)

  next_shaped : (ps : List BodyPort) → AllByRecursion IsShape (map (λ p. unwrap_or (entry (shapes b) p) []) ps) → Each (Shaped (numbered b)) (map numbered_port ps)
  next_shaped [] ok = tt
  next_shaped (p ∷ ps) ok =
      let (a, is, fine) = shaped (entry (shapes b) p) ok.0 in (record { shape = a; is = shape_at p ∙ is; ok = fine }, next_shaped ps ok.1)

  pub good : CanGather b → GoodBody (numbered b)
  good can =
      record {
        vars = h.vars;
        steady = each_node IsSteady (λ k may. steady_is k may.0) (b.vars ∷ []) (kinds b) b.inputs h.nodes;
        kinds = each_node KindOk (λ k may. may.1) (b.vars ∷ []) (kinds b) b.inputs h.nodes;
        order = in_order (b.vars ∷ []) (kinds b) b.inputs h.nodes;
        next = next_shaped b.next (recursion_from_All IsShape (next_shapes b) can.parts.parts);
        condition = first_of (IsBit (numbered b)) (λ p. entry (shapes b) p ≡ Some (1 ∷ [])) (λ p is. shape_at p ∙ is) b.conditions some_conditions h.bits;
        others = others_of (IsBit (numbered b)) (λ p. entry (shapes b) p ≡ Some (1 ∷ [])) (λ p is. shape_at p ∙ is) b.conditions h.bits;
        once = subst AllDiffer (sym sources_are) (differ_mapped (uses b) (uses_differ (uses b) (shapes b) h.once));
        all = λ q a e.
            subst (In q) (sym sources_are)
            (mapped_in numbered_port (record { node = q.at; port = q.port }) (uses b)
            (used (uses b) (shapes b) h.once (record { node = q.at; port = q.port }) a (sym (shape_at (record { node = q.at; port = q.port })) ∙ e)));
      }

  -- One root

  passed : (o : Option Kind) → PassesOn o → (k : Kind) × (o ≡ Some k) × PassesThrough k
  passed None pass = absurd pass
  passed (Some k) pass = (k, refl, pass)

  copied : (p root : BodyPort) → BodyRoot b p root → CopiedFrom (numbered b) (numbered_port root) (numbered_port p)
  copied p root (body.here q stops) = here
  copied p root (body.through p' q root' i at pass inputs rest) =
      let (k, is, through) = passed (slice_get (kinds b) i) pass in
      past i (record { kind = k; inputs = map numbered_port (q ∷ []) }) (numbered_port q) at (node_at (kinds b) b.inputs i k (q ∷ []) is inputs) through refl (copied q root rest)

  pub one_root : OneRoot (numbered b) (numbered_port h.condition.root)
  one_root =
      record {
        condition = first_of (CopiedFrom (numbered b) (numbered_port h.condition.root)) (λ p. BodyRoot b p h.condition.root) (λ p r. copied p h.condition.root r) b.conditions some_conditions h.condition.roots;
        others = others_of (CopiedFrom (numbered b) (numbered_port h.condition.root)) (λ p. BodyRoot b p h.condition.root) (λ p r. copied p h.condition.root r) b.conditions h.condition.roots;
      }
