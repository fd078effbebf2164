-- The plan of a body is typed, and its wires by the places of their nodes.
use Rattle.std.proofs.Common.{◌≡◌, ◌≢◌, ℕ, zero, suc, ◌+◌, refl, sym, ap, subst, ◌∙◌, List, [], ◌∷◌, ◌++◌, map, length, Option, Some, None, append_assoc, arith}
use Rattle.std.specs.Prelude.{◌≤◌, All, slice_get}
use Rattle.std.specs.List.{AllByRecursion, concat}
use Rattle.std.proofs.lemmas.Option.{none-some, same_Some}
use Rattle.std.proofs.lemmas.List.Elements.{All-from_recursion}
use Rattle.port_types.specs.Shape.{IsShape}
use Rattle.components.specs.Kind.{Shape, ins, outs, KindOk}
use Rattle.components.specs.Name.{port_get}
use Rattle.components.specs.Numbered.{single_port}
use Rattle.fun_expr.specs.Each.{Each}
use Rattle.graph_core.specs.declared.exchange.End.{End}
use Rattle.graph_core.specs.declared.exchange.End.TheVariants.{Fresh, Old}
use Rattle.circuits.specs.Replacing.{In, head}
use Rattle.circuits.specs.Replacing.{tail as past}
use Rattle.circuit_plans.specs.Plans.{Out, Plan, from}
use Rattle.circuit_plans.specs.Drawing.{DrawnWire}
use Rattle.circuit_plans.specs.Places.{Place, first, later, item, before, each_of}
use Rattle.circuit_plans.proofs.Namings.{mapped_in, each_in}
use Rattle.subst_engine.specs.Making.{AllDiffer}
use Rattle.body_laws.specs.Bodies.{BodyNode, Body, on_side, at_output, body_shapes}
use Rattle.body_laws.specs.BodyPlans.{Part, enter, vars, node, tail, Way, next, condition, other, way_out, way_shape, some_shape, only, out_of, body_plan, TypedBody}
use Rattle.body_laws.specs.TypedPlan.{TypedPlan}
use Rattle.drawn_rules.specs.Sides.{end_at, ends_of}
use Rattle.drawn_rules.proofs.Labelled.{wire_ends}
use Rattle.drawn_rules.proofs.Places.{each_next, stands_at}
use Rattle.gather_rule.specs.PlanDrawing.{wire_from, wires_into, all_wires}
use Rattle.gather_rule.specs.GatherGraphs.{body_list, body_drawing}
use Rattle.gather_rule.specs.GatherSides.{rows_from, out_end, input_ends, nodes_ends, exit_ends, left_ends}
use Rattle.gather_rule.proofs.PlanDrawn.{Enters, drawn_wire, sound_all, Sourced}
use Rattle.gather_rule.proofs.GoodBodies.{taken_by, sources, Shaped, IsBit, GoodBody}
use Rattle.gather_rule.proofs.GatherNodes.{old_in, old_place, old_total, old_counted, old_next, old_other}
use Rattle.gather_rule.proofs.BodyPlaces.{inputs_shaped, fed_input, input_fed, Resolves, resolve}

pub at_item : {A : Type 0} (Q : A → Type 0) (xs : List A) → Each Q xs → (p : Place xs) → Q (item xs p)
at_item Q [] h p = elim p [ ]
at_item Q (x ∷ xs) h first = h.0
at_item Q (x ∷ xs) h (later p) = at_item Q xs h.1 p

pub only_is : {A : Type 0} (o : Option A) (i : ℕ) (x : A) → only o i ≡ Some x → (i ≡ 1) × (o ≡ Some x)
only_is o zero x e = absurd (none-some x e)
only_is o (suc zero) x e = (refl, e)
only_is o (suc (suc i)) x e = absurd (none-some x e)

pub map_both : {A B : Type 0} (f : A → B) (xs ys : List A) → map f (xs ++ ys) ≡ map f xs ++ map f ys
map_both f [] ys = refl
map_both f (x ∷ xs) ys = ap (λ z. f x ∷ z) (map_both f xs ys)

mapped_twice : {A B C : Type 0} (f : A → B) (g : B → C) (xs : List A) → map g (map f xs) ≡ map (λ x. g (f x)) xs
mapped_twice f g [] = refl
mapped_twice f g (x ∷ xs) = ap (λ z. g (f x) ∷ z) (mapped_twice f g xs)

unmapped : {A B : Type 0} (f : A → B) (y : B) (xs : List A) → In y (map f xs) → (x : A) × In x xs × (y ≡ f x)
unmapped f y [] i = elim i [ ]
unmapped f y (x ∷ xs) (head e) = (x, head refl, e)
unmapped f y (x ∷ xs) (past i) = let (z, within, is) = unmapped f y xs i in (z, past within, is)

-- of elements that differ in what f gives, two that agree in it are one
one_of : {A B : Type 0} (f : A → B) (xs : List A) (x y : A) → AllDiffer (map f xs) → In x xs → In y xs → f x ≡ f y → x ≡ y
one_of f [] x y h i j e = elim i [ ]
one_of f (z ∷ xs) x y h (head a) (head c) e = a ∙ sym c
one_of f (z ∷ xs) x y h (head a) (past j) e = absurd (each_in (λ m. f z ≢ m) (map f xs) (f y) h.0 (mapped_in f y xs j) (ap f (sym a) ∙ e))
one_of f (z ∷ xs) x y h (past i) (head c) e = absurd (each_in (λ m. f z ≢ m) (map f xs) (f x) h.0 (mapped_in f x xs i) (ap f (sym c) ∙ sym e))
one_of f (z ∷ xs) x y h (past i) (past j) e = one_of f xs x y h.1 i j e

-- the wires into families of nodes

module _ {N : Type 0} (c : Plan N) (place : N → ℕ) where
  abbrev pub ends_into : List N → List (End × End)
  ends_into ns = map (wire_ends place) (all_wires c ns)

  all_both : (ms ns : List N) → all_wires c (ms ++ ns) ≡ all_wires c ms ++ all_wires c ns
  all_both [] ns = refl
  all_both (m ∷ ms) ns = ap (λ z. wires_into c m 1 (ins (c.kind m)) ++ z) (all_both ms ns) ∙ sym (append_assoc (wires_into c m 1 (ins (c.kind m))) (all_wires c ms) (all_wires c ns))

  pub ends_both : (ms ns : List N) → ends_into (ms ++ ns) ≡ ends_into ms ++ ends_into ns
  ends_both ms ns = ap (map (wire_ends place)) (all_both ms ns) ∙ map_both (wire_ends place) (all_wires c ms) (all_wires c ns)

  pub ends_family : {A : Type 0} (row : ℕ → A → List (End × End)) (xs : List A) (family : Place xs → N) (low : ℕ) →
      ((p : Place xs) → map (wire_ends place) (wires_into c (family p) 1 (ins (c.kind (family p)))) ≡ row (low + before xs p) (item xs p)) → ends_into (each_of xs family) ≡ rows_from row low xs
  ends_family row [] family low h = refl
  ends_family row (x ∷ xs) family low h =
      let here : low + 0 ≡ low = omega arith in
      ap ends_into (each_next x xs family)
      ∙ map_both (wire_ends place) (wires_into c (family first) 1 (ins (c.kind (family first)))) (all_wires c (each_of xs (λ p. family (later p))))
      ∙ (λ i. (h first ∙ ap (λ z. row z x) here) i ++ ends_family row xs (λ p. family (later p)) (suc low) (λ p. h (later p) ∙ ap (λ z. row z (item xs p)) (further p)) i)
    where
      further : (p : Place xs) → low + suc (before xs p) ≡ suc low + before xs p
      further p = omega arith

  -- the wire into a node with one input
  pub ends_one : (n : N) (a : Shape) (q : Out N) → ins (c.kind n) ≡ a ∷ [] → c.source n 1 ≡ Some q → map (wire_ends place) (wires_into c n 1 (ins (c.kind n))) ≡ (Fresh (place q.at) q.port, Fresh (place n) 1) ∷ []
  ends_one n a q e f = ap (λ z. map (wire_ends place) (wires_into c n 1 z)) e ∙ ap (λ o. map (wire_ends place) (wire_from o n 1 [])) f

module _ (b : Body) (g : GoodBody b) where
  abbrev P : Type 0
  P = Part b (Way b)

  abbrev pub plan : Plan P
  plan = body_plan b

  bit_shape : (q : Out ℕ) → IsBit b q → Resolves b q
  bit_shape q h = resolve b q (1 ∷ []) h

  pub way_shaped : (w : Way b) → at_output (body_shapes b) (way_out b w) ≡ Some (way_shape b w)
  way_shaped (next p) = let h = at_item (Shaped b) b.next g.next p in h.is ∙ ap Some (sym (ap some_shape h.is))
  way_shaped condition = g.condition
  way_shaped (other p) = at_item (IsBit b) b.others g.others p

  bit_ok : IsShape (1 ∷ [])
  bit_ok = record { some = omega arith; few = omega arith; narrow = recursion_all }
    where
      recursion_all : All (λ width. width ≤ 64) (1 ∷ [])
      recursion_all = All-from_recursion (λ width. width ≤ 64) (1 ∷ []) (omega arith, tt)

  pub way_ok : (w : Way b) → IsShape (way_shape b w)
  way_ok (next p) = let h = at_item (Shaped b) b.next g.next p in subst IsShape (sym (ap some_shape h.is)) h.ok
  way_ok condition = bit_ok
  way_ok (other p) = bit_ok

  pub way_resolved : (w : Way b) → Resolves b (way_out b w)
  way_resolved w = resolve b (way_out b w) (way_shape b w) (way_shaped w)

  kind_ok : (n : P) → KindOk (plan.kind n)
  kind_ok enter = g.vars.whole
  kind_ok vars = g.vars
  kind_ok (node p) = at_item (λ (n : BodyNode). KindOk n.kind) b.nodes g.kinds p
  kind_ok (tail w) = way_ok w

  abbrev enters_at : Out P → Shape → Type 0
  enters_at p a = port_get (ins (plan.kind p.at)) p.port ≡ Some a

  abbrev leaves_at : Out P → Shape → Type 0
  leaves_at q a = port_get (outs (plan.kind q.at)) q.port ≡ Some a

  -- what an input that has a source takes
  out_source : (o : Option (Out ℕ)) (q : Out P) → out_of b (Way b) o ≡ Some q → (r : Out ℕ) × (o ≡ Some r) × (out_of b (Way b) (Some r) ≡ Some q)
  out_source None q e = absurd (none-some q e)
  out_source (Some r) q e = (r, refl, e)

  resolved : (r : Out ℕ) (a : Shape) (q : Out P) → at_output (body_shapes b) r ≡ Some a → out_of b (Way b) (Some r) ≡ Some q → leaves_at q a
  resolved r a q shape is =
      let h = resolve b r a shape in
      let same : h.out ≡ q = same_Some h.out q (sym h.is ∙ is) in
      subst (λ z. leaves_at z a) same (h.shape ∙ shape)

  wire_shape : (n : P) (i : ℕ) (q : Out P) → plan.source n i ≡ Some q → (a : Shape) × enters_at (record { at = n; port = i }) a × leaves_at q a
  wire_shape enter i q e = absurd (none-some q e)
  wire_shape vars i q e =
      let (port, is) = only_is (from enter 1) i q e in
      (concat b.vars, ap (port_get (concat b.vars ∷ [])) port, subst (λ z. leaves_at z (concat b.vars)) (same_Some (record { at = enter; port = 1 }) q is) refl)
  wire_shape (node p) i q e =
      let (r, is_source, is) = out_source (port_get (item b.nodes p).inputs i) q e in
      let (a, enters, shape) = input_fed (body_shapes b) (item b.nodes p).inputs (ins (item b.nodes p).kind) (inputs_shaped b g.order p) i r is_source in
      (a, enters, resolved r a q shape is)
  wire_shape (tail w) i q e =
      let (port, is) = only_is (out_of b (Way b) (Some (way_out b w))) i q e in
      (way_shape b w, ap (port_get (way_shape b w ∷ [])) port, resolved (way_out b w) (way_shape b w) q (way_shaped w) is)

  pub enters : Enters plan
  enters n i q e = let (a, into, out) = wire_shape n i q e in (a, into)

  node_input : (p : Place b.nodes) (i : ℕ) (a : Shape) → port_get (ins (item b.nodes p).kind) i ≡ Some a → (r : Out ℕ) × (port_get (item b.nodes p).inputs i ≡ Some r) × Resolves b r
  node_input p i a e =
      let fed = fed_input (body_shapes b) (item b.nodes p).inputs (ins (item b.nodes p).kind) (inputs_shaped b g.order p) i a e in
      (fed.source, fed.is, resolve b fed.source a fed.shape)

  input_source : (n : P) (i : ℕ) (a : Shape) → enters_at (record { at = n; port = i }) a → (q : Out P) × (plan.source n i ≡ Some q)
  input_source enter i a e = absurd (none-some a e)
  input_source vars i a e = (record { at = enter; port = 1 }, ap (plan.source vars) (single_port (concat b.vars) a i e))
  input_source (node p) i a e = let (r, is, h) = node_input p i a e in (h.out, ap (out_of b (Way b)) is ∙ h.is)
  input_source (tail w) i a e = let h = way_resolved w in (h.out, ap (plan.source (tail w)) (single_port (way_shape b w) a i e) ∙ h.is)

  -- The wires by places

  abbrev wires : List (DrawnWire P)
  wires = all_wires plan (body_list b)

  abbrev pub place : P → ℕ
  place = old_place b

  -- those into a node of the body
  node_ends : (p : Place b.nodes) (start : ℕ) (shapes : List Shape) (qs : List (Out ℕ)) → map (at_output (body_shapes b)) qs ≡ map Some shapes →
      ((j : ℕ) → plan.source (node p) (start + j) ≡ out_of b (Way b) (port_get qs (suc j))) → map (wire_ends place) (wires_into plan (node p) start shapes) ≡ input_ends (place (node p)) start qs
  node_ends p start [] [] e h = refl
  node_ends p start [] (q ∷ qs) e h = cc
  node_ends p start (a ∷ shapes) [] e h = cc
  node_ends p start (a ∷ shapes) (q ∷ qs) e h =
      let k : at_output (body_shapes b) q ∷ map (at_output (body_shapes b)) qs ≡ Some a ∷ map Some shapes = e in
      let shape : at_output (body_shapes b) q ≡ Some a = cc in
      let tails : map (at_output (body_shapes b)) qs ≡ map Some shapes = cc in
      let r = resolve b q a shape in
      let now : start ≡ start + 0 = omega arith in
      ap (λ o. map (wire_ends place) (wire_from o (node p) start (wires_into plan (node p) (suc start) shapes))) (ap (plan.source (node p)) now ∙ h 0 ∙ r.is)
      ∙ (λ i. (Fresh (r.at i) (r.port i), Fresh (place (node p)) start) ∷ node_ends p (suc start) shapes qs tails (λ j. ap (plan.source (node p)) (further j) ∙ h (suc j)) i)
    where
      further : (j : ℕ) → suc start + j ≡ start + suc j
      further j = omega arith

  node_source : (p : Place b.nodes) (j : ℕ) → plan.source (node p) (1 + j) ≡ out_of b (Way b) (port_get (item b.nodes p).inputs (suc j))
  node_source p j = let same : 1 + j ≡ suc j = omega arith in ap (λ i. out_of b (Way b) (port_get (item b.nodes p).inputs i)) same

  -- and that into an Exit
  way_ends : (w : Way b) (low : ℕ) → place (tail w) ≡ low → map (wire_ends place) (wires_into plan (tail w) 1 (ins (plan.kind (tail w)))) ≡ (out_end (way_out b w), Fresh low 1) ∷ []
  way_ends w low is =
      let r = way_resolved w in
      ends_one plan place (tail w) (way_shape b w) r.out refl r.is ∙ (λ i. (Fresh (r.at i) (r.port i), Fresh (is i) 1) ∷ [])

  abbrev n : ℕ
  n = length b.nodes

  abbrev k : ℕ
  k = length b.next

  rows_both : {A B : Type 0} (row : ℕ → A → List B) (low : ℕ) (xs ys : List A) → rows_from row low (xs ++ ys) ≡ rows_from row low xs ++ rows_from row (low + length xs) ys
  rows_both row low [] ys = let same : low ≡ low + 0 = omega arith in ap (λ z. rows_from row z ys) same
  rows_both row low (x ∷ xs) ys =
      let same : suc low + length xs ≡ low + suc (length xs) = omega arith in
      ap (λ z. row low x ++ z) (rows_both row (suc low) xs ys ∙ ap (λ z. rows_from row (suc low) xs ++ rows_from row z ys) same)
      ∙ sym (append_assoc (row low x) (rows_from row (suc low) xs) (rows_from row (low + suc (length xs)) ys))

  abbrev exit_row : ℕ → Out ℕ → List (End × End)
  exit_row p q = (out_end q, Fresh p 1) ∷ []

  exits_are : ends_into plan place (each_of b.next (old_next b) ++ (tail condition ∷ each_of b.others (old_other b))) ≡ exit_ends (2 + n) (b.next ++ b.condition ∷ b.others)
  exits_are =
      ends_both plan place (each_of b.next (old_next b)) (tail condition ∷ each_of b.others (old_other b))
      ∙ (λ i. ends_family plan place exit_row b.next (old_next b) (2 + n) (λ p. way_ends (next p) ((2 + n) + before b.next p) (omega arith)) i ++ rest i)
      ∙ sym (rows_both exit_row (2 + n) b.next (b.condition ∷ b.others))
    where
      rest : ends_into plan place (tail condition ∷ each_of b.others (old_other b)) ≡ exit_ends ((2 + n) + k) (b.condition ∷ b.others)
      rest =
          map_both (wire_ends place) (wires_into plan (tail condition) 1 (ins (plan.kind (tail condition)))) (all_wires plan (each_of b.others (old_other b)))
          ∙ (λ i. way_ends condition ((2 + n) + k) (omega arith) i ++
          ends_family plan place exit_row b.others (old_other b) (suc ((2 + n) + k)) (λ p. way_ends (other p) (suc ((2 + n) + k) + before b.others p) (omega arith)) i)

  pub ends_are : left_ends b ≡ ends_of (body_drawing b) place
  ends_are =
      sym (ap (λ z. (Fresh 0 1, Fresh 1 1) ∷ z)
      (ends_both plan place (each_of b.nodes node) (each_of b.next (old_next b) ++ (tail condition ∷ each_of b.others (old_other b)))
      ∙ (λ i. ends_family plan place (λ p m. input_ends p 1 m.inputs) b.nodes node 2
      (λ p. node_ends p 1 (ins (item b.nodes p).kind) (item b.nodes p).inputs (inputs_shaped b g.order p) (node_source p) ∙ ap (λ z. input_ends z 1 (item b.nodes p).inputs) (at_two p)) i ++ exits_are i)))
    where
      at_two : (p : Place b.nodes) → place (node p) ≡ 2 + before b.nodes p
      at_two p = omega arith

  -- Each output has one input

  abbrev source_end : DrawnWire P → End
  source_end w = end_at place w.source

  fst_of : (ws : List (DrawnWire P)) → map (λ (e : End × End). e.0) (map (wire_ends place) ws) ≡ map source_end ws
  fst_of ws = mapped_twice (wire_ends place) (λ (e : End × End). e.0) ws

  input_sources : (at port : ℕ) (qs : List (Out ℕ)) → map (λ (e : End × End). e.0) (input_ends at port qs) ≡ map out_end qs
  input_sources at port [] = refl
  input_sources at port (q ∷ qs) = ap (λ z. out_end q ∷ z) (input_sources at (suc port) qs)

  nodes_sources : (low : ℕ) (ns : List BodyNode) → map (λ (e : End × End). e.0) (nodes_ends low ns) ≡ map out_end (taken_by ns)
  nodes_sources low [] = refl
  nodes_sources low (m ∷ ns) =
      map_both (λ (e : End × End). e.0) (input_ends low 1 m.inputs) (nodes_ends (suc low) ns)
      ∙ (λ i. input_sources low 1 m.inputs i ++ nodes_sources (suc low) ns i) ∙ sym (map_both out_end m.inputs (taken_by ns))

  exit_sources : (low : ℕ) (qs : List (Out ℕ)) → map (λ (e : End × End). e.0) (exit_ends low qs) ≡ map out_end qs
  exit_sources low [] = refl
  exit_sources low (q ∷ qs) = ap (λ z. out_end q ∷ z) (exit_sources (suc low) qs)

  -- the sources of the wires, by places
  sources_by_place : map source_end wires ≡ Fresh 0 1 ∷ map out_end (sources b)
  sources_by_place =
      sym (fst_of wires) ∙ ap (map (λ (e : End × End). e.0)) (sym ends_are)
      ∙ ap (λ z. Fresh 0 1 ∷ z)
      (map_both (λ (e : End × End). e.0) (nodes_ends 2 b.nodes) (exit_ends (2 + n) (b.next ++ b.condition ∷ b.others))
      ∙ (λ i. nodes_sources 2 b.nodes i ++ exit_sources (2 + n) (b.next ++ b.condition ∷ b.others) i)
      ∙ sym (map_both out_end (taken_by b.nodes) (b.next ++ b.condition ∷ b.others)))

  abbrev end_place : End → ℕ
  end_place (Fresh p i) = p
  end_place (Old q) = 0

  abbrev end_port : End → ℕ
  end_port (Fresh p i) = i
  end_port (Old q) = 0

  one_out : (q r : Out ℕ) → out_end q ≡ out_end r → q ≡ r
  one_out q r e =
      let at : suc q.at ≡ suc r.at = ap end_place e in
      let same : q.at ≡ r.at = omega (arith, at) in
      λ i. record { at = same i; port = ap end_port e i }

  apart_mapped : (q : Out ℕ) (qs : List (Out ℕ)) → AllByRecursion (λ r. q ≢ r) qs → AllByRecursion (λ e. out_end q ≢ e) (map out_end qs)
  apart_mapped q [] h = tt
  apart_mapped q (r ∷ qs) h = ((λ e. h.0 (one_out q r e)), apart_mapped q qs h.1)

  differ_mapped : (qs : List (Out ℕ)) → AllDiffer qs → AllDiffer (map out_end qs)
  differ_mapped [] h = tt
  differ_mapped (q ∷ qs) h = (apart_mapped q qs h.0, differ_mapped qs h.1)

  none_is_entry : (qs : List (Out ℕ)) → AllByRecursion (λ e. Fresh 0 1 ≢ e) (map out_end qs)
  none_is_entry [] = tt
  none_is_entry (q ∷ qs) = ((λ e. let k : 0 ≡ suc q.at = ap end_place e in absurd (omega (arith, k))), none_is_entry qs)

  sources_differ : AllDiffer (map source_end wires)
  sources_differ = subst AllDiffer (sym sources_by_place) (none_is_entry (sources b), differ_mapped (sources b) g.once)

  stands : (m : P) → slice_get (body_list b) (place m) ≡ Some m
  stands m = stands_at place (old_total b) (body_list b) m (old_counted b) (old_in b m)

  one_place : (m l : P) → place m ≡ place l → m ≡ l
  one_place m l e = same_Some m l (sym (stands m) ∙ ap (slice_get (body_list b)) e ∙ stands l)

  pub drawn_here : (n : P) (i : ℕ) (q : Out P) → plan.source n i ≡ Some q → In (record { source = q; target = record { at = n; port = i } }) wires
  drawn_here = drawn_wire plan enters (body_list b) (old_in b)

  once : (p r q : Out P) → plan.source p.at p.port ≡ Some q → plan.source r.at r.port ≡ Some q → p ≡ r
  once p r q e f =
      ap (λ (w : DrawnWire P). w.target)
      (one_of source_end wires (record { source = q; target = p }) (record { source = q; target = r }) sources_differ (drawn_here p.at p.port q e) (drawn_here r.at r.port q f) refl)

  -- an output at a place feeds an input
  feeds : (m : P) (i at : ℕ) (a : Shape) → place m ≡ suc at → at_output (body_shapes b) (record { at = at; port = i }) ≡ Some a → (p : Out P) × (plan.source p.at p.port ≡ Some (record { at = m; port = i }))
  feeds m i at a is e =
      let named = past (mapped_in out_end (record { at = at; port = i }) (sources b) (g.all (record { at = at; port = i }) a e)) in
      let (w, within, same) = unmapped source_end (out_end (record { at = at; port = i })) wires (subst (In (out_end (record { at = at; port = i }))) (sym sources_by_place) named) in
      let node : w.source.at ≡ m = one_place w.source.at m (sym (ap end_place same) ∙ sym is) in
      let sourced = each_in (Sourced plan) wires w (sound_all plan (body_list b)) within in
      (w.target, sourced ∙ (λ j. Some (record { at = node j; port = sym (ap end_port same) j })))

  node_outs : (p : Place b.nodes) (i : ℕ) → at_output (body_shapes b) (record { at = suc (before b.nodes p); port = i }) ≡ port_get (outs (item b.nodes p).kind) i
  node_outs p i = in_list b.nodes p
    where
      in_list : (ns : List BodyNode) (p : Place ns) → on_side (slice_get (map (λ (n : BodyNode). outs n.kind) ns) (before ns p)) i ≡ port_get (outs (item ns p).kind) i
      in_list [] p = elim p [ ]
      in_list (m ∷ ns) first = refl
      in_list (m ∷ ns) (later p) = in_list ns p

  output_used : (m : P) (i : ℕ) (a : Shape) → leaves_at (record { at = m; port = i }) a → (p : Out P) × (plan.source p.at p.port ≡ Some (record { at = m; port = i }))
  output_used enter i a e = (record { at = vars; port = 1 }, λ j. Some (record { at = enter; port = sym (single_port (concat b.vars) a i e) j }))
  output_used vars i a e = feeds vars i 0 a refl e
  output_used (node p) i a e = feeds (node p) i (suc (before b.nodes p)) a refl (node_outs p i ∙ e)
  output_used (tail w) i a e = absurd (none-some a e)

  pub typed : TypedPlan plan
  typed =
      record {
        kinds = kind_ok;
        wires = λ p q e. wire_shape p.at p.port q e;
        inputs = λ p a e. input_source p.at p.port a e;
        outputs = λ q a e. output_used q.at q.port a e;
        once = once;
      }

  pub typed_body : TypedBody b
  typed_body = record { steady = g.steady; order = g.order; typed = typed }
