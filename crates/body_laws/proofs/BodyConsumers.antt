-- who consumes the outputs of a body: from its plan with an Exit a leaving wire, to the body with a Join and Sinks behind it
use Rattle.std.proofs.Common.{◌≡◌, ℕ, zero, suc, refl, sym, ap, subst, ◌∙◌, List, [], ◌∷◌, ◌++◌, Option, Some, None, map, append_assoc, Bool}
use Rattle.std.specs.Prelude.{slice_get}
use Rattle.body_laws.proofs.PartSteady.{only_is, IsOut, of_vars, of_node, out_is}
use Rattle.body_laws.proofs.PlaceLemmas.{port_both, unport_map, port_map}
use Rattle.body_laws.specs.Bodies.{BodyNode, Body, at_output, on_side, NodesInOrder, body_shapes}
use Rattle.body_laws.specs.BodyPlans.{Part, enter, vars, node, tail, node_out, out_by_number, out_of, Way, condition, way_out, way_shape, way_kind, way_source, same_way, body_plan, part_kind}
use Rattle.body_laws.proofs.GoodBody.{TypedBody}
use Rattle.circuit_plans.specs.Places.{Place, first, later, item, before, place_at, later_of}
use Rattle.circuit_plans.specs.Plans.{Out}
use Rattle.circuits.proofs.Beside.{none_some}
use Rattle.components.specs.Kind.{Shape, ins, outs}
use Rattle.components.specs.Name.{port_get}
use Rattle.components.specs.declared.kind.Kind.{Kind}
use Rattle.std.proofs.lemmas.Option.{same_Some}

get_map : {A B : Type 0} (f : A → B) (xs : List A) (p : Place xs) → slice_get (map f xs) (before xs p) ≡ Some (f (item xs p))
get_map f [] p = elim p [ ]
get_map f (x ∷ xs) first = refl
get_map f (x ∷ xs) (later p) = get_map f xs p

pub port_item : {A : Type 0} (xs : List A) (p : Place xs) → port_get xs (suc (before xs p)) ≡ Some (item xs p)
port_item [] p = elim p [ ]
port_item (x ∷ xs) first = refl
port_item (x ∷ xs) (later p) = port_item xs p

pub item_at : {A : Type 0} (xs : List A) (i : ℕ) (x : A) → port_get xs i ≡ Some x → (p : Place xs) × (i ≡ suc (before xs p)) × (item xs p ≡ x)
item_at [] i x e = absurd (none_some None x refl e)
item_at (y ∷ xs) zero x e = absurd (none_some None x refl e)
item_at (y ∷ xs) (suc zero) x e = (first, refl, same_Some y x e)
item_at (y ∷ xs) (suc (suc i)) x e = let (p, k, g) = item_at xs (suc i) x e in (later p, ap suc k, g)

get_more : (xs ys : List (List Shape)) (n i : ℕ) (v : Shape) → on_side (slice_get xs n) i ≡ Some v → on_side (slice_get (xs ++ ys) n) i ≡ Some v
get_more [] ys n i v e = absurd (none_some None v refl e)
get_more (x ∷ xs) ys zero i v e = e
get_more (x ∷ xs) ys (suc n) i v e = get_more xs ys n i v e

-- the shape at an input's source
in_order : (before : List (List Shape)) (ns : List BodyNode) → NodesInOrder before ns → (p : Place ns) (i : ℕ) (q : Out ℕ) → port_get (item ns p).inputs i ≡ Some q → (a : Shape) × (port_get (ins (item ns p).kind) i ≡ Some a) × (at_output (before ++ map (λ n. outs n.kind) ns) q ≡ Some a)
in_order before [] h p i q e = elim p [ ]
in_order before (n ∷ ns) h first i q e =
    let (a, g, k) = port_both (at_output before) n.inputs (ins n.kind) h.0 i q e in (a, g, get_more before (map (λ n. outs n.kind) (n ∷ ns)) q.at q.port a k)
in_order before (n ∷ ns) h (later p) i q e =
    let (a, g, k) = in_order (before ++ outs n.kind ∷ []) ns h.1 p i q e in
    (a, g, subst (λ z. at_output z q ≡ Some a) (append_assoc before (outs n.kind ∷ []) (map (λ n. outs n.kind) ns)) k)

input_there : (before : List (List Shape)) (ns : List BodyNode) → NodesInOrder before ns → (p : Place ns) (i : ℕ) (a : Shape) → port_get (ins (item ns p).kind) i ≡ Some a → (q : Out ℕ) × (port_get (item ns p).inputs i ≡ Some q)
input_there before [] h p i a e = elim p [ ]
input_there before (n ∷ ns) h first i a e =
    let (o, g, k) = unsome (map (at_output before) n.inputs) (ins n.kind) h.0 i a e in
    let (q, f, is) = unport_map (at_output before) n.inputs i o g in
    (q, f)
  where
    unsome : (os : List (Option Shape)) (bs : List Shape) → os ≡ map Some bs → (i : ℕ) (a : Shape) → port_get bs i ≡ Some a → (o : Option Shape) × (port_get os i ≡ Some o) × (o ≡ Some a)
    unsome os bs e i a f = (Some a, ap (λ z. port_get z i) e ∙ port_map Some bs i a f, refl)
input_there before (n ∷ ns) h (later p) i a e = input_there (before ++ outs n.kind ∷ []) ns h.1 p i a e

-- what an output has in a plan
module _ (b : Body) (T : Type 0) (kind : T → Kind) (source : T → ℕ → Option (Out (Part b T))) (same : T → T → Bool) where
  pub leaves_is : (n i : ℕ) (q : Out (Part b T)) → IsOut b T n i q → port_get (outs (part_kind b T kind source same q.at)) q.port ≡ at_output (body_shapes b) (record { at = n; port = i })
  leaves_is n i q (of_vars e f) =
      ap (λ (z : Out (Part b T)). port_get (outs (part_kind b T kind source same z.at)) z.port) (sym f) ∙ ap (λ z. at_output (body_shapes b) (record { at = z; port = i })) (sym e)
  leaves_is n i q (of_node p e f) =
      ap (λ (z : Out (Part b T)). port_get (outs (part_kind b T kind source same z.at)) z.port) (sym f) ∙ sym (ap (λ z. on_side z i) (get_map (λ n. outs n.kind) b.nodes p))
      ∙ ap (λ z. at_output (body_shapes b) (record { at = z; port = i })) (sym e)

node_there : (b : Body) (T : Type 0) (ns : List BodyNode) (n i : ℕ) (a : Shape) → on_side (slice_get (map (λ n. outs n.kind) ns) n) i ≡ Some a → (p : Place ns) × (place_at ns (suc n) ≡ Some p)
node_there b T [] n i a e = absurd (none_some None a refl e)
node_there b T (m ∷ ns) zero i a e = (first, refl)
node_there b T (m ∷ ns) (suc n) i a e =
    let (p, f) = node_there b T ns n i a e in (later p, ap later_of f)

pub out_there : (b : Body) (T : Type 0) (n i : ℕ) (a : Shape) → at_output (body_shapes b) (record { at = n; port = i }) ≡ Some a → (q : Out (Part b T)) × (out_by_number b T n i ≡ Some q)
out_there b T zero i a e = (record { at = vars; port = i }, refl)
out_there b T (suc n) i a e = let (p, f) = node_there b T b.nodes n i a e in (record { at = node p; port = i }, ap (node_out b T i) f)

-- an output of a plan has one number
abbrev number_in : (b : Body) (T : Type 0) → Part b T → ℕ
number_in b T enter = 0
number_in b T vars = 0
number_in b T (node p) = suc (before b.nodes p)
number_in b T (tail t) = 0

number_is : (b : Body) (T : Type 0) (n i : ℕ) (q : Out (Part b T)) → IsOut b T n i q → n ≡ number_in b T q.at
number_is b T n i q (of_vars e f) = e ∙ ap (λ (z : Out (Part b T)). number_in b T z.at) f
number_is b T n i q (of_node p e f) = e ∙ ap (λ (z : Out (Part b T)). number_in b T z.at) f

port_is : (b : Body) (T : Type 0) (n i : ℕ) (q : Out (Part b T)) → IsOut b T n i q → i ≡ q.port
port_is b T n i q (of_vars e f) = ap (λ (z : Out (Part b T)). z.port) f
port_is b T n i q (of_node p e f) = ap (λ (z : Out (Part b T)). z.port) f

pub same_number : (b : Body) (T : Type 0) (r s : Out ℕ) (q : Out (Part b T)) → IsOut b T r.at r.port q → IsOut b T s.at s.port q → r ≡ s
same_number b T r s q x y =
    λ l. record { at = (number_is b T r.at r.port q x ∙ sym (number_is b T s.at s.port q y)) l; port = (port_is b T r.at r.port q x ∙ sym (port_is b T s.at s.port q y)) l }

-- and is none of the Entry or of what stands behind
abbrev pub IsInner : (b : Body) (T : Type 0) → Part b T → Type 0
IsInner b T enter = ⊥
IsInner b T vars = Unit {0}
IsInner b T (node p) = Unit {0}
IsInner b T (tail t) = ⊥

pub out_inner : (b : Body) (T : Type 0) (n i : ℕ) (q : Out (Part b T)) → IsOut b T n i q → IsInner b T q.at
out_inner b T n i q (of_vars e f) = subst (λ (z : Out (Part b T)). IsInner b T z.at) f tt
out_inner b T n i q (of_node p e f) = subst (λ (z : Out (Part b T)). IsInner b T z.at) f tt

-- the consumers of a body's outputs: the inputs of its nodes and the leaving wires
pub data Consumer (b : Body) : Type 0 where
  input : Place b.nodes → ℕ → Consumer b
  way : Way b → Consumer b

abbrev pub draws : (b : Body) → Consumer b → Option (Out ℕ)
draws b (input p i) = port_get (item b.nodes p).inputs i
draws b (way w) = Some (way_out b w)

abbrev pub wants : (b : Body) → Consumer b → Option Shape
wants b (input p i) = port_get (ins (item b.nodes p).kind) i
wants b (way w) = Some (way_shape b w)

abbrev pub consumer_port : (b : Body) → Consumer b → Out (Part b (Way b))
consumer_port b (input p i) = record { at = node p; port = i }
consumer_port b (way w) = record { at = tail w; port = 1 }

module _ (b : Body) (is_body : TypedBody b) where
  open is_body use {typed}

  -- a leaving wire has its shape
  pub way_drawn : (w : Way b) → at_output (body_shapes b) (way_out b w) ≡ Some (way_shape b w)
  way_drawn w =
      let (q, f) = typed.inputs (record { at = tail w; port = 1 }) (way_shape b w) refl in
      let (a, enters, leaves) = typed.wires (record { at = tail w; port = 1 }) q f in
      sym (leaves_is b (Way b) (way_kind b) (way_source b) (same_way b) (way_out b w).at (way_out b w).port q (out_is b (Way b) (way_out b w).at (way_out b w).port q f))
      ∙ leaves ∙ sym enters

  pub drawn : (k : Consumer b) (r : Out ℕ) → draws b k ≡ Some r → (a : Shape) × (wants b k ≡ Some a) × (at_output (body_shapes b) r ≡ Some a)
  drawn (input p i) r e = in_order (b.vars ∷ []) b.nodes is_body.order p i r e
  drawn (way w) r e = (way_shape b w, refl, ap (at_output (body_shapes b)) (sym (same_Some (way_out b w) r e)) ∙ way_drawn w)

  pub draws_there : (k : Consumer b) (a : Shape) → wants b k ≡ Some a → (r : Out ℕ) × (draws b k ≡ Some r)
  draws_there (input p i) a e = input_there (b.vars ∷ []) b.nodes is_body.order p i a e
  draws_there (way w) a e = (way_out b w, refl)

  -- each output has a consumer
  record Taker (r : Out ℕ) : Type 0 where
    consumer : Consumer b
    draws_it : draws b consumer ≡ Some r

  taker_of : (r : Out ℕ) (q : Out (Part b (Way b))) → IsOut b (Way b) r.at r.port q → (n : Part b (Way b)) (i : ℕ) → (body_plan b).source n i ≡ Some q → Taker r
  taker_of r q x enter i f = absurd (none_some None q refl f)
  taker_of r q x vars i f =
      let (port, e) = only_is (Some (record { at = enter; port = 1 })) i q f in
      absurd (subst (λ (z : Out (Part b (Way b))). IsInner b (Way b) z.at) (sym (same_Some (record { at = enter; port = 1 }) q e)) (out_inner b (Way b) r.at r.port q x))
  taker_of r q x (node p) i f = taker_at (port_get (item b.nodes p).inputs i) refl f
    where
      taker_at : (o : Option (Out ℕ)) → port_get (item b.nodes p).inputs i ≡ o → out_of b (Way b) o ≡ Some q → Taker r
      taker_at None g e = absurd (none_some None q refl e)
      taker_at (Some r') g e =
          record { consumer = input p i; draws_it = g ∙ ap Some (same_number b (Way b) r' r q (out_is b (Way b) r'.at r'.port q e) x) }
  taker_of r q x (tail w) i f =
      let (port, e) = only_is (out_of b (Way b) (Some (way_out b w))) i q f in
      record { consumer = way w; draws_it = ap Some (same_number b (Way b) (way_out b w) r q (out_is b (Way b) (way_out b w).at (way_out b w).port q e) x) }

  pub consumer_of : (r : Out ℕ) (a : Shape) → at_output (body_shapes b) r ≡ Some a → (k : Consumer b) × (draws b k ≡ Some r)
  consumer_of r a e =
      let (q, f) = out_there b (Way b) r.at r.port a e in
      let x = out_is b (Way b) r.at r.port q f in
      let (p, g) = typed.outputs q a (leaves_is b (Way b) (way_kind b) (way_source b) (same_way b) r.at r.port q x ∙ e) in
      let t = taker_of r q x p.at p.port g in
      (t.consumer, t.draws_it)

  -- and only one
  abbrev from_node : Part b (Way b) → ℕ → Consumer b
  from_node enter i = way condition
  from_node vars i = way condition
  from_node (node p) i = input p i
  from_node (tail w) i = way w

  abbrev from_port : Out (Part b (Way b)) → Consumer b
  from_port q = from_node q.at q.port

  from_back : (k : Consumer b) → from_port (consumer_port b k) ≡ k
  from_back (input p i) = refl
  from_back (way w) = refl

  source_of : (k : Consumer b) (r : Out ℕ) (q : Out (Part b (Way b))) → draws b k ≡ Some r → out_of b (Way b) (Some r) ≡ Some q → (body_plan b).source (consumer_port b k).at (consumer_port b k).port ≡ Some q
  source_of (input p i) r q e f = ap (out_of b (Way b)) e ∙ f
  source_of (way w) r q e f = ap (out_of b (Way b)) e ∙ f

  pub one_consumer : (k l : Consumer b) (r : Out ℕ) → draws b k ≡ Some r → draws b l ≡ Some r → k ≡ l
  one_consumer k l r e g =
      let (a, w, h) = drawn k r e in
      let (q, f) = out_there b (Way b) r.at r.port a h in
      sym (from_back k) ∙ ap from_port (typed.once (consumer_port b k) (consumer_port b l) q (source_of k r q e f) (source_of l r q g f)) ∙ from_back l
