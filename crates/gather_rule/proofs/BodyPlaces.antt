-- What an output of a body by numbers is in its plan, and the wires of the plan by places.
use Rattle.std.proofs.Common.{◌≡◌, ℕ, zero, suc, refl, sym, ap, ◌∙◌, List, [], ◌∷◌, ◌++◌, map, Option, Some, None, append_assoc}
use Rattle.std.specs.Prelude.{slice_get}
use Rattle.std.proofs.lemmas.Option.{none-some, same_Some}
use Rattle.components.specs.Kind.{Shape, ins, outs}
use Rattle.components.specs.Name.{port_get}
use Rattle.circuit_plans.specs.Plans.{Out}
use Rattle.circuit_plans.specs.Places.{Place, first, later, item, before, place_at, later_of}
use Rattle.body_laws.specs.Bodies.{BodyNode, Body, on_side, at_output, NodesInOrder, body_shapes}
use Rattle.body_laws.specs.BodyPlans.{Part, vars, node, Way, node_out, out_of, body_plan}
use Rattle.gather_rule.proofs.GatherNodes.{old_place}

-- Entries of lists

record FoundPlace {A : Type 0} (xs : List A) (i : ℕ) (x : A) : Type 0 where
  place : Place xs
  is_place : place_at xs (suc i) ≡ Some place
  is_before : before xs place ≡ i
  is_item : item xs place ≡ x

found_place : {A : Type 0} (xs : List A) (i : ℕ) (x : A) → slice_get xs i ≡ Some x → FoundPlace xs i x
found_place [] i x e = absurd (none-some x e)
found_place (y ∷ xs) zero x e = record { place = first; is_place = refl; is_before = refl; is_item = same_Some y x e }
found_place (y ∷ xs) (suc i) x e =
    let go = found_place xs i x e in record { place = later go.place; is_place = ap later_of go.is_place; is_before = ap suc go.is_before; is_item = go.is_item }

get_more : {A : Type 0} (xs ys : List (List A)) (n i : ℕ) (v : A) → on_side (slice_get xs n) i ≡ Some v → on_side (slice_get (xs ++ ys) n) i ≡ Some v
get_more [] ys n i v e = absurd (none-some v e)
get_more (x ∷ xs) ys zero i v e = e
get_more (x ∷ xs) ys (suc n) i v e = get_more xs ys n i v e

each_more : {A : Type 0} (t more : List (List A)) (qs : List (Out ℕ)) (vs : List A) → map (at_output t) qs ≡ map Some vs → map (at_output (t ++ more)) qs ≡ map Some vs
each_more t more [] [] e = refl
each_more t more [] (v ∷ vs) e = cc
each_more t more (q ∷ qs) [] e = cc
each_more t more (q ∷ qs) (v ∷ vs) e =
    let k : at_output t q ∷ map (at_output t) qs ≡ Some v ∷ map Some vs = e in
    let head : at_output t q ≡ Some v = cc in
    let tails : map (at_output t) qs ≡ map Some vs = cc in
    λ i. get_more t more q.at q.port v head i ∷ each_more t more qs vs tails i

-- in the whole body
whole_order : (before : List (List Shape)) (ns : List BodyNode) → NodesInOrder before ns → (p : Place ns) →
    map (at_output (before ++ map (λ n. outs n.kind) ns)) (item ns p).inputs ≡ map Some (ins (item ns p).kind)
whole_order before [] h p = elim p [ ]
whole_order before (n ∷ ns) h first = each_more before (outs n.kind ∷ map (λ n. outs n.kind) ns) n.inputs (ins n.kind) h.0
whole_order before (n ∷ ns) h (later p) =
    ap (λ t. map (at_output t) (item ns p).inputs) (sym (append_assoc before (outs n.kind ∷ []) (map (λ n. outs n.kind) ns))) ∙ whole_order (before ++ outs n.kind ∷ []) ns h.1 p

pub inputs_shaped : (b : Body) → NodesInOrder (b.vars ∷ []) b.nodes → (p : Place b.nodes) → map (at_output (body_shapes b)) (item b.nodes p).inputs ≡ map Some (ins (item b.nodes p).kind)
inputs_shaped b order p = whole_order (b.vars ∷ []) b.nodes order p

-- an input and its source, one of as many as there are shapes
pub record Fed {A : Type 0} (t : List (List A)) (qs : List (Out ℕ)) (i : ℕ) (a : A) : Type 0 where
  pub source : Out ℕ
  pub is : port_get qs i ≡ Some source
  pub shape : at_output t source ≡ Some a

pub fed_input : {A : Type 0} (t : List (List A)) (qs : List (Out ℕ)) (shapes : List A) → map (at_output t) qs ≡ map Some shapes → (i : ℕ) (a : A) → port_get shapes i ≡ Some a → Fed t qs i a
fed_input t [] [] e i a f = absurd (none-some a f)
fed_input t [] (s ∷ shapes) e i a f = absurd cc
fed_input t (q ∷ qs) [] e i a f = absurd cc
fed_input t (q ∷ qs) (s ∷ shapes) e zero a f = absurd (none-some a f)
fed_input t (q ∷ qs) (s ∷ shapes) e (suc zero) a f =
    let k : at_output t q ∷ map (at_output t) qs ≡ Some s ∷ map Some shapes = e in
    let head : at_output t q ≡ Some s = cc in
    record { source = q; is = refl; shape = head ∙ f }
fed_input t (q ∷ qs) (s ∷ shapes) e (suc (suc i)) a f =
    let k : at_output t q ∷ map (at_output t) qs ≡ Some s ∷ map Some shapes = e in
    let tails : map (at_output t) qs ≡ map Some shapes = cc in
    let go = fed_input t qs shapes tails (suc i) a f in
    record { source = go.source; is = go.is; shape = go.shape }

-- and the other way round
pub input_fed : {A : Type 0} (t : List (List A)) (qs : List (Out ℕ)) (shapes : List A) → map (at_output t) qs ≡ map Some shapes → (i : ℕ) (q : Out ℕ) → port_get qs i ≡ Some q → (a : A) × (port_get shapes i ≡ Some a) × (at_output t q ≡ Some a)
input_fed t [] [] e i q f = absurd (none-some q f)
input_fed t [] (s ∷ shapes) e i q f = absurd cc
input_fed t (r ∷ qs) [] e i q f = absurd cc
input_fed t (r ∷ qs) (s ∷ shapes) e zero q f = absurd (none-some q f)
input_fed t (r ∷ qs) (s ∷ shapes) e (suc zero) q f =
    let k : at_output t r ∷ map (at_output t) qs ≡ Some s ∷ map Some shapes = e in
    let head : at_output t r ≡ Some s = cc in
    (s, refl, ap (at_output t) (sym (same_Some r q f)) ∙ head)
input_fed t (r ∷ qs) (s ∷ shapes) e (suc (suc i)) q f =
    let k : at_output t r ∷ map (at_output t) qs ≡ Some s ∷ map Some shapes = e in
    let tails : map (at_output t) qs ≡ map Some shapes = cc in
    input_fed t qs shapes tails (suc i) q f

-- Outputs

module _ (b : Body) where
  abbrev P : Type 0
  P = Part b (Way b)

  -- what an output that is there is in the plan
  pub record Resolves (q : Out ℕ) : Type 0 where
    pub out : Out P
    pub is : out_of b (Way b) (Some q) ≡ Some out
    pub at : old_place b out.at ≡ suc q.at
    pub port : out.port ≡ q.port
    pub shape : port_get (outs ((body_plan b).kind out.at)) out.port ≡ at_output (body_shapes b) q

  get_mapped : {A B : Type 0} (f : A → B) (xs : List A) (i : ℕ) (y : B) → slice_get (map f xs) i ≡ Some y → (x : A) × (slice_get xs i ≡ Some x) × (f x ≡ y)
  get_mapped f [] i y e = absurd (none-some y e)
  get_mapped f (x ∷ xs) zero y e = (x, refl, same_Some (f x) y e)
  get_mapped f (x ∷ xs) (suc i) y e = get_mapped f xs i y e

  some_side : {A : Type 0} (o : Option (List A)) (i : ℕ) (a : A) → on_side o i ≡ Some a → (row : List A) × (o ≡ Some row) × (port_get row i ≡ Some a)
  some_side None i a e = absurd (none-some a e)
  some_side (Some row) i a e = (row, refl, e)

  resolve_node : (n i : ℕ) (a : Shape) → at_output (body_shapes b) (record { at = suc n; port = i }) ≡ Some a → Resolves (record { at = suc n; port = i })
  resolve_node n i a e =
      let (row, is_row, has) = some_side (slice_get (map (λ (n : BodyNode). outs n.kind) b.nodes) n) i a e in
      let (m, is_node, is_outs) = get_mapped (λ (n : BodyNode). outs n.kind) b.nodes n row is_row in
      let found = found_place b.nodes n m is_node in
      record {
        out = record { at = node found.place; port = i };
        is = ap (node_out b (Way b) i) found.is_place;
        at = ap (λ z. suc (suc z)) found.is_before;
        port = refl;
        shape = ap (λ (z : BodyNode). port_get (outs z.kind) i) found.is_item ∙ ap (λ z. port_get z i) is_outs ∙ has ∙ sym e;
      }

  resolve_at : (n i : ℕ) (a : Shape) → at_output (body_shapes b) (record { at = n; port = i }) ≡ Some a → Resolves (record { at = n; port = i })
  resolve_at zero i a e = record { out = record { at = vars; port = i }; is = refl; at = refl; port = refl; shape = refl }
  resolve_at (suc n) i a e = resolve_node n i a e

  pub resolve : (q : Out ℕ) (a : Shape) → at_output (body_shapes b) q ≡ Some a → Resolves q
  resolve q a e = resolve_at q.at q.port a e
