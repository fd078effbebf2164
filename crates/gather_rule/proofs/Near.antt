-- A body is small enough that its nodes can be counted on, and what its data wires are.
use Rattle.std.proofs.Common.{◌≡◌, ℕ, zero, suc, ◌+◌, ◌<◌, ◌≤◌, length, map, List, [], ◌∷◌, ◌++◌, Option, Some, None, refl, sym, ap, subst, ◌∙◌, arith}
use Rattle.std.specs.Prelude.{slice_get, unwrap_or, MatchOption}
use Rattle.std.specs.List.{AllByRecursion}
use Rattle.std.proofs.lemmas.Option.{none-some, same_Some, slice_get_within}
use Rattle.std.proofs.lemmas.List.{length-map}
use Rattle.std.proofs.lemmas.List.Elements.{recursion_from_All}
use Rattle.port_types.specs.Shape.{IsShape}
use Rattle.port_types.specs.declared.side.Side.TheVariants.{Ins}
use Rattle.components.specs.declared.kind.Kind.{Kind}
use Rattle.components.specs.declared.kind.Kind.TheVariants.{Split}
use Rattle.components.specs.declared.node.Node.{Node}
use Rattle.components.specs.Kind.{Shape, ins, outs, KindOk}
use Rattle.components.specs.Laws.{PortsAreShapes}
use Rattle.fun_expr.specs.Each.{Each}
use Rattle.loop_body.specs.declared.body_port.BodyPort.{BodyPort}
use Rattle.loop_body.specs.Body.{Body, kinds, in_row, entry, shapes, NodesFit, IsBody}
use Rattle.loop_body.specs.Laws.{next_shapes}
use Rattle.gather_rule.specs.Gather.{CanGather}
use Rattle.gather_rule.specs.GatherSides.{AreNear, AreShapesAt, CanGatherLanes}

within : {A : Type 0} (o : Option (List A)) (i : ℕ) (a : A) → in_row i o ≡ Some a → (row : List A) × (o ≡ Some row)
within None i a e = absurd (none-some a e)
within (Some row) i a e = (row, refl)

node_below : (t : List (List Shape)) (p : BodyPort) (a : Shape) → entry t p ≡ Some a → p.node < length t
node_below t p a e = let (row, is) = within (slice_get t p.node) p.port a e in slice_get_within t p.node row is

all_near : (t : List (List Shape)) (ports : List BodyPort) (given : List Shape) → length t ≤ 4097 → map (entry t) ports ≡ map Some given → AreNear ports
all_near t [] given short e = tt
all_near t (p ∷ ports) [] short e = absurd cc
all_near t (p ∷ ports) (a ∷ given) short e =
    let k : entry t p ∷ map (entry t) ports ≡ Some a ∷ map Some given = e in
    let head : entry t p ≡ Some a = cc in
    let tails : map (entry t) ports ≡ map Some given = cc in
    let below = node_below t p a head in
    (omega (arith, below, short), all_near t ports given short tails)

some_long : {A B : Type 0} (f : A → Option B) (xs : List A) (ys : List B) → map f xs ≡ map Some ys → length xs ≡ length ys
some_long f xs ys e = sym (length-map xs f) ∙ ap length e ∙ length-map ys Some

row_more : (t : List (List Shape)) (row : List Shape) → length (t ++ row ∷ []) ≡ length t + 1
row_more [] row = refl
row_more (r ∷ t) row = omega (arith, row_more t row)

pub inputs_near : (front : List (List Shape)) (ks : List Kind) (inputs : List (List BodyPort)) → length front + length ks ≤ 4097 → NodesFit front ks inputs → AllByRecursion AreNear inputs
inputs_near front [] [] short fits = tt
inputs_near front [] (ports ∷ inputs) short fits = absurd fits
inputs_near front (k ∷ ks) [] short fits = tt
inputs_near front (k ∷ ks) (ports ∷ inputs) short fits = (
  all_near front ports (ins k) (omega (arith, short)) fits.1,
  inputs_near (front ++ outs k ∷ []) ks inputs (omega (arith, short, row_more front (outs k))) fits.2,
)

pub inputs_few : PortsAreShapes → (front : List (List Shape)) (ks : List Kind) (inputs : List (List BodyPort)) → NodesFit front ks inputs → AllByRecursion (λ (ports : List BodyPort). length ports ≤ 64) inputs
inputs_few law front [] [] fits = tt
inputs_few law front [] (ports ∷ inputs) fits = absurd fits
inputs_few law front (k ∷ ks) [] fits = tt
inputs_few law front (k ∷ ks) (ports ∷ inputs) fits = (
  (let few = (law k Ins fits.0.1).0 in let long = some_long (entry front) ports (ins k) fits.1 in omega (arith, few, long)),
  inputs_few law (front ++ outs k ∷ []) ks inputs fits.2,
)

pub inputs_long : (front : List (List Shape)) (ks : List Kind) (inputs : List (List BodyPort)) → NodesFit front ks inputs → length inputs ≡ length ks
inputs_long front [] [] fits = refl
inputs_long front [] (ports ∷ inputs) fits = absurd fits
inputs_long front (k ∷ ks) [] fits = absurd fits
inputs_long front (k ∷ ks) (ports ∷ inputs) fits = ap suc (inputs_long (front ++ outs k ∷ []) ks inputs fits.2)

pub kinds_ok : (front : List (List Shape)) (nodes : List Node) (inputs : List (List BodyPort)) → NodesFit front (map (λ (n : Node). n.kind) nodes) inputs → Each KindOk (map (λ (n : Node). n.kind) nodes)
kinds_ok front [] inputs fits = tt
kinds_ok front (n ∷ nodes) [] fits = absurd fits
kinds_ok front (n ∷ nodes) (ports ∷ inputs) fits = (fits.0.1, kinds_ok (front ++ outs n.kind ∷ []) nodes inputs fits.2)

module _ (b : Body) (h : IsBody b) where
  pub rows_few : length (shapes b) ≤ 4097
  rows_few = let few = h.few in let long = length-map (kinds b) outs in omega (arith, few, long)

  pub near_inputs : AllByRecursion AreNear b.inputs
  near_inputs = let few = h.few in inputs_near (b.vars ∷ []) (kinds b) b.inputs (omega (arith, few)) h.nodes

  pub few_inputs : length b.inputs ≤ 4096
  few_inputs = let few = h.few in let long = inputs_long (b.vars ∷ []) (kinds b) b.inputs h.nodes in omega (arith, few, long)

  bits_near : (ports : List BodyPort) → Each (λ p. entry (shapes b) p ≡ Some (1 ∷ [])) ports → AreNear ports
  bits_near [] bits = tt
  bits_near (p ∷ ports) bits = let below = node_below (shapes b) p (1 ∷ []) bits.0 in let few = rows_few in (omega (arith, below, few), bits_near ports bits.1)

  pub near_conditions : AreNear b.conditions
  near_conditions = bits_near b.conditions h.bits

  some_entry : (o : Option Shape) → IsShape (unwrap_or o []) → (a : Shape) × (o ≡ Some a)
  some_entry None ok = let some = ok.some in absurd (omega (arith, some))
  some_entry (Some a) ok = (a, refl)

  ports_near : (ports : List BodyPort) → AllByRecursion IsShape (map (λ p. unwrap_or (entry (shapes b) p) []) ports) → AreNear ports
  ports_near [] ok = tt
  ports_near (p ∷ ports) ok =
      let (a, is) = some_entry (entry (shapes b) p) ok.0 in
      let below = node_below (shapes b) p a is in let few = rows_few in (omega (arith, below, few), ports_near ports ok.1)

  module _ (can : CanGather b) where
    pub near_next : AreNear b.next
    near_next = ports_near b.next (recursion_from_All IsShape (next_shapes b) can.parts.parts)

    pub few_conditions : length b.conditions ≤ 64
    few_conditions = let count = h.count in let few = can.few in omega (arith, count, few)

  lanes_long : length (next_shapes b) ≡ length b.next
  lanes_long = length-map b.next (λ p. unwrap_or (entry (shapes b) p) [])

  pub by_lanes : CanGatherLanes (next_shapes b) → CanGather b
  by_lanes can = record { parts = can.parts; few = subst (λ z. z ≤ 63) lanes_long can.few; fields = can.fields }

  pub for_lanes : CanGather b → CanGatherLanes (next_shapes b)
  for_lanes can = record { parts = can.parts; few = subst (λ z. z ≤ 63) (sym lanes_long) can.few; fields = can.fields }

  -- where an output has no shape the Pure is not within the limits
  missing : (ports : List BodyPort) (place : ℕ) (p : BodyPort) → slice_get ports place ≡ Some p → entry (shapes b) p ≡ None → AllByRecursion IsShape (map (λ p. unwrap_or (entry (shapes b) p) []) ports) → ⊥
  missing [] place p at none ok = none-some p at
  missing (q ∷ ports) zero p at none ok =
      let (a, is) = some_entry (entry (shapes b) q) ok.0 in none-some a (sym none ∙ ap (entry (shapes b)) (sym (same_Some q p at)) ∙ is)
  missing (q ∷ ports) (suc place) p at none ok = missing ports place p at none ok.1

  pub no_shape : (place : ℕ) (p : BodyPort) → slice_get b.next place ≡ Some p → entry (shapes b) p ≡ None → CanGather b → ⊥
  no_shape place p at none can = missing b.next place p at none (recursion_from_All IsShape (next_shapes b) can.parts.parts)

  pub split_ok : Each KindOk (Split b.vars ∷ kinds b)
  split_ok = (h.vars, kinds_ok (b.vars ∷ []) b.nodes b.inputs h.nodes)

  lanes_by : (found : Option (List Shape)) → AreShapesAt (Split b.vars ∷ kinds b) b.next found → MatchOption found (¬ (CanGather b)) (λ lanes. lanes ≡ next_shapes b)
  lanes_by None h = no_shape h.0 h.1 h.2 h.3
  lanes_by (Some found) h = h

  pub lanes_found : (ks : List Kind) (ports : List BodyPort) (found : Option (List Shape)) → ks ≡ Split b.vars ∷ kinds b → ports ≡ b.next → AreShapesAt ks ports found → MatchOption found (¬ (CanGather b)) (λ lanes. lanes ≡ next_shapes b)
  lanes_found ks ports found is_kinds is_ports h = lanes_by found (subst (λ z. AreShapesAt z b.next found) is_kinds (subst (λ z. AreShapesAt ks z found) is_ports h))
