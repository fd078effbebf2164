-- Names in the order of a body, and lists of nodes.
use Rattle.std.proofs.Common.{◌≡◌, ◌≢◌, ◌⊎◌, ◌↔◌, inl, inr, ◌+◌, ◌<◌, refl, sym, ap, subst, Bool, List, [], ◌∷◌, ◌++◌, length, arith}
use Rattle.components.specs.Name.{Name}
use Rattle.circuits.specs.Circuit.{Circuit}
use Rattle.circuits.specs.Replacing.{In, In.head, In.tail}
use Rattle.loop_laws.specs.BodyOrder.{InBodyOrder, IsBefore, IsReady}
use Rattle.loop_laws.specs.Faults.{BodyPath, BodyPath.wire, BodyPath.further}
use Rattle.graph_core.specs.declared.place.NodeId.{NodeId}
use Rattle.graph_core.specs.GraphValue.{GraphValue, Denotes, IsGraph, name_by}
use Rattle.loop_find.specs.BodyOrders.{Tree}
use Rattle.loop_find.specs.Marks.{names_by}
use Rattle.loop_find.specs.Walks.{AreLive, Has}
use Rattle.loop_find.proofs.NodeCounts.{in_names, names_in}
use Rattle.loop_find.proofs.Walking.{itself}

-- where each of some nodes is led to from one of them, one leads to itself
pub led_round : (P : Name → Name → Type 0) → ((a b d : Name) → P a b → P b d → P a d) → (ns : List Name) (n : Name) → In n ns → ((b : Name) → In b ns → (a : Name) × In a ns × P a b) → (k : Name) × P k k
led_round P on [] n i led = elim i [ ]
led_round P on (x ∷ ns) n i led =
    let (a, j, p) = led x (head refl) in
    elim j [
      | head same ↦ (x, subst (λ y. P y x) same p)
      | tail k ↦ led_round P on ns a k (λ b later. through a k p b (led b (tail later)))
    ]
  where
    through : (a : Name) → In a ns → P a x → (b : Name) → (y : Name) × In y (x ∷ ns) × P y b → (y : Name) × In y ns × P y b
    through a k p b (y, head same, q) = (a, k, on a x b p (subst (λ z. P z b) same q))
    through a k p b (y, tail j, q) = (y, j, q)

pub path_on : (c : Circuit) (m : Name) (goes_back : Bool) (a b d : Name) → BodyPath c m goes_back a b → BodyPath c m goes_back b d → BodyPath c m goes_back a d
path_on c m goes_back a b d first (wire i q same inside fed into) = further i q (subst (BodyPath c m goes_back a) (sym same) first) fed into
path_on c m goes_back a b d first (further i q rest fed into) = further i q (path_on c m goes_back a b q.node first rest) fed into

-- a node behind those that are placed in order
module _ (c : Circuit) (body : List Name) where
  abbrev pub IsLeast : List Name → Name → Type 0
  IsLeast front n = IsReady c body front n × ((k : Name) → IsReady c body front k → k ≢ n → IsBefore n k)

  pub order_more : (placed ns : List Name) (n : Name) → InBodyOrder c body placed ns → ((front : List Name) → ((x : Name) → In x front ↔ (In x placed ⊎ In x ns)) → IsLeast front n) → InBodyOrder c body placed (ns ++ n ∷ [])
  order_more placed [] n o at = let h = at placed (λ x. ((λ i. inl i), (λ e. none_else x e))) in (h.0, h.1, tt)
    where
      none_else : (x : Name) → In x placed ⊎ In x [] → In x placed
      none_else x (inl i) = i
      none_else x (inr i) = elim i [ ]
  order_more placed (k ∷ ns) n o at = (o.0, o.1, order_more (k ∷ placed) ns n o.2 (λ front same. at front (λ x. ((λ i. there x ((same x).0 i)), (λ e. (same x).1 (back x e))))))
    where
      there : (x : Name) → In x (k ∷ placed) ⊎ In x ns → In x placed ⊎ In x (k ∷ ns)
      there x (inl (head e)) = inr (head e)
      there x (inl (tail i)) = inl i
      there x (inr i) = inr (tail i)

      back : (x : Name) → In x placed ⊎ In x (k ∷ ns) → In x (k ∷ placed) ⊎ In x ns
      back x (inl i) = inl (tail i)
      back x (inr (head e)) = inl (head e)
      back x (inr (tail i)) = inr i

-- the order of a list with the same nodes
module _ (c : Circuit) (body other : List Name) (same : (n : Name) → In n body ↔ In n other) where
  ready_as : (placed : List Name) (n : Name) → IsReady c body placed n → IsReady c other placed n
  ready_as placed n ready = record { in_body = (same n).0 ready.in_body; open_yet = ready.open_yet; inputs = λ i q fed inside. ready.inputs i q fed ((same q.node).1 inside) }

  as_ready : (placed : List Name) (n : Name) → IsReady c other placed n → IsReady c body placed n
  as_ready placed n ready = record { in_body = (same n).1 ready.in_body; open_yet = ready.open_yet; inputs = λ i q fed inside. ready.inputs i q fed ((same q.node).0 inside) }

  pub order_as : (placed ns : List Name) → InBodyOrder c body placed ns → InBodyOrder c other placed ns
  order_as placed [] o = tt
  order_as placed (n ∷ ns) o = (ready_as placed n o.0, (λ k ready apart. o.1 k (as_ready placed k ready) apart), order_as (n ∷ placed) ns o.2)

pub longer : (ids : List NodeId) (id : NodeId) → length (ids ++ id ∷ []) ≡ length ids + 1
longer [] id = refl
longer (x ∷ ids) id = let more = longer ids id in omega (arith, more)

pub no_entries : (tree : Tree) → (0 < length tree → ⊥) → tree ≡ []
no_entries [] never = refl
no_entries (e ∷ tree) never = absurd (never (omega arith))

module _ (g : GraphValue) where
  pub names_more : (ids : List NodeId) (id : NodeId) → names_by g (ids ++ id ∷ []) ≡ names_by g ids ++ name_by g.ids id ∷ []
  names_more [] id = refl
  names_more (x ∷ ids) id = ap (λ ns. name_by g.ids x ∷ ns) (names_more ids id)

  pub has_name : (ids : List NodeId) (n : Name) → Has g ids n → In n (names_by g ids)
  has_name ids n (id, denotes, i) = subst (λ k. In k (names_by g ids)) (itself g id n denotes) (in_names g ids id i)

  pub name_has : (ids : List NodeId) → AreLive g ids → (n : Name) → In n (names_by g ids) → Has g ids n
  name_has ids live n i = let (id, j, same) = names_in g ids n i in (id, subst (Denotes g id) same (live id j), j)

  pub in_set : IsGraph g → (ids : List NodeId) (id : NodeId) (n : Name) → Denotes g id n → Has g ids n → In id ids
  in_set ok ids id n denotes (other, same, i) = subst (λ x. In x ids) (ok.alone other id n same denotes) i
