-- Several Buffers dropped one after another: each circuit refines the other, and where the wires then come from.
use Rattle.std.proofs.Common.{true, false, ◌≡◌, ◌≢◌, refl, sym, ap, subst, ◌∙◌, inl, inr, bytes_eq, if◌then◌else◌, List, [], ◌∷◌, Some, None}
use Rattle.std.specs.List.{AllByRecursion}
use Rattle.std.proofs.lemmas.Option.{same_Some}
use Rattle.components.specs.declared.kind.Kind.{Kind}
use Rattle.components.specs.Name.{Name, Port}
use Rattle.components.specs.Kind.{Shape}
use Rattle.components.specs.Orders.{same_bytes, other_bytes}
use Rattle.circuits.specs.Values.{ValuesFit}
use Rattle.circuits.specs.Circuit.{Circuit, Typed}
use Rattle.circuits.specs.Refines.{Refines}
use Rattle.circuits.specs.Buffers.{first_port, bypass, drop_node, drop_all, CanDropEach}
use Rattle.circuits.specs.Replacing.{In, In.head, In.tail, NoneTwice}
use Rattle.circuits.proofs.Names.{name_cases}
use Rattle.circuits.proofs.Transitive.{refines_refl, refines_then}
use Rattle.circuits.proofs.Buffers.Steps.{CanDrop, IsPlain, kind_dropped, kind_gone, feeder_dropped}
use Rattle.circuits.proofs.Buffers.Circuits.{dropped, put, drop_typed, drop_refines, undrop_refines}

-- Buffers that can be left out one after another: each circuit refines the other
pub all_dropped : ValuesFit → (c : Circuit) (bs : List Name) → Typed c → CanDropEach bs c → Refines (drop_all bs c) c
all_dropped fits c [] ty can = refines_refl c ty
all_dropped fits c (b ∷ bs) ty can =
    let first = dropped fits c b ty can.0 in
    refines_then (drop_all bs (drop_node b c)) (drop_node b c) c (all_dropped fits (drop_node b c) bs first.new_typed can.1) first

pub all_put : ValuesFit → (c : Circuit) (bs : List Name) → Typed c → CanDropEach bs c → Refines c (drop_all bs c)
all_put fits c [] ty can = refines_refl c ty
all_put fits c (b ∷ bs) ty can =
    let first = put fits c b ty can.0 in
    refines_then c (drop_node b c) (drop_all bs (drop_node b c)) first (all_put fits (drop_node b c) bs first.old_typed can.1)

-- the name does not stand in the list
abbrev pub NotIn : Name → List Name → Type 0
NotIn n ms = AllByRecursion (λ m. n ≢ m) ms

-- backwards from input p, through the nodes of the list, the first output of another node is q
pub data Chase (c : Circuit) (bs : List Name) (q : Port) : Port → Type 0 where
  stop : {p : Port} → c.feeder p ≡ Some q → NotIn q.node bs → Chase c bs q p
  back : {p : Port} (r : Port) → c.feeder p ≡ Some r → In r.node bs → Chase c bs q (first_port r.node) → Chase c bs q p

pub in_not : (n : Name) (ms : List Name) → In n ms → NotIn n ms → ⊥
in_not n [] i h = elim i [ ]
in_not n (m ∷ ms) (head e) h = h.0 e
in_not n (m ∷ ms) (tail i) h = in_not n ms i h.1

-- where the walk back from a Buffer ends, the Buffer is not wired to itself
no_ring : (c : Circuit) (bs : List Name) (b : Name) (q p r : Port) → Chase c bs q p → p ≡ first_port b → c.feeder (first_port b) ≡ Some r → r.node ≡ b → In b bs → ⊥
no_ring c bs b q p r (stop f no_in) is g e i =
    in_not q.node bs (subst (λ z. In z bs) (sym (ap (λ (z : Port). z.node) (same_Some q r (sym f ∙ ap c.feeder is ∙ g)) ∙ e)) i) no_in
no_ring c bs b q p r (back s f j ch) is g e i =
    no_ring c bs b q (first_port s.node) r ch
    (λ k. record { node = (ap (λ (z : Port). z.node) (same_Some s r (sym f ∙ ap c.feeder is ∙ g)) ∙ e) k; port = 1 }) g e i

-- nodes that pass on one token after another, each with a walk back that ends, and none twice: they can be dropped in this order
pub record CanDropAll (bs : List Name) (c : Circuit) : Type 0 where
  pub plain : (b : Name) → In b bs → (k : Kind) × (a : Shape) × (c.kind_at b ≡ Some k) × IsPlain k a
  pub ends : (b : Name) → In b bs → (q : Port) × Chase c bs q (first_port b)
  pub once : NoneTwice bs

first_of : (c : Circuit) (bs : List Name) (q p : Port) → Chase c bs q p → (r : Port) × (c.feeder p ≡ Some r)
first_of c bs q p (stop f h) = (q, f)
first_of c bs q p (back r f i ch) = (r, f)

pub can_head : (b : Name) (bs : List Name) (c : Circuit) → CanDropAll (b ∷ bs) c → CanDrop c b
can_head b bs c can =
    let (k, a, e, plain) = can.plain b (head refl) in
    let (q, ch) = can.ends b (head refl) in
    let (r, f) = first_of c (b ∷ bs) q (first_port b) ch in
    record {
      kind = k;
      shape = a;
      is_kind = e;
      plain = plain;
      before = r;
      is_before = f;
      other = λ x. no_ring c (b ∷ bs) b q (first_port b) r ch refl f x (head refl);
    }

module _ (c : Circuit) (b : Name) (bs : List Name) (can : CanDrop c b) where
  pub hit : (p r : Port) → p.node ≢ b → c.feeder p ≡ Some r → r.node ≡ b → (drop_node b c).feeder p ≡ c.feeder (first_port b)
  hit p r away f is =
      feeder_dropped c b can p away ∙ ap (bypass b (c.feeder (first_port b))) f
      ∙ ap (λ z. if z then c.feeder (first_port b) else Some r) (same_bytes r.node b is)

  pub miss : (p r : Port) → p.node ≢ b → c.feeder p ≡ Some r → r.node ≢ b → (drop_node b c).feeder p ≡ Some r
  miss p r away f ne =
      feeder_dropped c b can p away ∙ ap (bypass b (c.feeder (first_port b))) f
      ∙ ap (λ z. if z then c.feeder (first_port b) else Some r) (other_bytes r.node b ne)

  in_rest : (n : Name) → In n (b ∷ bs) → n ≢ b → In n bs
  in_rest n (head e) ne = absurd (ne e)
  in_rest n (tail i) ne = i

  -- a walk back without b: from an input of another node, and from each input that is fed as b was
  record Shorter (q s : Port) : Type 0 where
    from : s.node ≢ b → Chase (drop_node b c) bs q s
    past : s ≡ first_port b → (p : Port) → (drop_node b c).feeder p ≡ c.feeder (first_port b) → Chase (drop_node b c) bs q p

  shorter_both : (q s : Port) → Chase c (b ∷ bs) q s → Shorter q s
  shorter_both q s (stop f h) =
      record { from = λ away. stop (miss s q away f h.0) h.1; past = λ is p g. stop (g ∙ ap c.feeder (sym is) ∙ f) h.1 }
  shorter_both q s (back r f i ch) =
      let go = shorter_both q (first_port r.node) ch in
      record {
        from = λ away.
            elim (name_cases r.node b) [
              | inl is ↦ go.past (λ k. record { node = is.is k; port = 1 }) s (hit s r away f is.is)
              | inr ne ↦ back r (miss s r away f ne.is_not) (in_rest r.node i ne.is_not) (go.from ne.is_not)
            ];
        past = λ is p g.
            let first : r ≡ can.before = same_Some r can.before (sym f ∙ ap c.feeder is ∙ can.is_before) in
            let ne : r.node ≢ b = λ x. can.other (ap (λ (z : Port). z.node) (sym first) ∙ x) in
            back r (g ∙ ap c.feeder (sym is) ∙ f) (in_rest r.node i ne) (go.from ne);
      }

  -- without b a walk back ends where it ended
  pub shorter : (q p : Port) → Chase c (b ∷ bs) q p → p.node ≢ b → Chase (drop_node b c) bs q p
  shorter q p ch away = (shorter_both q p ch).from away

not_head : (b : Name) (bs : List Name) (n : Name) → NotIn b bs → In n bs → n ≢ b
not_head b bs n h i e = in_not b bs (subst (λ z. In z bs) e i) h

pub can_tail : (b : Name) (bs : List Name) (c : Circuit) (can : CanDropAll (b ∷ bs) c) → CanDropAll bs (drop_node b c)
can_tail b bs c can =
    let one = can_head b bs c can in
    record {
      plain = λ n i. let (k, a, e, plain) = can.plain n (tail i) in (k, a, kind_dropped c b one n (not_head b bs n can.once.0 i) ∙ e, plain);
      ends = λ n i. let (q, ch) = can.ends n (tail i) in (q, shorter c b bs one q (first_port n) ch (not_head b bs n can.once.0 i));
      once = can.once.1;
    }

-- what feeds an input once all are dropped
pub feeder_of_chase : (bs : List Name) (c : Circuit) → CanDropAll bs c → (q p : Port) → Chase c bs q p → NotIn p.node bs → (drop_all bs c).feeder p ≡ Some q
feeder_of_chase [] c can q p (stop f h) away = f
feeder_of_chase [] c can q p (back r f i ch) away = elim i [ ]
feeder_of_chase (b ∷ bs) c can q p ch away =
    feeder_of_chase bs (drop_node b c) (can_tail b bs c can) q p (shorter c b bs (can_head b bs c can) q p ch away.0) away.1

pub kind_of_kept : (bs : List Name) (c : Circuit) → CanDropAll bs c → (n : Name) → NotIn n bs → (drop_all bs c).kind_at n ≡ c.kind_at n
kind_of_kept [] c can n h = refl
kind_of_kept (b ∷ bs) c can n h = kind_of_kept bs (drop_node b c) (can_tail b bs c can) n h.1 ∙ kind_dropped c b (can_head b bs c can) n h.0

pub gone_stays : (bs : List Name) (c : Circuit) → (n : Name) → c.kind_at n ≡ None → (drop_all bs c).kind_at n ≡ None
gone_stays [] c n e = e
gone_stays (b ∷ bs) c n e =
    gone_stays bs (drop_node b c) n (elim (bytes_eq n b) as (λ z. (if z then None else c.kind_at n) ≡ None) [ true ↦ refl | false ↦ e ])

pub kind_of_dropped : (bs : List Name) (c : Circuit) → CanDropAll bs c → (n : Name) → In n bs → (drop_all bs c).kind_at n ≡ None
kind_of_dropped [] c can n i = elim i [ ]
kind_of_dropped (b ∷ bs) c can n (head e) = gone_stays bs (drop_node b c) n (kind_gone c b (can_head b bs c can) n e)
kind_of_dropped (b ∷ bs) c can n (tail i) = kind_of_dropped bs (drop_node b c) (can_tail b bs c can) n i

-- what is left is typed
pub drop_all_typed : (bs : List Name) (c : Circuit) → CanDropAll bs c → Typed c → Typed (drop_all bs c)
drop_all_typed [] c can ty = ty
drop_all_typed (b ∷ bs) c can ty = drop_all_typed bs (drop_node b c) (can_tail b bs c can) (drop_typed c b (can_head b bs c can) ty)

-- what can be dropped shows nothing
pub drop_all_refines : ValuesFit → (bs : List Name) (c : Circuit) → CanDropAll bs c → Typed c → Refines (drop_all bs c) c
drop_all_refines fits [] c can ty = refines_refl c ty
drop_all_refines fits (b ∷ bs) c can ty =
    let first = drop_refines c b (can_head b bs c can) ty fits in
    refines_then (drop_all bs (drop_node b c)) (drop_node b c) c (drop_all_refines fits bs (drop_node b c) (can_tail b bs c can) first.new_typed) first

pub undrop_all_refines : ValuesFit → (bs : List Name) (c : Circuit) → CanDropAll bs c → Typed c → Refines c (drop_all bs c)
undrop_all_refines fits [] c can ty = refines_refl c ty
undrop_all_refines fits (b ∷ bs) c can ty =
    let first = undrop_refines c b (can_head b bs c can) ty fits in
    refines_then c (drop_node b c) (drop_all bs (drop_node b c)) first (undrop_all_refines fits bs (drop_node b c) (can_tail b bs c can) first.old_typed)
