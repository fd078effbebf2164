-- The wires of a circuit with a part replaced: where each comes from, and which wire of the old circuit and of the new part it is.
use Rattle.std.proofs.Common.{◌≡◌, ◌↔◌, inl, inr, refl, sym, ap, ◌∙◌, true, false, Bool, if◌then◌else◌, [], ◌∷◌, Option, Some, None, true≢false}
use Rattle.components.specs.Kind.{Shape}
use Rattle.components.specs.Name.{Name, Port, port_get}
use Rattle.components.specs.declared.kind.Kind.{Kind}
use Rattle.components.specs.declared.kind.Kind.TheVariants.{Entry, Exit}
use Rattle.circuits.specs.Circuit.{Circuit, Typed}
use Rattle.circuits.specs.Refines.{SamePorts}
use Rattle.circuits.specs.Replacing.{is_inner, is_entry, follow, outside, crossing, replaced, IsPart, IsNew}
use Rattle.circuits.proofs.Beside.{none_some}
use Rattle.std.proofs.lemmas.Option.{same_Some}
use Rattle.part_drains.proofs.Carries.{Carries}
use Rattle.part_drains.specs.Part.{inside}
use Rattle.part_drains.proofs.Draining.{InitBehind, InitBehind.init, InitBehind.past, LedBy, HoldsRestBy}
use Rattle.part_drains.proofs.Sorts.{bool_cases, inner_some_at}
use Rattle.part_drains.proofs.PartInside.{listed_no_entry, listed, enters, source_of, Stands, walk_exit}
use Rattle.part_drains.proofs.PartPlace.{clash, left_stands, entry_feeds, entry_from, Leaves, left_leaves}

module _ (g left right : Circuit) (target : Port → Option Port) (pt : IsPart g left target) (tr : Typed right) (ports : SamePorts right left) (new : IsNew g left right) (hl : HoldsRestBy left) (hr : HoldsRestBy right) where
  abbrev pub changed : Circuit
  changed = replaced g left right target

  -- neither a node of the part nor of the new one
  abbrev pub stays : Name → Bool
  stays n = if inside right n then false else (if inside left n then false else true)

  pub stays_apart : (n : Name) → stays n ≡ true → (inside right n ≡ false) × (inside left n ≡ false)
  stays_apart n e = at (inside right n) (inside left n) e
    where
      at : (b c : Bool) → (if b then false else (if c then false else true)) ≡ true → (b ≡ false) × (c ≡ false)
      at true c e = absurd (true≢false (sym e))
      at false true e = absurd (true≢false (sym e))
      at false false e = (refl, refl)

  pub stays_is : (n : Name) → inside right n ≡ false → inside left n ≡ false → stays n ≡ true
  stays_is n a b = (λ i. if a i then false else (if b i then false else true))

  pub stays_not_new : (n : Name) → inside right n ≡ true → stays n ≡ false
  stays_not_new n a = ap (λ z. if z then false else (if inside left n then false else true)) a

  pub stays_not_old : (n : Name) → inside left n ≡ true → stays n ≡ false
  stays_not_old n a = at (inside right n) (inside left n) a
    where
      at : (b c : Bool) → c ≡ true → (if b then false else (if c then false else true)) ≡ false
      at true c e = refl
      at false c e = ap (λ z. if z then false else true) e

  -- a node of g outside the part stays
  pub node_stays : (n : Name) (k : Kind) → g.kind_at n ≡ Some k → inside left n ≡ false → inside right n ≡ false
  node_stays n k e o =
      elim (bool_cases (inside right n)) [
        | inr f ↦ f
        | inl t ↦
            let (j, f, ij) = inner_some_at (right.kind_at n) t in
            elim (new n j f ij) [ inl none ↦ absurd (none_some (g.kind_at n) k none e) | inr i ↦ clash (inside left n) i o ]
      ]

  pub kind_new : (n : Name) → inside right n ≡ true → changed.kind_at n ≡ right.kind_at n
  kind_new n i = ap (λ b. if b then right.kind_at n else (if inside left n then None else g.kind_at n)) i

  pub kind_kept : (n : Name) → stays n ≡ true → changed.kind_at n ≡ g.kind_at n
  kind_kept n s = let (a, b) = stays_apart n s in λ i. if a i then right.kind_at n else (if b i then None else g.kind_at n)

  pub kind_gone : (n : Name) → inside right n ≡ false → inside left n ≡ true → changed.kind_at n ≡ None
  kind_gone n a b = λ i. if a i then right.kind_at n else (if b i then None else g.kind_at n)

  feeder_new : (p : Port) → inside right p.node ≡ true → changed.feeder p ≡ outside g right target (right.feeder p)
  feeder_new p i = ap (λ b. if b then outside g right target (right.feeder p) else (if inside left p.node then None else crossing g left right target (g.feeder p))) i

  feeder_stays : (p : Port) → inside right p.node ≡ false → inside left p.node ≡ false → changed.feeder p ≡ crossing g left right target (g.feeder p)
  feeder_stays p a b = λ i. if a i then outside g right target (right.feeder p) else (if b i then None else crossing g left right target (g.feeder p))

  feeder_gone : (p : Port) → inside right p.node ≡ false → inside left p.node ≡ true → changed.feeder p ≡ None
  feeder_gone p a b = λ i. if a i then outside g right target (right.feeder p) else (if b i then None else crossing g left right target (g.feeder p))

  -- which wire of g a wire is, and which of right
  abbrev entered : Option Port → Option Port
  entered None = None
  entered (Some r) = if is_entry (right.kind_at r.node) then target r else None

  abbrev pub old_wire : Port → Option Port
  old_wire r = if inside right r.node then entered (right.feeder r) else (if inside left r.node then None else Some r)

  abbrev left_by : Option Port → Option Port
  left_by None = None
  left_by (Some q) = if inside left q.node then target q else None

  abbrev pub new_wire : Port → Option Port
  new_wire r = if inside right r.node then Some r else (if inside left r.node then None else left_by (g.feeder r))

  -- a wire into the new part, from outside
  pub record Enters (r : Port) : Type 0 where
    pub is_new : inside right r.node ≡ true
    pub by : Port
    pub shape : Shape
    pub fed : right.feeder r ≡ Some by
    pub new_entry : right.kind_at by.node ≡ Some (Entry shape)
    pub first : by ≡ record { node = by.node; port = 1 }
    pub was : Port
    pub was_inside : inside left was.node ≡ true
    pub was_fed : left.feeder was ≡ Some by
    pub old_entry : left.kind_at by.node ≡ Some (Entry shape)
    pub targets : target by ≡ Some was
    pub old : old_wire r ≡ Some was
    pub same : changed.feeder r ≡ g.feeder was

  -- a wire between nodes of the new part, or one that nothing feeds
  pub record Within (r : Port) : Type 0 where
    pub is_new : inside right r.node ≡ true
    pub from : (q : Port) → right.feeder r ≡ Some q → inside right q.node ≡ true
    pub old : old_wire r ≡ None
    pub same : changed.feeder r ≡ right.feeder r

  pub record Gone (r : Port) : Type 0 where
    pub not_new : inside right r.node ≡ false
    pub was_inside : inside left r.node ≡ true
    pub old : old_wire r ≡ None
    pub none : new_wire r ≡ None
    pub same : changed.feeder r ≡ None

  -- a wire outside, not from the part
  pub record Apart (r : Port) : Type 0 where
    pub stay : stays r.node ≡ true
    pub from : (q : Port) → g.feeder r ≡ Some q → stays q.node ≡ true
    pub old : old_wire r ≡ Some r
    pub none : new_wire r ≡ None
    pub same : changed.feeder r ≡ g.feeder r

  -- a wire out of the part
  pub record Exits (r : Port) : Type 0 where
    pub stay : stays r.node ≡ true
    pub was : Port
    pub was_fed : g.feeder r ≡ Some was
    pub was_inside : inside left was.node ≡ true
    pub leaves : Leaves g left target pt was
    pub by : Port
    pub fed : right.feeder leaves.at ≡ Some by
    pub by_new : inside right by.node ≡ true
    pub exit : right.kind_at leaves.at.node ≡ Some (Exit leaves.shape)
    pub old : old_wire r ≡ Some r
    pub is : new_wire r ≡ Some leaves.at
    pub same : changed.feeder r ≡ Some by

  pub data Place (r : Port) : Type 0 where
    entering : Enters r → Place r
    within : Within r → Place r
    gone : Gone r → Place r
    apart : Apart r → Place r
    exiting : Exits r → Place r

  old_new : (r : Port) → inside right r.node ≡ true → old_wire r ≡ entered (right.feeder r)
  old_new r i = ap (λ b. if b then entered (right.feeder r) else (if inside left r.node then None else Some r)) i

  old_stays : (r : Port) → inside right r.node ≡ false → inside left r.node ≡ false → old_wire r ≡ Some r
  old_stays r a b = λ i. if a i then entered (right.feeder r) else (if b i then None else Some r)

  new_stays : (r : Port) → inside right r.node ≡ false → inside left r.node ≡ false → new_wire r ≡ left_by (g.feeder r)
  new_stays r a b = λ i. if a i then Some r else (if b i then None else left_by (g.feeder r))

  pub new_own : (r : Port) → inside right r.node ≡ true → new_wire r ≡ Some r
  new_own r i = ap (λ b. if b then Some r else (if inside left r.node then None else left_by (g.feeder r))) i

  out_listed : (q : Port) → inside right q.node ≡ true → outside g right target (Some q) ≡ Some q
  out_listed q i = ap (λ b. if b then follow g (target q) else Some q) (listed_no_entry (right.kind_at q.node) i)

  place_entering : (r q : Port) (a : Shape) → inside right r.node ≡ true → right.feeder r ≡ Some q → right.kind_at q.node ≡ Some (Entry a) → q ≡ record { node = q.node; port = 1 } → Enters r
  place_entering r q a i f e port =
      let el : left.kind_at q.node ≡ Some (Entry a) = (ports.entries q.node a).0 e in
      let (p, lf) = pt.part.outputs (record { node = q.node; port = 1 }) (Entry a) a el refl in
      let fed : left.feeder p ≡ Some q = lf ∙ ap Some (sym port) in
      let to : target q ≡ Some p = (pt.target_is p q).0 fed in
      record {
        is_new = i;
        by = q;
        shape = a;
        fed = f;
        new_entry = e;
        first = port;
        was = p;
        was_inside = entry_feeds g left target pt p q a fed el;
        was_fed = fed;
        old_entry = el;
        targets = to;
        old = old_new r i ∙ ap entered f ∙ ap (λ k. if is_entry k then target q else None) e ∙ to;
        same = feeder_new r i ∙ ap (outside g right target) f ∙ ap (λ k. if is_entry k then follow g (target q) else Some q) e ∙ ap (follow g) to;
      }

  place_within : (r : Port) (o : Option Port) → inside right r.node ≡ true → right.feeder r ≡ o → ((q : Port) → o ≡ Some q → inside right q.node ≡ true) → entered o ≡ None → outside g right target o ≡ o → Within r
  place_within r o i f from en out =
      record {
        is_new = i;
        from = λ q e. from q (sym f ∙ e);
        old = old_new r i ∙ ap entered f ∙ en;
        same = feeder_new r i ∙ ap (outside g right target) f ∙ out ∙ sym f;
      }

  place_new : (r : Port) (o : Option Port) → inside right r.node ≡ true → right.feeder r ≡ o → Place r
  place_new r None i f = within (place_within r None i f (λ q e. absurd (none_some None q refl e)) refl refl)
  place_new r (Some q) i f =
      elim (source_of right tr r q f) [
        | enters a e port ↦ entering (place_entering r q a i f e port)
        | listed iq ↦
            within (place_within r (Some q) i f (λ p e. ap (λ (z : Port). inside right z.node) (sym (same_Some q p e)) ∙ iq)
            (ap (λ b. if b then target q else None) (listed_no_entry (right.kind_at q.node) iq)) (out_listed q iq))
      ]

  place_apart : (r : Port) (o : Option Port) → inside right r.node ≡ false → inside left r.node ≡ false → g.feeder r ≡ o → ((q : Port) → o ≡ Some q → stays q.node ≡ true) → left_by o ≡ None → crossing g left right target o ≡ o → Apart r
  place_apart r o a b f from none cross =
      record {
        stay = stays_is r.node a b;
        from = λ q e. from q (sym f ∙ e);
        old = old_stays r a b;
        none = new_stays r a b ∙ ap left_by f ∙ none;
        same = feeder_stays r a b ∙ ap (crossing g left right target) f ∙ cross ∙ sym f;
      }

  -- what feeds an Exit of the new part is in the new part
  pub exit_by : (x : Port) (a : Shape) → right.kind_at x.node ≡ Some (Exit a) → x ≡ record { node = x.node; port = 1 } → (q : Port) × (right.feeder x ≡ Some q) × (inside right q.node ≡ true)
  exit_by x a e port =
      let (q, f) = tr.inputs x (Exit a) a e (ap (λ (z : Port). port_get (a ∷ []) z.port) port) in
      elim (source_of right tr x q f) [
        | listed i ↦ (q, f, i)
        | enters b eq first ↦ absurd ((hr.inputs x q b (Exit a) f eq e).1)
      ]

  place_exiting : (r q : Port) → inside right r.node ≡ false → inside left r.node ≡ false → g.feeder r ≡ Some q → inside left q.node ≡ true → Exits r
  place_exiting r q a b f i =
      let l = left_leaves g left target pt r q b i f in
      let ex : right.kind_at l.at.node ≡ Some (Exit l.shape) = (ports.exits l.at.node l.shape).1 l.is_exit in
      let (s, rf, is) = exit_by l.at l.shape ex l.first in
      record {
        stay = stays_is r.node a b;
        was = q;
        was_fed = f;
        was_inside = i;
        leaves = l;
        by = s;
        fed = rf;
        by_new = is;
        exit = ex;
        old = old_stays r a b;
        is = new_stays r a b ∙ ap left_by f ∙ ap (λ z. if z then target q else None) i ∙ l.targets;
        same = feeder_stays r a b ∙ ap (crossing g left right target) f ∙ ap (λ z. if z then outside g right target (follow right (target q)) else Some q) i
            ∙ ap (λ z. outside g right target (follow right z)) l.targets ∙ ap (outside g right target) rf ∙ out_listed s is;
      }

  place_kept : (r : Port) (o : Option Port) → inside right r.node ≡ false → inside left r.node ≡ false → g.feeder r ≡ o → Place r
  place_kept r None a b f = apart (place_apart r None a b f (λ q e. absurd (none_some None q refl e)) refl refl)
  place_kept r (Some q) a b f =
      elim (bool_cases (inside left q.node)) [
        | inl i ↦ exiting (place_exiting r q a b f i)
        | inr o ↦
            let v = pt.whole.wires r q f in
            apart (place_apart r (Some q) a b f
            (λ p e. ap (λ (z : Port). stays z.node) (sym (same_Some q p e)) ∙ stays_is q.node (node_stays q.node v.from v.is_from o) o)
            (ap (λ z. if z then target q else None) o) (ap (λ z. if z then outside g right target (follow right (target q)) else Some q) o))
      ]

  place_at : (r : Port) (a b : Bool) → inside right r.node ≡ a → inside left r.node ≡ b → Place r
  place_at r true b ea eb = place_new r (right.feeder r) ea refl
  place_at r false true ea eb =
      gone (record {
        not_new = ea;
        was_inside = eb;
        old = λ i. if ea i then entered (right.feeder r) else (if eb i then None else Some r);
        none = λ i. if ea i then Some r else (if eb i then None else left_by (g.feeder r));
        same = feeder_gone r ea eb;
      })
  place_at r false false ea eb = place_kept r (g.feeder r) ea eb refl

  pub place : (r : Port) → Place r
  place r = place_at r (inside right r.node) (inside left r.node) refl refl

  -- the nodes that stay, from g to the new circuit
  enters_feeds : (r p q : Port) (x : Enters r) → old_wire r ≡ Some p → (g.feeder p ≡ Some q) ↔ (changed.feeder r ≡ Some q)
  enters_feeds r p q x e =
      let is : g.feeder x.was ≡ g.feeder p = ap g.feeder (same_Some x.was p (sym x.old ∙ e)) in
      ((λ f. x.same ∙ is ∙ f), (λ f. sym is ∙ sym x.same ∙ f))

  old_other : (r p : Port) → old_wire r ≡ Some p → stays r.node ≡ false → stays p.node ≡ false
  old_other r p e s =
      elim (place r) [
        | entering x ↦ stays_not_old p.node (ap (λ (z : Port). inside left z.node) (sym (same_Some x.was p (sym x.old ∙ e))) ∙ x.was_inside)
        | within x ↦ absurd (none_some (old_wire r) p x.old e)
        | gone x ↦ absurd (none_some (old_wire r) p x.old e)
        | apart x ↦ clash (stays r.node) x.stay s
        | exiting x ↦ clash (stays r.node) x.stay s
      ]

  old_feeds : (r p q : Port) → old_wire r ≡ Some p → stays q.node ≡ true → (g.feeder p ≡ Some q) ↔ (changed.feeder r ≡ Some q)
  old_feeds r p q e s =
      elim (place r) [
        | entering x ↦ enters_feeds r p q x e
        | within x ↦ absurd (none_some (old_wire r) p x.old e)
        | gone x ↦ absurd (none_some (old_wire r) p x.old e)
        | apart x ↦
            let is : g.feeder r ≡ g.feeder p = ap g.feeder (same_Some r p (sym x.old ∙ e)) in
            ((λ f. x.same ∙ is ∙ f), (λ f. sym is ∙ sym x.same ∙ f))
        | exiting x ↦
            let is : r ≡ p = same_Some r p (sym x.old ∙ e) in (
              (λ f. let z : x.was ≡ q = same_Some x.was q (sym x.was_fed ∙ ap g.feeder is ∙ f) in
                  clash (inside left q.node) (ap (λ (z : Port). inside left z.node) (sym z) ∙ x.was_inside) ((stays_apart q.node s).1)),
              (λ f. let z : x.by ≡ q = same_Some x.by q (sym x.same ∙ f) in
                  clash (inside right q.node) (ap (λ (z : Port). inside right z.node) (sym z) ∙ x.by_new) ((stays_apart q.node s).0)),
            )
      ]

  old_unfed : (r q : Port) → old_wire r ≡ None → stays q.node ≡ true → changed.feeder r ≡ Some q → ⊥
  old_unfed r q e s f =
      elim (place r) [
        | entering x ↦ none_some (old_wire r) x.was e x.old
        | within x ↦ clash (inside right q.node) (x.from q (sym x.same ∙ f)) ((stays_apart q.node s).0)
        | gone x ↦ none_some (changed.feeder r) q x.same f
        | apart x ↦ none_some (old_wire r) r e x.old
        | exiting x ↦ none_some (old_wire r) r e x.old
      ]

  old_own : (r : Port) → stays r.node ≡ true → old_wire r ≡ Some r
  old_own r s = let (a, b) = stays_apart r.node s in old_stays r a b

  pub old_carries : Carries g changed stays old_wire
  old_carries =
      record {
        nodes = λ n k s e. kind_kept n s ∙ e;
        own = old_own;
        other = old_other;
        feeds = old_feeds;
        unfed = old_unfed;
      }

  -- the nodes of the new part, from it to the new circuit
  new_other : (r p : Port) → new_wire r ≡ Some p → inside right r.node ≡ false → inside right p.node ≡ false
  new_other r p e o =
      elim (place r) [
        | entering x ↦ clash (inside right r.node) x.is_new o
        | within x ↦ clash (inside right r.node) x.is_new o
        | gone x ↦ absurd (none_some (new_wire r) p x.none e)
        | apart x ↦ absurd (none_some (new_wire r) p x.none e)
        | exiting x ↦ ap (λ (z : Port). inside right z.node) (sym (same_Some x.leaves.at p (sym x.is ∙ e))) ∙ ap is_inner x.exit
      ]

  new_feeds : (r p q : Port) → new_wire r ≡ Some p → inside right q.node ≡ true → (right.feeder p ≡ Some q) ↔ (changed.feeder r ≡ Some q)
  new_feeds r p q e i =
      elim (place r) [
        | entering x ↦
            let is : r ≡ p = same_Some r p (sym (new_own r x.is_new) ∙ e) in (
              (λ f. let z : x.by ≡ q = same_Some x.by q (sym x.fed ∙ ap right.feeder is ∙ f) in
                  clash (inside right q.node) i (ap (λ (z : Port). inside right z.node) (sym z) ∙ ap is_inner x.new_entry)),
              (λ f. let gf : g.feeder x.was ≡ Some q = sym x.same ∙ f in
                  let v = pt.whole.wires x.was q gf in
                  clash (inside right q.node) i (node_stays q.node v.from v.is_from (entry_from g left target pt x.was x.by q x.shape x.was_fed x.old_entry gf))),
            )
        | within x ↦
            let is : right.feeder r ≡ right.feeder p = ap right.feeder (same_Some r p (sym (new_own r x.is_new) ∙ e)) in
            ((λ f. x.same ∙ is ∙ f), (λ f. sym is ∙ sym x.same ∙ f))
        | gone x ↦ absurd (none_some (new_wire r) p x.none e)
        | apart x ↦ absurd (none_some (new_wire r) p x.none e)
        | exiting x ↦
            let is : right.feeder p ≡ Some x.by = ap right.feeder (sym (same_Some x.leaves.at p (sym x.is ∙ e))) ∙ x.fed in
            ((λ f. x.same ∙ sym is ∙ f), (λ f. is ∙ sym x.same ∙ f))
      ]

  new_unfed : (r q : Port) → new_wire r ≡ None → inside right q.node ≡ true → changed.feeder r ≡ Some q → ⊥
  new_unfed r q e i f =
      elim (place r) [
        | entering x ↦ none_some (new_wire r) r e (new_own r x.is_new)
        | within x ↦ none_some (new_wire r) r e (new_own r x.is_new)
        | gone x ↦ none_some (changed.feeder r) q x.same f
        | apart x ↦ clash (inside right q.node) i ((stays_apart q.node (x.from q (sym x.same ∙ f))).0)
        | exiting x ↦ none_some (new_wire r) x.leaves.at e x.is
      ]

  pub new_carries : Carries right changed (inside right) new_wire
  new_carries =
      record {
        nodes = λ n k i e. kind_new n i ∙ e;
        own = λ r i. new_own r i;
        other = new_other;
        feeds = new_feeds;
        unfed = new_unfed;
      }

  -- the new part stands in the new circuit
  new_enters : (p q : Port) → inside right p.node ≡ true → inside right q.node ≡ false → changed.feeder p ≡ Some q → (r : Port) × (a : Shape) × (right.feeder p ≡ Some r) × (right.kind_at r.node ≡ Some (Entry a))
  new_enters p q i o f =
      elim (place p) [
        | entering x ↦ (x.by, x.shape, x.fed, x.new_entry)
        | within x ↦ clash (inside right q.node) (x.from q (sym x.same ∙ f)) o
        | gone x ↦ clash (inside right p.node) i x.not_new
        | apart x ↦ clash (inside right p.node) i ((stays_apart p.node x.stay).0)
        | exiting x ↦ clash (inside right p.node) i ((stays_apart p.node x.stay).0)
      ]

  pub new_stands : Stands changed right
  new_stands =
      record {
        nodes = λ n k e i. kind_new n (ap is_inner e ∙ i) ∙ e;
        wires = λ p q ip iq. let (a, b) = new_feeds p p q (new_own p ip) iq in (b, a);
        enters = new_enters;
      }

  -- a node that stays is led where it was
  walk_new : (p : Port) → stays p.node ≡ true → InitBehind g p → InitBehind changed p
  walk_new p s (init q v m f e) =
      elim (place p) [
        | entering x ↦ clash (inside right p.node) x.is_new ((stays_apart p.node s).0)
        | within x ↦ clash (inside right p.node) x.is_new ((stays_apart p.node s).0)
        | gone x ↦ clash (inside left p.node) x.was_inside ((stays_apart p.node s).1)
        | apart x ↦ init q v m (x.same ∙ f) (kind_kept q.node (x.from q f) ∙ e)
        | exiting x ↦
            let is : x.was ≡ q = same_Some x.was q (sym x.was_fed ∙ f) in
            absurd (walk_exit g left (left_stands g left target pt) hl p x.was x.leaves.at x.leaves.shape x.was_fed x.was_inside x.leaves.feeds x.leaves.is_exit x.leaves.first (init q v m f e))
      ]
  walk_new p s (past q k f e tree ch) =
      elim (place p) [
        | entering x ↦ clash (inside right p.node) x.is_new ((stays_apart p.node s).0)
        | within x ↦ clash (inside right p.node) x.is_new ((stays_apart p.node s).0)
        | gone x ↦ clash (inside left p.node) x.was_inside ((stays_apart p.node s).1)
        | apart x ↦ past q k (x.same ∙ f) (kind_kept q.node (x.from q f) ∙ e) tree (walk_new (record { node = q.node; port = 1 }) (x.from q f) ch)
        | exiting x ↦
            absurd (walk_exit g left (left_stands g left target pt) hl p x.was x.leaves.at x.leaves.shape x.was_fed x.was_inside x.leaves.feeds x.leaves.is_exit x.leaves.first (past q k f e tree ch))
      ]

  walk_old : (p : Port) → stays p.node ≡ true → InitBehind changed p → InitBehind g p
  walk_old p s (init q v m f e) =
      elim (place p) [
        | entering x ↦ clash (inside right p.node) x.is_new ((stays_apart p.node s).0)
        | within x ↦ clash (inside right p.node) x.is_new ((stays_apart p.node s).0)
        | gone x ↦ clash (inside left p.node) x.was_inside ((stays_apart p.node s).1)
        | apart x ↦ let gf : g.feeder p ≡ Some q = sym x.same ∙ f in init q v m gf (sym (kind_kept q.node (x.from q gf)) ∙ e)
        | exiting x ↦ absurd (walk_exit changed right new_stands hr p x.by x.leaves.at x.leaves.shape x.same x.by_new x.fed x.exit x.leaves.first (init q v m f e))
      ]
  walk_old p s (past q k f e tree ch) =
      elim (place p) [
        | entering x ↦ clash (inside right p.node) x.is_new ((stays_apart p.node s).0)
        | within x ↦ clash (inside right p.node) x.is_new ((stays_apart p.node s).0)
        | gone x ↦ clash (inside left p.node) x.was_inside ((stays_apart p.node s).1)
        | apart x ↦
            let gf : g.feeder p ≡ Some q = sym x.same ∙ f in
            past q k gf (sym (kind_kept q.node (x.from q gf)) ∙ e) tree (walk_old (record { node = q.node; port = 1 }) (x.from q gf) ch)
        | exiting x ↦ absurd (walk_exit changed right new_stands hr p x.by x.leaves.at x.leaves.shape x.same x.by_new x.fed x.exit x.leaves.first (past q k f e tree ch))
      ]

  pub led_new : (n : Name) → stays n ≡ true → LedBy g n → LedBy changed n
  led_new n s led =
      record { kind = led.kind; is_kind = kind_kept n s ∙ led.is_kind; tree = led.tree; comes = walk_new (record { node = n; port = 1 }) s led.comes }

  pub led_old : (n : Name) → stays n ≡ true → LedBy changed n → LedBy g n
  led_old n s led =
      record { kind = led.kind; is_kind = sym (kind_kept n s) ∙ led.is_kind; tree = led.tree; comes = walk_old (record { node = n; port = 1 }) s led.comes }
