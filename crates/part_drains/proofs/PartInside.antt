-- The nodes of a part in a circuit, and walks back from them.
use Rattle.std.proofs.Common.{◌≡◌, ◌↔◌, ℕ, inl, inr, refl, sym, ap, subst, ◌∙◌, true, false, Option, Some, None, true≢false}
use Rattle.components.specs.Kind.{Shape, ins, outs}
use Rattle.components.specs.Name.{Name, Port, port_get}
use Rattle.components.specs.declared.kind.Kind.{Kind}
use Rattle.components.specs.declared.kind.Kind.TheVariants.{Entry, Exit, Init, Buffer, Fork}
use Rattle.circuits.specs.Circuit.{Circuit, Typed}
use Rattle.circuits.specs.Root.{PassesThrough}
use Rattle.circuits.specs.Replacing.{is_inner, is_entry}
use Rattle.std.proofs.lemmas.Option.{same_Some}
use Rattle.part_drains.specs.Part.{inside}
use Rattle.part_drains.proofs.Draining.{InitBehind, InitBehind.init, InitBehind.past, LedBy, HoldsRestBy}
use Rattle.part_drains.proofs.Sorts.{View, entry, exit, inner, view, bool_cases, inner_some_at, single_port}

pub tree_listed : (k : Kind) → PassesThrough k → is_inner (Some k) ≡ true
tree_listed (Entry a) h = absurd h
tree_listed (Exit a) h = absurd h
tree_listed _ h = refl

pub listed_no_entry : (o : Option Kind) → is_inner o ≡ true → is_entry o ≡ false
listed_no_entry None i = refl
listed_no_entry (Some (Entry a)) i = absurd (true≢false (sym i))
listed_no_entry (Some _) i = refl

-- the ends of a wire of a part
pub data Source0 (d : Circuit) (q : Port) : Type 0 where
  listed : inside d q.node ≡ true → Source0 d q
  enters : (a : Shape) → d.kind_at q.node ≡ Some (Entry a) → q ≡ record { node = q.node; port = 1 } → Source0 d q

pub data Target (d : Circuit) (p : Port) : Type 0 where
  listed_in : inside d p.node ≡ true → Target d p
  leaves_at : (a : Shape) → d.kind_at p.node ≡ Some (Exit a) → p ≡ record { node = p.node; port = 1 } → Target d p

module _ (d : Circuit) (ty : Typed d) where
  source_at : (q : Port) (b : Shape) (k : Kind) → View k → d.kind_at q.node ≡ Some k → port_get (outs k) q.port ≡ Some b → Source0 d q
  source_at q b _ (entry a) e o = enters a e (λ i. record { node = q.node; port = single_port a b q.port o i })
  source_at q b _ (exit a) e o = let z : None ≡ Some b = o in cc
  source_at q b k (inner i) e o = listed (ap is_inner e ∙ i)

  pub source_of : (p q : Port) → d.feeder p ≡ Some q → Source0 d q
  source_of p q f = let w = ty.wires p q f in source_at q w.shape w.from (view w.from) w.is_from w.leaves

  target_at : (p : Port) (b : Shape) (k : Kind) → View k → d.kind_at p.node ≡ Some k → port_get (ins k) p.port ≡ Some b → Target d p
  target_at p b _ (entry a) e o = let z : None ≡ Some b = o in cc
  target_at p b _ (exit a) e o = leaves_at a e (λ i. record { node = p.node; port = single_port a b p.port o i })
  target_at p b k (inner i) e o = listed_in (ap is_inner e ∙ i)

  pub target_of : (p q : Port) → d.feeder p ≡ Some q → Target d p
  target_of p q f = let w = ty.wires p q f in target_at p w.shape w.to (view w.to) w.is_to w.enters

  tree_port_at : (k : Kind) → PassesThrough k → (i : ℕ) (b : Shape) → port_get (ins k) i ≡ Some b → i ≡ 1
  tree_port_at (Buffer a) h i b e = single_port a b i e
  tree_port_at (Fork a n) h i b e = single_port a b i e
  tree_port_at _ h i b e = absurd h

  -- a Fork or Buffer has one input
  pub tree_port : (p q : Port) (k : Kind) → d.feeder p ≡ Some q → d.kind_at p.node ≡ Some k → PassesThrough k → p ≡ record { node = p.node; port = 1 }
  tree_port p q k f e tree =
      let w = ty.wires p q f in
      let same : w.to ≡ k = same_Some w.to k (sym w.is_to ∙ e) in
      λ i. record { node = p.node; port = tree_port_at k tree p.port w.shape (ap (λ z. port_get (ins z) p.port) (sym same) ∙ w.enters) i }

-- the listed nodes of d stand in c, wired alike, and what comes from outside comes by an Entry of d
pub record Stands (c d : Circuit) : Type 0 where
  pub nodes : (n : Name) (k : Kind) → d.kind_at n ≡ Some k → is_inner (Some k) ≡ true → c.kind_at n ≡ Some k
  pub wires : (p q : Port) → inside d p.node ≡ true → inside d q.node ≡ true → (c.feeder p ≡ Some q) ↔ (d.feeder p ≡ Some q)
  pub enters : (p q : Port) → inside d p.node ≡ true → inside d q.node ≡ false → c.feeder p ≡ Some q → (r : Port) × (a : Shape) × (d.feeder p ≡ Some r) × (d.kind_at r.node ≡ Some (Entry a))

module _ (c d : Circuit) (st : Stands c d) (hold : HoldsRestBy d) where
  -- a node of d has the kind that it has in c
  pub kind_inside : (n : Name) (k : Kind) → inside d n ≡ true → c.kind_at n ≡ Some k → d.kind_at n ≡ Some k
  kind_inside n k i e =
      let (j, f, il) = inner_some_at (d.kind_at n) i in f ∙ ap Some (same_Some j k (sym (st.nodes n j f il) ∙ e))

  pub enters_no_tree : (p q : Port) (k : Kind) → inside d p.node ≡ true → d.kind_at p.node ≡ Some k → PassesThrough k → c.feeder p ≡ Some q → inside d q.node ≡ true
  enters_no_tree p q k ip e tree f =
      elim (bool_cases (inside d q.node)) [
        | inl iq ↦ iq
        | inr oq ↦ let (r, a, df, er) = st.enters p q ip oq f in absurd ((hold.inputs p r a k df er e).0 tree)
      ]

  -- a walk back from a Fork or Buffer of d stays in d
  pub walk_in : (p : Port) (k : Kind) → inside d p.node ≡ true → d.kind_at p.node ≡ Some k → PassesThrough k → InitBehind c p → InitBehind d p
  walk_in p k ip e tree (init q v m f g) =
      let iq : inside d q.node ≡ true = enters_no_tree p q k ip e tree f in
      init q v m ((st.wires p q ip iq).0 f) (kind_inside q.node (Init v m) iq g)
  walk_in p k ip e tree (past q j f g jt ch) =
      let iq : inside d q.node ≡ true = enters_no_tree p q k ip e tree f in
      let jd : d.kind_at q.node ≡ Some j = kind_inside q.node j iq g in
      past q j ((st.wires p q ip iq).0 f) jd jt (walk_in (record { node = q.node; port = 1 }) j iq jd jt ch)

  pub walk_out : (p : Port) → inside d p.node ≡ true → InitBehind d p → InitBehind c p
  walk_out p ip (init q v m f g) =
      init q v m ((st.wires p q ip (ap is_inner g)).1 f) (st.nodes q.node (Init v m) g refl)
  walk_out p ip (past q j f g jt ch) =
      let iq : inside d q.node ≡ true = ap is_inner g ∙ tree_listed j jt in
      past q j ((st.wires p q ip iq).1 f) (st.nodes q.node j g (tree_listed j jt)) jt (walk_out (record { node = q.node; port = 1 }) iq ch)

  -- what leaves d comes from no Init of c through Forks and Buffers
  pub walk_exit : (p q x : Port) (a : Shape) → c.feeder p ≡ Some q → inside d q.node ≡ true → d.feeder x ≡ Some q → d.kind_at x.node ≡ Some (Exit a) → x ≡ record { node = x.node; port = 1 } → InitBehind c p → ⊥
  walk_exit p q x a f iq xf xe port (init r v m g e) =
      let same : r ≡ q = same_Some r q (sym g ∙ f) in
      hold.outputs x.node a xe (subst (InitBehind d) port (init q v m xf (kind_inside q.node (Init v m) iq (ap (λ (z : Port). c.kind_at z.node) (sym same) ∙ e))))
  walk_exit p q x a f iq xf xe port (past r k g e tree ch) =
      let same : r ≡ q = same_Some r q (sym g ∙ f) in
      let kd : d.kind_at q.node ≡ Some k = kind_inside q.node k iq (ap (λ (z : Port). c.kind_at z.node) (sym same) ∙ e) in
      hold.outputs x.node a xe
      (subst (InitBehind d) port
      (past q k xf kd tree (walk_in (record { node = q.node; port = 1 }) k iq kd tree (subst (λ (z : Port). InitBehind c (record { node = z.node; port = 1 })) same ch))))

  pub led_inside : (n : Name) → inside d n ≡ true → LedBy c n → LedBy d n
  led_inside n i led =
      let e : d.kind_at n ≡ Some led.kind = kind_inside n led.kind i led.is_kind in
      record { kind = led.kind; is_kind = e; tree = led.tree; comes = walk_in (record { node = n; port = 1 }) led.kind i e led.tree led.comes }

  pub led_outside : (n : Name) → LedBy d n → LedBy c n
  led_outside n led =
      let i : inside d n ≡ true = ap is_inner led.is_kind ∙ tree_listed led.kind led.tree in
      record {
        kind = led.kind;
        is_kind = st.nodes n led.kind led.is_kind (tree_listed led.kind led.tree);
        tree = led.tree;
        comes = walk_out (record { node = n; port = 1 }) i led.comes;
      }

  -- a led node of d feeds nodes of d alone
  pub led_stays : (n : Name) → LedBy d n → (x q : Port) (a : Shape) → d.feeder x ≡ Some q → q.node ≡ n → d.kind_at x.node ≡ Some (Exit a) → x ≡ record { node = x.node; port = 1 } → ⊥
  led_stays n led x q a xf is xe port =
      hold.outputs x.node a xe
      (subst (InitBehind d) port
      (past q led.kind xf (ap d.kind_at is ∙ led.is_kind) led.tree (subst (λ z. InitBehind d (record { node = z; port = 1 })) (sym is) led.comes)))
