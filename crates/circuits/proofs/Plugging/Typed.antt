-- Circuits side by side, and linked circuits, are typed.
use Rattle.std.proofs.Common.{◌≡◌, ◌≢◌, ℕ, ◌+◌, ◌<◌, ◌⊎◌, inl, inr, refl, sym, ap, subst, ◌∙◌, bytes_eq, if◌then◌else◌, [], ◌∷◌, length, Option, Some, None, arith}
use Rattle.std.proofs.lemmas.Option.{same_Some}
use Rattle.components.specs.declared.kind.Kind.{Kind}
use Rattle.components.specs.declared.kind.Kind.TheVariants.{Entry, Exit, Buffer}
use Rattle.components.specs.Name.{Name, Port, port_get}
use Rattle.components.specs.Kind.{Shape, ins, outs, KindOk}
use Rattle.components.specs.Orders.{same_bytes, other_bytes}
use Rattle.circuits.specs.Circuit.{Circuit, Typed, Wire}
use Rattle.circuits.specs.Plug.{PlugLink, link, redirect, beside, or_else, Apart}
use Rattle.circuits.proofs.Names.{name_cases}
use Rattle.circuits.proofs.Linking.{CanLink, kind_other, kind_exit, kind_entry}
use Rattle.circuits.proofs.Beside.{apart_none, apart_sym, kind_left, kind_right, unfed, none_some}

-- circuits side by side are typed
pub or_some : {A : Type 0} (o o' : Option A) (x : A) → or_else o o' ≡ Some x → (o ≡ Some x) ⊎ ((o ≡ None) × (o' ≡ Some x))
or_some None o' x e = inr (refl, e)
or_some (Some y) o' x e = inl e

module _ (c d : Circuit) (h : Apart c d) (tc : Typed c) (td : Typed d) where
  wire_left : (p q : Port) → c.feeder p ≡ Some q → Wire (beside c d) q p
  wire_left p q f =
      let w = tc.wires p q f in
      record { to = w.to; from = w.from; shape = w.shape; is_to = kind_left c d p.node w.to w.is_to; is_from = kind_left c d q.node w.from w.is_from; enters = w.enters; leaves = w.leaves }

  pub kind_of_right : (n : Name) (k : Kind) → d.kind_at n ≡ Some k → (beside c d).kind_at n ≡ Some k
  kind_of_right n k e = kind_right c d n (apart_none d c (apart_sym c d h) n k e) ∙ e

  wire_right : (p q : Port) → d.feeder p ≡ Some q → Wire (beside c d) q p
  wire_right p q f =
      let w = td.wires p q f in
      record { to = w.to; from = w.from; shape = w.shape; is_to = kind_of_right p.node w.to w.is_to; is_from = kind_of_right q.node w.from w.is_from; enters = w.enters; leaves = w.leaves }

  pub feeder_left : (p q : Port) → c.feeder p ≡ Some q → (beside c d).feeder p ≡ Some q
  feeder_left p q f = ap (λ z. or_else z (d.feeder p)) f

  pub feeder_right : (p q : Port) → d.feeder p ≡ Some q → (beside c d).feeder p ≡ Some q
  feeder_right p q f =
      let w = td.wires p q f in
      ap (λ z. or_else z (d.feeder p)) (unfed c tc p (apart_none d c (apart_sym c d h) p.node w.to w.is_to)) ∙ f

  once_beside : (p r q : Port) → (c.feeder p ≡ Some q) ⊎ ((c.feeder p ≡ None) × (d.feeder p ≡ Some q)) → (c.feeder r ≡ Some q) ⊎ ((c.feeder r ≡ None) × (d.feeder r ≡ Some q)) → p ≡ r
  once_beside p r q (inl e) (inl f) = tc.once p r q e f
  once_beside p r q (inl e) (inr f) = let w = tc.wires p q e in let v = td.wires r q f.1 in absurd (h q.node w.from v.from w.is_from v.is_from)
  once_beside p r q (inr e) (inl f) = let w = td.wires p q e.1 in let v = tc.wires r q f in absurd (h q.node v.from w.from v.is_from w.is_from)
  once_beside p r q (inr e) (inr f) = td.once p r q e.1 f.1

  pub beside_typed : Typed (beside c d)
  beside_typed =
      record {
        kinds = λ n k e. elim (or_some (c.kind_at n) (d.kind_at n) k e) [ inl f ↦ tc.kinds n k f | inr f ↦ td.kinds n k f.1 ];
        wires = λ p q e. elim (or_some (c.feeder p) (d.feeder p) q e) [ inl f ↦ wire_left p q f | inr f ↦ wire_right p q f.1 ];
        inputs = λ p k a e f.
            elim (or_some (c.kind_at p.node) (d.kind_at p.node) k e) [
              | inl g ↦ let (q, fq) = tc.inputs p k a g f in (q, feeder_left p q fq)
              | inr g ↦ let (q, fq) = td.inputs p k a g.1 f in (q, feeder_right p q fq)
            ];
        outputs = λ q k a e f.
            elim (or_some (c.kind_at q.node) (d.kind_at q.node) k e) [
              | inl g ↦ let (p, fp) = tc.outputs q k a g f in (p, feeder_left p q fp)
              | inr g ↦ let (p, fp) = td.outputs q k a g.1 f in (p, feeder_right p q fp)
            ];
        once = λ p r q e f. once_beside p r q (or_some (c.feeder p) (d.feeder p) q e) (or_some (c.feeder r) (d.feeder r) q f);
        names = (
          tc.names.0 + td.names.0,
          λ n k e. elim (or_some (c.kind_at n) (d.kind_at n) k e) [ inl f ↦ omega (arith, tc.names.1 n k f) | inr f ↦ omega (arith, td.names.1 n k f.1) ],
        );
      }

-- a linked circuit is typed
redirect_some : (l : PlugLink) (o : Option Port) (q : Port) → redirect l o ≡ Some q → (r : Port) × (o ≡ Some r) × (((r.node ≡ l.entry) × (record { node = l.exit; port = r.port } ≡ q)) ⊎ ((r.node ≢ l.entry) × (r ≡ q)))
redirect_some l None q e = let z : None ≡ Some q = e in cc
redirect_some l (Some r) q e = (
  r,
  refl,
  elim (name_cases r.node l.entry) [
    | inl is ↦ inl (is.is, same_Some _ q (sym (ap (λ b. Some (if b then record { node = l.exit; port = r.port } else r)) is.test) ∙ e))
    | inr ne ↦ inr (ne.is_not, same_Some _ q (sym (ap (λ b. Some (if b then record { node = l.exit; port = r.port } else r)) ne.test) ∙ e))
  ],
)

-- what a kind in a linked circuit was
pub data Was (l : PlugLink) (c : Circuit) (a : Shape) (n : Name) (k : Kind) : Type 0 where
  was_exit : n ≡ l.exit → k ≡ Buffer a → Was l c a n k
  was_same : n ≢ l.exit → n ≢ l.entry → c.kind_at n ≡ Some k → Was l c a n k

module _ (l : PlugLink) (c : Circuit) (a : Shape) (can : CanLink l c a) where
  pub was : (n : Name) (k : Kind) → (link l c).kind_at n ≡ Some k → Was l c a n k
  was n k e =
      elim (name_cases n l.entry) [
        | inl is ↦ absurd (none_some ((link l c).kind_at n) k (ap (link l c).kind_at is.is ∙ kind_entry l c) e)
        | inr ne ↦ elim (name_cases n l.exit) [
          | inl is ↦ was_exit is.is (same_Some k (Buffer a) (sym e ∙ ap (link l c).kind_at is.is ∙ kind_exit l c a can))
          | inr nx ↦ was_same nx.is_not ne.is_not (sym (kind_other l c n nx.is_not ne.is_not) ∙ e)
        ]
      ]

  -- a node that is no Entry of the link keeps its inputs' shapes
  target_in : (n : Name) (k : Kind) → n ≢ l.entry → c.kind_at n ≡ Some k → (m : Kind) × ((link l c).kind_at n ≡ Some m) × (ins m ≡ ins k)
  target_in n k ne e =
      elim (name_cases n l.exit) [
        | inl is ↦ (Buffer a, ap (link l c).kind_at is.is ∙ kind_exit l c a can, ap ins (same_Some (Exit a) k (sym can.exit ∙ ap c.kind_at (sym is.is) ∙ e)))
        | inr nx ↦ (k, kind_other l c n nx.is_not ne ∙ e, refl)
      ]

  fed_no_entry : Typed c → (p q : Port) → c.feeder p ≡ Some q → p.node ≢ l.entry
  fed_no_entry ty p q f is =
      let w = ty.wires p q f in
      let same : w.to ≡ Entry a = same_Some w.to (Entry a) (sym w.is_to ∙ ap c.kind_at is ∙ can.entry) in
      let z : None ≡ Some w.shape = ap (λ k. port_get (ins k) p.port) (sym same) ∙ w.enters in
      cc

  wire_linked : Typed c → (p q : Port) → (link l c).feeder p ≡ Some q → Wire (link l c) q p
  wire_linked ty p q e =
      let (r, f, which) = redirect_some l (c.feeder p) q e in
      let w = ty.wires p r f in
      let (m, em, im) = target_in p.node w.to (fed_no_entry ty p r f) w.is_to in
      elim which [
        | inl here ↦
            let source : w.from ≡ Entry a = same_Some w.from (Entry a) (sym w.is_from ∙ ap c.kind_at here.0 ∙ can.entry) in
            record {
              to = m;
              from = Buffer a;
              shape = w.shape;
              is_to = em;
              is_from = ap (λ (z : Port). (link l c).kind_at z.node) (sym here.1) ∙ kind_exit l c a can;
              enters = ap (λ z. port_get z p.port) im ∙ w.enters;
              leaves = ap (λ (z : Port). port_get (a ∷ []) z.port) (sym here.1) ∙ ap (λ k. port_get (outs k) r.port) (sym source) ∙ w.leaves;
            }
        | inr there ↦
            let nx : r.node ≢ l.exit = can.nothing p r f in
            record {
              to = m;
              from = w.from;
              shape = w.shape;
              is_to = em;
              is_from = ap (λ (z : Port). (link l c).kind_at z.node) (sym there.1) ∙ kind_other l c r.node nx there.0 ∙ w.is_from;
              enters = ap (λ z. port_get z p.port) im ∙ w.enters;
              leaves = ap (λ (z : Port). port_get (outs w.from) z.port) (sym there.1) ∙ w.leaves;
            }
      ]

  redirect_entry : (i : ℕ) → redirect l (Some (record { node = l.entry; port = i })) ≡ Some (record { node = l.exit; port = i })
  redirect_entry i = ap (λ b. Some (if b then record { node = l.exit; port = i } else record { node = l.entry; port = i })) (same_bytes l.entry l.entry refl)

  redirect_away : (q : Port) → q.node ≢ l.entry → redirect l (Some q) ≡ Some q
  redirect_away q ne = ap (λ b. Some (if b then record { node = l.exit; port = q.port } else q)) (other_bytes q.node l.entry ne)

  outputs_at : Typed c → (q : Port) (k : Kind) (b : Shape) → Was l c a q.node k → port_get (outs k) q.port ≡ Some b → (p : Port) × ((link l c).feeder p ≡ Some q)
  outputs_at ty q k b (was_exit is ek) f =
      let (p, g) = ty.outputs (record { node = l.entry; port = q.port }) (Entry a) b can.entry (ap (λ z. port_get (outs z) q.port) (sym ek) ∙ f) in
      (p, ap (redirect l) g ∙ redirect_entry q.port ∙ (λ i. Some (record { node = sym is i; port = q.port })))
  outputs_at ty q k b (was_same nx ne e) f =
      let (p, g) = ty.outputs q k b e f in (p, ap (redirect l) g ∙ redirect_away q ne)

  inputs_at : Typed c → (p : Port) (k : Kind) (b : Shape) → Was l c a p.node k → port_get (ins k) p.port ≡ Some b → (q : Port) × ((link l c).feeder p ≡ Some q)
  inputs_at ty p k b (was_exit is ek) f =
      let (q, g) = ty.inputs p (Exit a) b (ap c.kind_at is ∙ can.exit) (ap (λ z. port_get (ins z) p.port) (sym ek) ∙ f) in
      ((if bytes_eq q.node l.entry then record { node = l.exit; port = q.port } else q), ap (redirect l) g)
  inputs_at ty p k b (was_same nx ne e) f =
      let (q, g) = ty.inputs p k b e f in ((if bytes_eq q.node l.entry then record { node = l.exit; port = q.port } else q), ap (redirect l) g)

  once_at : Typed c → (p r q s t : Port) → c.feeder p ≡ Some s → c.feeder r ≡ Some t → ((s.node ≡ l.entry) × (record { node = l.exit; port = s.port } ≡ q)) ⊎ ((s.node ≢ l.entry) × (s ≡ q)) → ((t.node ≡ l.entry) × (record { node = l.exit; port = t.port } ≡ q)) ⊎ ((t.node ≢ l.entry) × (t ≡ q)) → p ≡ r
  once_at ty p r q s t f g (inl u) (inl v) =
      let same : s ≡ t = λ i. record { node = (u.0 ∙ sym v.0) i; port = ap (λ (z : Port). z.port) (u.1 ∙ sym v.1) i } in
      ty.once p r t (f ∙ ap Some same) g
  once_at ty p r q s t f g (inl u) (inr v) = absurd (can.nothing r t g (ap (λ (z : Port). z.node) (v.1 ∙ sym u.1)))
  once_at ty p r q s t f g (inr u) (inl v) = absurd (can.nothing p s f (ap (λ (z : Port). z.node) (u.1 ∙ sym v.1)))
  once_at ty p r q s t f g (inr u) (inr v) = ty.once p r t (f ∙ ap Some (u.1 ∙ sym v.1)) g

  kind_ok_at : Typed c → (n : Name) (k : Kind) → Was l c a n k → KindOk k
  kind_ok_at ty n k (was_exit is ek) = subst KindOk (sym ek) (ty.kinds n (Exit a) (ap c.kind_at is ∙ can.exit))
  kind_ok_at ty n k (was_same nx ne e) = ty.kinds n k e

  short_at : (ty : Typed c) (n : Name) (k : Kind) → Was l c a n k → length n < ty.names.0
  short_at ty n k (was_exit is ek) = ty.names.1 n (Exit a) (ap c.kind_at is ∙ can.exit)
  short_at ty n k (was_same nx ne e) = ty.names.1 n k e

  pub link_typed : Typed c → Typed (link l c)
  link_typed ty =
      record {
        kinds = λ n k e. kind_ok_at ty n k (was n k e);
        wires = wire_linked ty;
        inputs = λ p k b e f. inputs_at ty p k b (was p.node k e) f;
        outputs = λ q k b e f. outputs_at ty q k b (was q.node k e) f;
        once = λ p r q e f.
            let (s, fs, u) = redirect_some l (c.feeder p) q e in
            let (t, ft, v) = redirect_some l (c.feeder r) q f in
            once_at ty p r q s t fs ft u v;
        names = (ty.names.0, λ n k e. short_at ty n k (was n k e));
      }
