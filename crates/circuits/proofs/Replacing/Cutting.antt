-- A circuit without one of its parts: typed, with an Exit for each wire that leads into the part and an Entry for each that leads out.
use Rattle.std.proofs.Common.{◌≡◌, ◌↔◌, ℕ, ◌+◌, ◌<◌, inl, inr, refl, sym, ap, subst, ◌∙◌, true, false, Bool, if◌then◌else◌, [], ◌∷◌, length, Option, Some, None, arith, true≢false}
use Rattle.std.proofs.lemmas.Option.{same_Some}
use Rattle.components.specs.declared.kind.Kind.{Kind}
use Rattle.components.specs.declared.kind.Kind.TheVariants.{Entry, Exit}
use Rattle.components.specs.Name.{Name, Port, port_get}
use Rattle.components.specs.Kind.{Shape, ins, outs, KindOk}
use Rattle.components.specs.Numbered.{single_port}
use Rattle.circuits.specs.Circuit.{Circuit, Typed, Wire}
use Rattle.circuits.specs.Buffers.{first_port}
use Rattle.circuits.specs.Replacing.{is_inner, is_entry, follow}
use Rattle.circuits.proofs.Beside.{none_some}
use Rattle.circuits.proofs.Replacing.Sorts.{View, entry, exit, inner, view, inner_some_at, bool_cases}
use Rattle.circuits.proofs.Replacing.LongNames.{lengthen, shorten, lengthen_length, lengthen_inj, shorten_lengthen, shorten_some, shorten_none}

-- left is a part of g whose Entries and Exits have new names; no name is as long as size
pub record Cut (g left : Circuit) (target : Port → Option Port) (size : ℕ) : Type 0 where
  pub whole : Typed g
  pub part : Typed left
  pub to : (p q : Port) → left.feeder p ≡ Some q → target q ≡ Some p
  pub from : (p q : Port) → target q ≡ Some p → left.feeder p ≡ Some q
  pub nodes : (n : Name) (k : Kind) → left.kind_at n ≡ Some k → is_inner (Some k) ≡ true → g.kind_at n ≡ Some k
  pub wires : (p q : Port) → is_inner (left.kind_at p.node) ≡ true → is_inner (left.kind_at q.node) ≡ true → (g.feeder p ≡ Some q) ↔ (left.feeder p ≡ Some q)
  pub no_through : (p q : Port) (a b : Shape) → left.feeder p ≡ Some q → left.kind_at p.node ≡ Some (Exit a) → left.kind_at q.node ≡ Some (Entry b) → ⊥
  pub short : (n : Name) (k : Kind) → g.kind_at n ≡ Some k → length n < size
  pub short_part : (n : Name) (k : Kind) → left.kind_at n ≡ Some k → length n < size
  pub fresh : (n : Name) (k : Kind) → left.kind_at n ≡ Some k → is_inner (Some k) ≡ false → g.kind_at n ≡ None

abbrev pub flip : Option Kind → Option Kind
flip (Some (Entry a)) = Some (Exit a)
flip (Some (Exit a)) = Some (Entry a)
flip _ = None

module _ (g left : Circuit) (target : Port → Option Port) (size : ℕ) where
  abbrev pub rest_kind : Option Name → Name → Option Kind
  rest_kind (Some m) n = flip (left.kind_at m)
  rest_kind None n = if is_inner (left.kind_at n) then None else g.kind_at n

  abbrev to_end : Option Port → Option Port
  to_end None = None
  to_end (Some t) = Some (first_port (lengthen size t.node))

  abbrev cut : Option Port → Option Port
  cut None = None
  cut (Some q) = if is_inner (left.kind_at q.node) then to_end (target q) else Some q

  abbrev rest_feeder : Option Name → Port → Option Port
  rest_feeder (Some m) p = if is_entry (left.kind_at m) then follow g (target (record { node = m; port = p.port })) else None
  rest_feeder None p = if is_inner (left.kind_at p.node) then None else cut (g.feeder p)

  -- g without left: an Exit for each wire that leads into left, and an Entry for each that leads out
  abbrev pub rest_of : Circuit
  rest_of = record { kind_at = λ n. rest_kind (shorten size n) n; feeder = λ p. rest_feeder (shorten size p.node) p }

  module _ (h : Cut g left target size) where
    -- what stands at both ends of the wires that are cut
    pub inner_of : (n : Name) → is_inner (left.kind_at n) ≡ true → (k : Kind) × (left.kind_at n ≡ Some k) × (is_inner (Some k) ≡ true)
    inner_of n e = inner_some_at (left.kind_at n) e

    pub inner_is : (n : Name) (k : Kind) → left.kind_at n ≡ Some k → is_inner (Some k) ≡ true → is_inner (left.kind_at n) ≡ true
    inner_is n k e i = ap is_inner e ∙ i

    not_entry_in : (p q : Port) (a : Shape) → left.feeder p ≡ Some q → left.kind_at p.node ≡ Some (Entry a) → ⊥
    not_entry_in p q a f e =
        let w = h.part.wires p q f in
        let same : w.to ≡ Entry a = same_Some w.to (Entry a) (sym w.is_to ∙ e) in
        let z : None ≡ Some w.shape = ap (λ k. port_get (ins k) p.port) (sym same) ∙ w.enters in
        cc

    into_inner_at : (t q : Port) (a : Shape) (f : left.feeder t ≡ Some q) → left.kind_at q.node ≡ Some (Entry a) → (k : Kind) → View k → left.kind_at t.node ≡ Some k → is_inner (left.kind_at t.node) ≡ true
    into_inner_at t q a f eq _ (entry b) e = absurd (not_entry_in t q b f e)
    into_inner_at t q a f eq _ (exit b) e = absurd (h.no_through t q b a f e eq)
    into_inner_at t q a f eq k (inner i) e = inner_is t.node k e i

    -- what an Entry of left feeds is an inner node
    pub into_inner : (t q : Port) (a : Shape) → left.feeder t ≡ Some q → left.kind_at q.node ≡ Some (Entry a) → is_inner (left.kind_at t.node) ≡ true
    into_inner t q a f e = let w = h.part.wires t q f in into_inner_at t q a f e w.to (view w.to) w.is_to

    -- and in g it is fed from outside
    pub from_without : (t q r : Port) (a : Shape) → left.feeder t ≡ Some q → left.kind_at q.node ≡ Some (Entry a) → g.feeder t ≡ Some r → is_inner (left.kind_at r.node) ≡ false
    from_without t q r a f e gf =
        elim (bool_cases (is_inner (left.kind_at r.node))) [
          | inl i ↦
              let same : q ≡ r = same_Some q r (sym f ∙ (h.wires t r (into_inner t q a f e) i).0 gf) in
              absurd (true≢false (sym i ∙ ap is_inner (ap (λ (z : Port). left.kind_at z.node) (sym same) ∙ e)))
          | inr o ↦ o
        ]

    into_exit_at : (p q t : Port) → g.feeder p ≡ Some q → is_inner (left.kind_at p.node) ≡ false → is_inner (left.kind_at q.node) ≡ true → left.feeder t ≡ Some q → (k : Kind) → View k → left.kind_at t.node ≡ Some k → (a : Shape) × (left.kind_at t.node ≡ Some (Exit a))
    into_exit_at p q t gf op iq f _ (entry b) e = absurd (not_entry_in t q b f e)
    into_exit_at p q t gf op iq f _ (exit b) e = (b, e)
    into_exit_at p q t gf op iq f k (inner i) e =
        let it : is_inner (left.kind_at t.node) ≡ true = inner_is t.node k e i in
        let same : p ≡ t = h.whole.once p t q gf ((h.wires t q it iq).1 f) in
        absurd (true≢false (sym it ∙ ap (λ (z : Port). is_inner (left.kind_at z.node)) (sym same) ∙ op))

    -- what feeds a node outside, from an inner node, feeds an Exit in left
    pub into_exit : (p q t : Port) → g.feeder p ≡ Some q → is_inner (left.kind_at p.node) ≡ false → is_inner (left.kind_at q.node) ≡ true → left.feeder t ≡ Some q → (a : Shape) × (left.kind_at t.node ≡ Some (Exit a))
    into_exit p q t gf op iq f = let w = h.part.wires t q f in into_exit_at p q t gf op iq f w.to (view w.to) w.is_to

    pub exit_port : (t q : Port) (a : Shape) → left.feeder t ≡ Some q → left.kind_at t.node ≡ Some (Exit a) → t.port ≡ 1
    exit_port t q a f e =
        let w = h.part.wires t q f in
        single_port a w.shape t.port (ap (λ k. port_get (ins k) t.port) (same_Some (Exit a) w.to (sym e ∙ w.is_to)) ∙ w.enters)

    pub entry_port : (t q : Port) (a : Shape) → left.feeder t ≡ Some q → left.kind_at q.node ≡ Some (Entry a) → q.port ≡ 1
    entry_port t q a f e =
        let w = h.part.wires t q f in
        single_port a w.shape q.port (ap (λ k. port_get (outs k) q.port) (same_Some (Entry a) w.from (sym e ∙ w.is_from)) ∙ w.leaves)

    -- the nodes of the rest
    pub data RestNode (n : Name) (k : Kind) : Type 0 where
      was_entry : (m : Name) (a : Shape) → n ≡ lengthen size m → left.kind_at m ≡ Some (Entry a) → k ≡ Exit a → RestNode n k
      was_exit : (m : Name) (a : Shape) → n ≡ lengthen size m → left.kind_at m ≡ Some (Exit a) → k ≡ Entry a → RestNode n k
      stays : shorten size n ≡ None → is_inner (left.kind_at n) ≡ false → g.kind_at n ≡ Some k → RestNode n k

    flip_node : (n m : Name) (k : Kind) (o : Option Kind) → left.kind_at m ≡ o → n ≡ lengthen size m → flip o ≡ Some k → RestNode n k
    flip_node n m k None e is f = absurd (none_some None k refl f)
    flip_node n m k (Some (Entry a)) e is f = was_entry m a is e (sym (same_Some (Exit a) k f))
    flip_node n m k (Some (Exit a)) e is f = was_exit m a is e (sym (same_Some (Entry a) k f))
    flip_node n m k (Some _) e is f = absurd (none_some None k refl f)

    stay_node : (n : Name) (k : Kind) (b : Bool) → is_inner (left.kind_at n) ≡ b → shorten size n ≡ None → (if b then None else g.kind_at n) ≡ Some k → RestNode n k
    stay_node n k true i u f = absurd (none_some None k refl f)
    stay_node n k false i u f = stays u i f

    rest_node_at : (n : Name) (k : Kind) (o : Option Name) → shorten size n ≡ o → rest_kind o n ≡ Some k → RestNode n k
    rest_node_at n k (Some m) u f = flip_node n m k (left.kind_at m) refl (shorten_some size n m u) f
    rest_node_at n k None u f = stay_node n k (is_inner (left.kind_at n)) refl u f

    pub rest_node : (n : Name) (k : Kind) → rest_of.kind_at n ≡ Some k → RestNode n k
    rest_node n k e = rest_node_at n k (shorten size n) refl e

    pub kind_end : (m : Name) → rest_of.kind_at (lengthen size m) ≡ flip (left.kind_at m)
    kind_end m = ap (λ o. rest_kind o (lengthen size m)) (shorten_lengthen size m)

    pub kind_stays : (n : Name) (k : Kind) → g.kind_at n ≡ Some k → is_inner (left.kind_at n) ≡ false → rest_of.kind_at n ≡ Some k
    kind_stays n k e o = ap (λ z. rest_kind z n) (shorten_none size n (h.short n k e)) ∙ ap (λ b. if b then None else g.kind_at n) o ∙ e

    -- the wires of the rest
    pub data RestWire (p q : Port) : Type 0 where
      into : (m : Name) (a : Shape) (t : Port) → p.node ≡ lengthen size m → left.kind_at m ≡ Some (Entry a) → left.feeder t ≡ Some (record { node = m; port = p.port }) → g.feeder t ≡ Some q → RestWire p q
      out : (r t : Port) → shorten size p.node ≡ None → is_inner (left.kind_at p.node) ≡ false → g.feeder p ≡ Some r → is_inner (left.kind_at r.node) ≡ true → left.feeder t ≡ Some r → q ≡ first_port (lengthen size t.node) → RestWire p q
      kept : shorten size p.node ≡ None → is_inner (left.kind_at p.node) ≡ false → g.feeder p ≡ Some q → is_inner (left.kind_at q.node) ≡ false → RestWire p q

    follow_some : (m : Name) (a : Shape) (p q : Port) → p.node ≡ lengthen size m → left.kind_at m ≡ Some (Entry a) → (o : Option Port) → target (record { node = m; port = p.port }) ≡ o → follow g o ≡ Some q → RestWire p q
    follow_some m a p q is e None f x = absurd (none_some None q refl x)
    follow_some m a p q is e (Some t) f x = into m a t is e (h.from t (record { node = m; port = p.port }) f) x

    end_wire : (m : Name) (p q : Port) → p.node ≡ lengthen size m → (o : Option Kind) → left.kind_at m ≡ o → (if is_entry o then follow g (target (record { node = m; port = p.port })) else None) ≡ Some q → RestWire p q
    end_wire m p q is None e x = absurd (none_some None q refl x)
    end_wire m p q is (Some (Entry a)) e x = follow_some m a p q is e (target (record { node = m; port = p.port })) refl x
    end_wire m p q is (Some _) e x = absurd (none_some None q refl x)

    to_end_some : (p q r : Port) → shorten size p.node ≡ None → is_inner (left.kind_at p.node) ≡ false → g.feeder p ≡ Some r → is_inner (left.kind_at r.node) ≡ true → (o : Option Port) → target r ≡ o → to_end o ≡ Some q → RestWire p q
    to_end_some p q r u i f ir None e x = absurd (none_some None q refl x)
    to_end_some p q r u i f ir (Some t) e x = out r t u i f ir (h.from t r e) (sym (same_Some _ q x))

    cut_some_at : (p q r : Port) → shorten size p.node ≡ None → is_inner (left.kind_at p.node) ≡ false → g.feeder p ≡ Some r → (b : Bool) → is_inner (left.kind_at r.node) ≡ b → (if b then to_end (target r) else Some r) ≡ Some q → RestWire p q
    cut_some_at p q r u i f true ir x = to_end_some p q r u i f ir (target r) refl x
    cut_some_at p q r u i f false ir x =
        let same : r ≡ q = same_Some r q x in kept u i (f ∙ ap Some same) (ap (λ (z : Port). is_inner (left.kind_at z.node)) (sym same) ∙ ir)

    cut_some : (p q : Port) → shorten size p.node ≡ None → is_inner (left.kind_at p.node) ≡ false → (o : Option Port) → g.feeder p ≡ o → cut o ≡ Some q → RestWire p q
    cut_some p q u i None f x = absurd (none_some None q refl x)
    cut_some p q u i (Some r) f x = cut_some_at p q r u i f (is_inner (left.kind_at r.node)) refl x

    stay_wire : (p q : Port) → shorten size p.node ≡ None → (b : Bool) → is_inner (left.kind_at p.node) ≡ b → (if b then None else cut (g.feeder p)) ≡ Some q → RestWire p q
    stay_wire p q u true i x = absurd (none_some None q refl x)
    stay_wire p q u false i x = cut_some p q u i (g.feeder p) refl x

    rest_wire_at : (p q : Port) (o : Option Name) → shorten size p.node ≡ o → rest_feeder o p ≡ Some q → RestWire p q
    rest_wire_at p q (Some m) u x = end_wire m p q (shorten_some size p.node m u) (left.kind_at m) refl x
    rest_wire_at p q None u x = stay_wire p q u (is_inner (left.kind_at p.node)) refl x

    pub rest_wire : (p q : Port) → rest_of.feeder p ≡ Some q → RestWire p q
    rest_wire p q x = rest_wire_at p q (shorten size p.node) refl x

    -- each wire of g that is no wire inside left has one
    pub feeder_into : (m : Name) (i : ℕ) (a : Shape) (t : Port) → left.kind_at m ≡ Some (Entry a) → left.feeder t ≡ Some (record { node = m; port = i }) → rest_of.feeder (record { node = lengthen size m; port = i }) ≡ g.feeder t
    feeder_into m i a t e f =
        ap (λ o. rest_feeder o (record { node = lengthen size m; port = i })) (shorten_lengthen size m)
        ∙ ap (λ o. if is_entry o then follow g (target (record { node = m; port = i })) else None) e
        ∙ ap (follow g) (h.to t (record { node = m; port = i }) f)

    pub feeder_plain : (p : Port) → shorten size p.node ≡ None → is_inner (left.kind_at p.node) ≡ false → rest_of.feeder p ≡ cut (g.feeder p)
    feeder_plain p u o = ap (λ z. rest_feeder z p) u ∙ ap (λ b. if b then None else cut (g.feeder p)) o

    pub feeder_out : (p r t : Port) → shorten size p.node ≡ None → is_inner (left.kind_at p.node) ≡ false → g.feeder p ≡ Some r → is_inner (left.kind_at r.node) ≡ true → left.feeder t ≡ Some r → rest_of.feeder p ≡ Some (first_port (lengthen size t.node))
    feeder_out p r t u o f i lf =
        feeder_plain p u o ∙ ap cut f ∙ ap (λ b. if b then to_end (target r) else Some r) i ∙ ap to_end (h.to t r lf)

    pub feeder_kept : (p q : Port) → shorten size p.node ≡ None → is_inner (left.kind_at p.node) ≡ false → g.feeder p ≡ Some q → is_inner (left.kind_at q.node) ≡ false → rest_of.feeder p ≡ Some q
    feeder_kept p q u o f oq = feeder_plain p u o ∙ ap cut f ∙ ap (λ b. if b then to_end (target q) else Some q) oq

    -- the rest is typed
    port_is : (p : Port) (n : Name) (i : ℕ) → p.node ≡ n → p.port ≡ i → p ≡ record { node = n; port = i }
    port_is p n i e f = λ j. record { node = e j; port = f j }

    wire_shape : (t q r : Port) (f : left.feeder t ≡ Some q) (gf : g.feeder t ≡ Some r) → is_inner (left.kind_at t.node) ≡ true → (h.part.wires t q f).shape ≡ (h.whole.wires t r gf).shape
    wire_shape t q r f gf i =
        let w = h.part.wires t q f in
        let v = h.whole.wires t r gf in
        let (k, e, ik) = inner_of t.node i in
        let one : w.to ≡ k = same_Some w.to k (sym w.is_to ∙ e) in
        let two : k ≡ v.to = same_Some k v.to (sym (h.nodes t.node k e ik) ∙ v.is_to) in
        same_Some w.shape v.shape (sym w.enters ∙ ap (λ z. port_get (ins z) t.port) (one ∙ two) ∙ v.enters)

    source_shape : (t p q : Port) (f : left.feeder t ≡ Some q) (gf : g.feeder p ≡ Some q) → is_inner (left.kind_at q.node) ≡ true → (h.part.wires t q f).shape ≡ (h.whole.wires p q gf).shape
    source_shape t p q f gf i =
        let w = h.part.wires t q f in
        let v = h.whole.wires p q gf in
        let (k, e, ik) = inner_of q.node i in
        let one : w.from ≡ k = same_Some w.from k (sym w.is_from ∙ e) in
        let two : k ≡ v.from = same_Some k v.from (sym (h.nodes q.node k e ik) ∙ v.is_from) in
        same_Some w.shape v.shape (sym w.leaves ∙ ap (λ z. port_get (outs z) q.port) (one ∙ two) ∙ v.leaves)

    rest_wire_typed : (p q : Port) → RestWire p q → Wire rest_of q p
    rest_wire_typed p q (into m a t is e f gf) =
        let w = h.part.wires t (record { node = m; port = p.port }) f in
        let v = h.whole.wires t q gf in
        let i : is_inner (left.kind_at t.node) ≡ true = into_inner t (record { node = m; port = p.port }) a f e in
        let source : w.from ≡ Entry a = same_Some w.from (Entry a) (sym w.is_from ∙ e) in
        record {
          to = Exit a;
          from = v.from;
          shape = v.shape;
          is_to = ap rest_of.kind_at is ∙ kind_end m ∙ ap flip e;
          is_from = kind_stays q.node v.from v.is_from (from_without t (record { node = m; port = p.port }) q a f e gf);
          enters = ap (λ k. port_get (outs k) p.port) (sym source) ∙ w.leaves ∙ ap Some (wire_shape t (record { node = m; port = p.port }) q f gf i);
          leaves = v.leaves;
        }
    rest_wire_typed p q (out r t u o gf i f is) =
        let w = h.part.wires t r f in
        let v = h.whole.wires p r gf in
        let (a, e) = into_exit p r t gf o i f in
        let target_is : w.to ≡ Exit a = same_Some w.to (Exit a) (sym w.is_to ∙ e) in
        record {
          to = v.to;
          from = Entry a;
          shape = v.shape;
          is_to = kind_stays p.node v.to v.is_to o;
          is_from = ap (λ (z : Port). rest_of.kind_at z.node) is ∙ kind_end t.node ∙ ap flip e;
          enters = v.enters;
          leaves = (λ j. port_get (a ∷ []) ((ap (λ (z : Port). z.port) is ∙ sym (exit_port t r a f e)) j)) ∙ ap (λ k. port_get (ins k) t.port) (sym target_is) ∙ w.enters ∙ ap Some (source_shape t p r f gf i);
        }
    rest_wire_typed p q (kept u o gf oq) =
        let v = h.whole.wires p q gf in
        record {
          to = v.to;
          from = v.from;
          shape = v.shape;
          is_to = kind_stays p.node v.to v.is_to o;
          is_from = kind_stays q.node v.from v.is_from oq;
          enters = v.enters;
          leaves = v.leaves;
        }

    source_inner_at : (t q : Port) (a : Shape) (f : left.feeder t ≡ Some q) → left.kind_at t.node ≡ Some (Exit a) → (k : Kind) → View k → left.kind_at q.node ≡ Some k → is_inner (left.kind_at q.node) ≡ true
    source_inner_at t q a f et _ (entry b) e = absurd (h.no_through t q a b f et e)
    source_inner_at t q a f et _ (exit b) e =
        let w = h.part.wires t q f in
        let z : None ≡ Some w.shape = ap (λ k. port_get (outs k) q.port) (same_Some (Exit b) w.from (sym e ∙ w.is_from)) ∙ w.leaves in
        cc
    source_inner_at t q a f et k (inner i) e = inner_is q.node k e i

    -- what feeds an Exit of left is an inner node
    pub source_inner : (t q : Port) (a : Shape) → left.feeder t ≡ Some q → left.kind_at t.node ≡ Some (Exit a) → is_inner (left.kind_at q.node) ≡ true
    source_inner t q a f et = let w = h.part.wires t q f in source_inner_at t q a f et w.from (view w.from) w.is_from

    pub inner_input : (t q : Port) (a : Shape) → left.feeder t ≡ Some q → left.kind_at q.node ≡ Some (Entry a) → (r : Port) × (g.feeder t ≡ Some r)
    inner_input t q a f e =
        let w = h.part.wires t q f in
        let (k, ek, ik) = inner_of t.node (into_inner t q a f e) in
        h.whole.inputs t k w.shape (h.nodes t.node k ek ik) (ap (λ z. port_get (ins z) t.port) (same_Some k w.to (sym ek ∙ w.is_to)) ∙ w.enters)

    pub inner_output : (p r : Port) → g.feeder p ≡ Some r → is_inner (left.kind_at r.node) ≡ true → (t : Port) × (left.feeder t ≡ Some r)
    inner_output p r gf i =
        let v = h.whole.wires p r gf in
        let (k, ek, ik) = inner_of r.node i in
        h.part.outputs r k v.shape ek (ap (λ z. port_get (outs z) r.port) (same_Some k v.from (sym (h.nodes r.node k ek ik) ∙ v.is_from)) ∙ v.leaves)

    rest_input : (p : Port) (k : Kind) (b : Shape) → RestNode p.node k → port_get (ins k) p.port ≡ Some b → (q : Port) × (rest_of.feeder p ≡ Some q)
    rest_input p k b (was_entry m a is e ek) f =
        let (t, lf) = h.part.outputs (record { node = m; port = p.port }) (Entry a) b e (ap (λ z. port_get (ins z) p.port) (sym ek) ∙ f) in
        let (q, gf) = inner_input t (record { node = m; port = p.port }) a lf e in
        (q, ap rest_of.feeder (port_is p (lengthen size m) p.port is refl) ∙ feeder_into m p.port a t e lf ∙ gf)
    rest_input p k b (was_exit m a is e ek) f = let z : None ≡ Some b = ap (λ z. port_get (ins z) p.port) (sym ek) ∙ f in cc
    rest_input p k b (stays u o ge) f =
        let (r, gf) = h.whole.inputs p k b ge f in
        elim (bool_cases (is_inner (left.kind_at r.node))) [
          | inl i ↦ let (t, lf) = inner_output p r gf i in (first_port (lengthen size t.node), feeder_out p r t u o gf i lf)
          | inr n ↦ (r, feeder_kept p r u o gf n)
        ]

    pub plain_name : (p q : Port) → g.feeder p ≡ Some q → shorten size p.node ≡ None
    plain_name p q gf = let v = h.whole.wires p q gf in shorten_none size p.node (h.short p.node v.to v.is_to)

    left_fed_at : (p q r : Port) → g.feeder p ≡ Some q → is_inner (left.kind_at q.node) ≡ false → is_inner (left.kind_at p.node) ≡ true → left.feeder p ≡ Some r → (k : Kind) → View k → left.kind_at r.node ≡ Some k → (a : Shape) × (left.kind_at r.node ≡ Some (Entry a))
    left_fed_at p q r gf oq ip lf _ (entry a) e = (a, e)
    left_fed_at p q r gf oq ip lf _ (exit a) e =
        let w = h.part.wires p r lf in
        let z : None ≡ Some w.shape = ap (λ k. port_get (outs k) r.port) (same_Some (Exit a) w.from (sym e ∙ w.is_from)) ∙ w.leaves in
        cc
    left_fed_at p q r gf oq ip lf k (inner i) e =
        let same : r ≡ q = same_Some r q (sym ((h.wires p r ip (inner_is r.node k e i)).1 lf) ∙ gf) in
        absurd (true≢false (sym (inner_is r.node k e i) ∙ ap (λ (z : Port). is_inner (left.kind_at z.node)) same ∙ oq))

    -- an inner node that is fed from outside is fed in left by an Entry
    pub left_fed : (p q r : Port) → g.feeder p ≡ Some q → is_inner (left.kind_at q.node) ≡ false → is_inner (left.kind_at p.node) ≡ true → left.feeder p ≡ Some r → (a : Shape) × (left.kind_at r.node ≡ Some (Entry a))
    left_fed p q r gf oq ip lf = let w = h.part.wires p r lf in left_fed_at p q r gf oq ip lf w.from (view w.from) w.is_from

    pub left_input : (p q : Port) → g.feeder p ≡ Some q → is_inner (left.kind_at p.node) ≡ true → (r : Port) × (left.feeder p ≡ Some r)
    left_input p q gf ip =
        let v = h.whole.wires p q gf in
        let (k, ek, ik) = inner_of p.node ip in
        h.part.inputs p k v.shape ek (ap (λ z. port_get (ins z) p.port) (same_Some k v.to (sym (h.nodes p.node k ek ik) ∙ v.is_to)) ∙ v.enters)

    rest_output : (q : Port) (k : Kind) (b : Shape) → RestNode q.node k → port_get (outs k) q.port ≡ Some b → (p : Port) × (rest_of.feeder p ≡ Some q)
    rest_output q k b (was_entry m a is e ek) f = let z : None ≡ Some b = ap (λ z. port_get (outs z) q.port) (sym ek) ∙ f in cc
    rest_output q k b (was_exit m a is e ek) f =
        let first : port_get (a ∷ []) q.port ≡ Some b = ap (λ z. port_get (outs z) q.port) (sym ek) ∙ f in
        let t : Port = record { node = m; port = q.port } in
        let (r, lf) = h.part.inputs (record { node = m; port = q.port }) (Exit a) b e first in
        let ir : is_inner (left.kind_at r.node) ≡ true = source_inner (record { node = m; port = q.port }) r a lf e in
        let (kr, er, ikr) = inner_of r.node ir in
        let w = h.part.wires (record { node = m; port = q.port }) r lf in
        let (p, gf) = h.whole.outputs r kr w.shape (h.nodes r.node kr er ikr) (ap (λ z. port_get (outs z) r.port) (same_Some kr w.from (sym er ∙ w.is_from)) ∙ w.leaves) in
        elim (bool_cases (is_inner (left.kind_at p.node))) [
          | inl ip ↦
              let same : p ≡ record { node = m; port = q.port } = h.part.once p (record { node = m; port = q.port }) r ((h.wires p r ip ir).0 gf) lf in
              absurd (true≢false (sym ip ∙ ap is_inner (ap (λ (z : Port). left.kind_at z.node) same ∙ e)))
          | inr op ↦
              (p, feeder_out p r (record { node = m; port = q.port }) (plain_name p r gf) op gf ir lf ∙ ap Some (sym (port_is q (lengthen size m) 1 is (single_port a b q.port first))))
        ]
    rest_output q k b (stays u o ge) f =
        let (p, gf) = h.whole.outputs q k b ge f in
        elim (bool_cases (is_inner (left.kind_at p.node))) [
          | inl ip ↦
              let (r, lf) = left_input p q gf ip in
              let (a, er) = left_fed p q r gf o ip lf in
              (record { node = lengthen size r.node; port = r.port }, feeder_into r.node r.port a p er lf ∙ gf)
          | inr op ↦ (p, feeder_kept p q (plain_name p q gf) op gf o)
        ]

    not_long : (t q : Port) (m : Name) → g.feeder t ≡ Some q → q ≡ first_port (lengthen size m) → ⊥
    not_long t q m gf e =
        let v = h.whole.wires t q gf in
        let same : length q.node ≡ length (lengthen size m) = ap (λ (z : Port). length z.node) e in
        omega (arith, h.short q.node v.from v.is_from, same, lengthen_length size m)

    apart_inner : (t r q : Port) → g.feeder t ≡ Some q → g.feeder r ≡ Some q → is_inner (left.kind_at t.node) ≡ true → is_inner (left.kind_at r.node) ≡ false → ⊥
    apart_inner t r q gf ge it or_ = true≢false (sym it ∙ ap (λ (z : Port). is_inner (left.kind_at z.node)) (h.whole.once t r q gf ge) ∙ or_)

    rest_once : (p r q : Port) → RestWire p q → RestWire r q → p ≡ r
    rest_once p r q (into m a t is e f gf) (into m2 a2 t2 is2 e2 f2 gf2) =
        let same : t ≡ t2 = h.whole.once t t2 q gf gf2 in
        let ends : record { node = m; port = p.port } ≡ record { node = m2; port = r.port } = same_Some _ _ (sym f ∙ ap left.feeder same ∙ f2) in
        λ j. record { node = (is ∙ ap (λ (z : Port). lengthen size z.node) ends ∙ sym is2) j; port = ap (λ (z : Port). z.port) ends j }
    rest_once p r q (into m a t is e f gf) (out x t2 u o g2 i f2 is2) = absurd (not_long t q t2.node gf is2)
    rest_once p r q (into m a t is e f gf) (kept u o g2 oq) =
        absurd (apart_inner t r q gf g2 (into_inner t (record { node = m; port = p.port }) a f e) o)
    rest_once p r q (out x t u o g1 i f is) (into m a t2 is2 e2 f2 gf) = absurd (not_long t2 q t.node gf is)
    rest_once p r q (out x t u o g1 i f is) (out x2 t2 u2 o2 g2 i2 f2 is2) =
        let (a, e) = into_exit p x t g1 o i f in
        let (a2, e2) = into_exit r x2 t2 g2 o2 i2 f2 in
        let names : t.node ≡ t2.node = lengthen_inj size t.node t2.node (ap (λ (z : Port). z.node) (sym is ∙ is2)) in
        let same : t ≡ t2 = λ j. record { node = names j; port = (exit_port t x a f e ∙ sym (exit_port t2 x2 a2 f2 e2)) j } in
        let from : x ≡ x2 = same_Some x x2 (sym f ∙ ap left.feeder same ∙ f2) in
        h.whole.once p r x2 (g1 ∙ ap Some from) g2
    rest_once p r q (out x t u o g1 i f is) (kept u2 o2 g2 oq) = absurd (not_long r q t.node g2 is)
    rest_once p r q (kept u o g1 oq) (into m a t is e f gf) =
        absurd (apart_inner t p q gf g1 (into_inner t (record { node = m; port = r.port }) a f e) o)
    rest_once p r q (kept u o g1 oq) (out x t u2 o2 g2 i f is) = absurd (not_long p q t.node g1 is)
    rest_once p r q (kept u o g1 oq) (kept u2 o2 g2 oq2) = h.whole.once p r q g1 g2

    rest_kind_ok : (n : Name) (k : Kind) → RestNode n k → KindOk k
    rest_kind_ok n k (was_entry m a is e ek) = subst KindOk (sym ek) (h.part.kinds m (Entry a) e)
    rest_kind_ok n k (was_exit m a is e ek) = subst KindOk (sym ek) (h.part.kinds m (Exit a) e)
    rest_kind_ok n k (stays u o ge) = h.whole.kinds n k ge

    rest_short : (n : Name) (k : Kind) → RestNode n k → length n < size + size
    rest_short n k (was_entry m a is e ek) =
        let same : length n ≡ length (lengthen size m) = ap length is in omega (arith, same, lengthen_length size m, h.short_part m (Entry a) e)
    rest_short n k (was_exit m a is e ek) =
        let same : length n ≡ length (lengthen size m) = ap length is in omega (arith, same, lengthen_length size m, h.short_part m (Exit a) e)
    rest_short n k (stays u o ge) = omega (arith, h.short n k ge)

    pub rest_typed : Typed rest_of
    rest_typed =
        record {
          kinds = λ n k e. rest_kind_ok n k (rest_node n k e);
          wires = λ p q e. rest_wire_typed p q (rest_wire p q e);
          inputs = λ p k a e f. rest_input p k a (rest_node p.node k e) f;
          outputs = λ q k a e f. rest_output q k a (rest_node q.node k e) f;
          once = λ p r q e f. rest_once p r q (rest_wire p q e) (rest_wire r q f);
          names = (size + size, λ n k e. rest_short n k (rest_node n k e));
        }
