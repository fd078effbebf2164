-- What a rule makes of a circuit, by ports, where its two graphs are those of plans.
use Rattle.std.proofs.Common.{◌≡◌, ℕ, Bool, true, false, refl, sym, ap, subst, ◌∙◌, if◌then◌else◌, Option, Some, None}
use Rattle.std.proofs.lemmas.Option.{same_Some}
use Rattle.components.specs.Name.{Name, Port, port_get}
use Rattle.components.specs.Kind.{outs}
use Rattle.circuits.specs.Circuit.{Circuit}
use Rattle.circuits.specs.Replacing.{is_inner, is_entry, outside, follow, crossing, replaced, IsPart}
use Rattle.circuit_plans.specs.Plans.{Out, Plan, Naming, kind_by, out_by, built}
use Rattle.circuit_plans.specs.Drawing.{port_named}
use Rattle.circuit_plans.proofs.Plans.{feeder_named, kind_named, name_inj}
use Rattle.circuit_plans.proofs.PlanTyped.{Fed, fed}

module _ {N M : Type 0} (g : Circuit) (left : Plan N) (old : Naming N) (right : Plan M) (new : Naming M) where
  -- a node of left that goes, and one of right that comes
  abbrev pub goes : N → Bool
  goes n = is_inner (Some (left.kind n))

  abbrev pub comes : M → Bool
  comes m = is_inner (Some (right.kind m))

  -- the name is of no node that comes; of none that goes
  abbrev pub NoNew : Name → Type 0
  NoNew n = is_inner ((built right new).kind_at n) ≡ false

  abbrev pub NoOld : Name → Type 0
  NoOld n = is_inner ((built left old).kind_at n) ≡ false

  -- what stands in g for an output of right: itself, or, for an Entry's, what feeds in g the input t that the Entry feeds in left
  pub data Stand (r : Out M) (o : Option Port) : Type 0 where
    inside : is_entry (Some (right.kind r.at)) ≡ false → o ≡ Some (port_named new.name r) → Stand r o
    from_outside : (e : N) (t : Out N) → is_entry (Some (right.kind r.at)) ≡ true → new.name r.at ≡ old.name e →
        left.source t.at t.port ≡ Some (record { at = e; port = r.port }) → o ≡ g.feeder (port_named old.name t) → Stand r o

  abbrev pub Stands : Option (Out M) → Option Port → Type 0
  Stands None o = o ≡ None
  Stands (Some r) o = Stand r o

  -- an output c that goes, which in left feeds the Exit's input t, gives way to what feeds the Exit in right
  abbrev pub Crosses : Out N → Option Port → Type 0
  Crosses c o = (t : Out N) → left.source t.at t.port ≡ Some c → goes t.at ≡ false → (x : M) × (new.name x ≡ old.name t.at) × Stands (right.source x t.port) o

  -- what feeds an input of a node that stays
  abbrev pub KeptSource : Option Port → Option Port → Type 0
  KeptSource None o = o ≡ None
  KeptSource (Some q) o = (NoOld q.node → o ≡ Some q) × ((c : Out N) → q ≡ port_named old.name c → goes c.at ≡ true → Crosses c o)

  pub record IsMade (made : Circuit) : Type 0 where
    pub new_kinds : (m : M) → comes m ≡ true → made.kind_at (new.name m) ≡ Some (right.kind m)
    pub new_sources : (m : M) (i : ℕ) → comes m ≡ true → Stands (right.source m i) (made.feeder (record { node = new.name m; port = i }))
    pub gone_kinds : (n : N) → goes n ≡ true → NoNew (old.name n) → made.kind_at (old.name n) ≡ None
    pub gone_sources : (n : N) (i : ℕ) → goes n ≡ true → NoNew (old.name n) → made.feeder (record { node = old.name n; port = i }) ≡ None
    pub kept_kinds : (n : Name) → NoNew n → NoOld n → made.kind_at n ≡ g.kind_at n
    pub kept_sources : (p : Port) → NoNew p.node → NoOld p.node → KeptSource (g.feeder p) (made.feeder p)

  -- the node of this name, where it is one that comes or goes
  pub which_inner : {A : Type 0} (c : Plan A) (x : Naming A) (n : Name) → is_inner ((built c x).kind_at n) ≡ true → (a : A) × (n ≡ x.name a) × (is_inner (Some (c.kind a)) ≡ true)
  which_inner {A = A} c x n e = at (x.which n) refl e
    where
      at : (o : Option A) → x.which n ≡ o → is_inner (kind_by c o) ≡ true → (a : A) × (n ≡ x.name a) × (is_inner (Some (c.kind a)) ≡ true)
      at None is e = cc
      at (Some a) is e = (a, x.named n a is, e)

  -- what feeds in g an input that in left an end feeds is no node that goes
  pub outside_feeds : (target : Port → Option Port) → IsPart g (built left old) target → (t c : Out N) (q : Port) → goes t.at ≡ true → goes c.at ≡ false → left.source t.at t.port ≡ Some c →
      g.feeder (port_named old.name t) ≡ Some q → NoOld q.node
  outside_feeds target part t c q inner end source e = at (is_inner ((built left old).kind_at q.node)) refl
    where
      at : (b : Bool) → is_inner ((built left old).kind_at q.node) ≡ b → NoOld q.node
      at false b = b
      at true b =
          let fed : Some q ≡ Some (port_named old.name c) =
          sym ((part.wires (port_named old.name t) q (ap is_inner (kind_named left old t.at) ∙ inner) b).0 e) ∙ feeder_named left old t.at t.port ∙ ap (out_by old) source in
          let no : true ≡ false = sym b ∙ ap (λ (z : Port). is_inner ((built left old).kind_at z.node)) (same_Some q (port_named old.name c) fed) ∙ ap is_inner (kind_named left old c.at) ∙ end in
          cc

  module _ (target : Port → Option Port) (part : IsPart g (built left old) target) (made : Circuit) (is : IsMade made) where
    stand : (r : Out M) (o : Option Port) → Stand r o → outside g (built right new) target (Some (port_named new.name r)) ≡ o
    stand r o (inside never e) =
        ap (λ k. if is_entry k then follow g (target (port_named new.name r)) else Some (port_named new.name r)) (kind_named right new r.at)
        ∙ ap (λ b. if b then follow g (target (port_named new.name r)) else Some (port_named new.name r)) never ∙ sym e
    stand r o (from_outside n t always name source e) =
        let fed_by : (built left old).feeder (port_named old.name t) ≡ Some (port_named new.name r) =
        feeder_named left old t.at t.port ∙ ap (out_by old) source ∙ (λ i. Some (record { node = sym name i; port = r.port })) in
        ap (λ k. if is_entry k then follow g (target (port_named new.name r)) else Some (port_named new.name r)) (kind_named right new r.at)
        ∙ ap (λ b. if b then follow g (target (port_named new.name r)) else Some (port_named new.name r)) always
        ∙ ap (follow g) ((part.target_is (port_named old.name t) (port_named new.name r)).0 fed_by) ∙ sym e

    stands : (s : Option (Out M)) (o : Option Port) → Stands s o → outside g (built right new) target (out_by new s) ≡ o
    stands None o e = sym e
    stands (Some r) o h = stand r o h

    -- where an output that goes feeds in g a node that stays, it feeds in left a node that is no inner one
    record Leaves (q : Port) (c : Out N) : Type 0 where
      t : Out N
      source : left.source t.at t.port ≡ Some c
      away : goes t.at ≡ false
      is_target : target q ≡ Some (port_named old.name t)

    leaves_at : (p q z : Port) (c : Out N) → NoOld p.node → g.feeder p ≡ Some q → q ≡ port_named old.name c → goes c.at ≡ true →
        (built left old).feeder z ≡ Some q → (f : Fed left old z q (old.which z.node)) → (b : Bool) → goes f.node ≡ b → Leaves q c
    leaves_at p q z c away e at inner z_fed f true b =
        let name : z.node ≡ old.name f.node = old.named z.node f.node f.is_node in
        let z_inner : is_inner ((built left old).kind_at z.node) ≡ true = ap (λ n. is_inner ((built left old).kind_at n)) name ∙ ap is_inner (kind_named left old f.node) ∙ b in
        let q_inner : is_inner ((built left old).kind_at q.node) ≡ true =
        ap (λ (x : Port). is_inner ((built left old).kind_at x.node)) at ∙ ap is_inner (kind_named left old c.at) ∙ inner in
        let same : z ≡ p = part.whole.once z p q ((part.wires z q z_inner q_inner).1 z_fed) e in
        let no : true ≡ false = sym z_inner ∙ ap (λ (x : Port). is_inner ((built left old).kind_at x.node)) same ∙ away in
        cc
    leaves_at p q z c away e at inner z_fed f false b =
        let name : z.node ≡ old.name f.node = old.named z.node f.node f.is_node in
        let out : port_named old.name f.out ≡ port_named old.name c = f.is ∙ at in
        let node : f.out.at ≡ c.at = name_inj left old f.out.at c.at (ap (λ (x : Port). x.node) out) in
        record {
          t = record { at = f.node; port = z.port };
          source = f.source ∙ (λ i. Some (record { at = node i; port = ap (λ (x : Port). x.port) out i }));
          away = b;
          is_target = (part.target_is z q).0 z_fed ∙ (λ i. Some (record { node = name i; port = z.port }));
        }

    leaving : (p q : Port) (c : Out N) → NoOld p.node → g.feeder p ≡ Some q → q ≡ port_named old.name c → goes c.at ≡ true → Leaves q c
    leaving p q c away e at inner =
        let kind : (built left old).kind_at q.node ≡ Some (left.kind c.at) = ap (λ (z : Port). (built left old).kind_at z.node) at ∙ kind_named left old c.at in
        let w = part.whole.wires p q e in
        let same : left.kind c.at ≡ w.from = same_Some (left.kind c.at) w.from (sym (part.nodes q.node (left.kind c.at) kind inner) ∙ w.is_from) in
        let (z, z_fed) = part.part.outputs q (left.kind c.at) w.shape kind (ap (λ k. port_get (outs k) q.port) same ∙ w.leaves) in
        leaves_at p q z c away e at inner z_fed (fed left old z q z_fed) (goes (fed left old z q z_fed).node) refl

    crossed : (p q : Port) (c : Out N) (o : Option Port) → NoOld p.node → g.feeder p ≡ Some q → q ≡ port_named old.name c → goes c.at ≡ true → Crosses c o →
        outside g (built right new) target (follow (built right new) (target q)) ≡ o
    crossed p q c o away e at inner h =
        let l = leaving p q c away e at inner in
        let (x, name, s) = h l.t l.source l.away in
        ap (λ z. outside g (built right new) target (follow (built right new) z)) l.is_target
        ∙ ap (λ n. outside g (built right new) target ((built right new).feeder (record { node = n; port = l.t.port }))) (sym name)
        ∙ ap (outside g (built right new) target) (feeder_named right new x l.t.port) ∙ stands (right.source x l.t.port) o s

    crossing_is : (p : Port) (s o : Option Port) → NoOld p.node → g.feeder p ≡ s → KeptSource s o → crossing g (built left old) (built right new) target s ≡ o
    crossing_is p None o away e h = sym h
    crossing_is p (Some q) o away e h = at (is_inner ((built left old).kind_at q.node)) refl
      where
        at : (b : Bool) → is_inner ((built left old).kind_at q.node) ≡ b → crossing g (built left old) (built right new) target (Some q) ≡ o
        at true b =
            let (n, name, inner) = which_inner left old q.node b in
            let c : Out N = record { at = n; port = q.port } in
            let is : q ≡ port_named old.name c = λ i. record { node = name i; port = q.port } in
            ap (λ b. if b then outside g (built right new) target (follow (built right new) (target q)) else Some q) b
            ∙ crossed p q c o away e is inner (h.1 c is inner)
        at false b = ap (λ b. if b then outside g (built right new) target (follow (built right new) (target q)) else Some q) b ∙ sym (h.0 b)

    abbrev rest_source : Port → Option Port
    rest_source p = if is_inner ((built left old).kind_at p.node) then None else crossing g (built left old) (built right new) target (g.feeder p)

    kept_source_is : (p : Port) → NoNew p.node → (b : Bool) → is_inner ((built left old).kind_at p.node) ≡ b → rest_source p ≡ made.feeder p
    kept_source_is p apart true b =
        let (n, name, inner) = which_inner left old p.node b in
        ap (λ b. if b then None else crossing g (built left old) (built right new) target (g.feeder p)) b
        ∙ sym (is.gone_sources n p.port inner (subst NoNew name apart)) ∙ (λ i. made.feeder (record { node = sym name i; port = p.port }))
    kept_source_is p apart false b =
        ap (λ b. if b then None else crossing g (built left old) (built right new) target (g.feeder p)) b
        ∙ crossing_is p (g.feeder p) (made.feeder p) b refl (is.kept_sources p apart b)

    source_is : (p : Port) (b : Bool) → is_inner ((built right new).kind_at p.node) ≡ b → (replaced g (built left old) (built right new) target).feeder p ≡ made.feeder p
    source_is p true b =
        let (m, name, inner) = which_inner right new p.node b in
        ap (λ b. if b then outside g (built right new) target ((built right new).feeder p) else rest_source p) b
        ∙ ap (λ n. outside g (built right new) target ((built right new).feeder (record { node = n; port = p.port }))) name
        ∙ ap (outside g (built right new) target) (feeder_named right new m p.port)
        ∙ stands (right.source m p.port) (made.feeder (record { node = new.name m; port = p.port })) (is.new_sources m p.port inner)
        ∙ (λ i. made.feeder (record { node = sym name i; port = p.port }))
    source_is p false b =
        ap (λ b. if b then outside g (built right new) target ((built right new).feeder p) else rest_source p) b
        ∙ kept_source_is p b (is_inner ((built left old).kind_at p.node)) refl

    kept_kind_is : (n : Name) → NoNew n → (b : Bool) → is_inner ((built left old).kind_at n) ≡ b → (if is_inner ((built left old).kind_at n) then None else g.kind_at n) ≡ made.kind_at n
    kept_kind_is n apart true b =
        let (a, name, inner) = which_inner left old n b in
        ap (λ b. if b then None else g.kind_at n) b ∙ sym (is.gone_kinds a inner (subst NoNew name apart)) ∙ ap made.kind_at (sym name)
    kept_kind_is n apart false b = ap (λ b. if b then None else g.kind_at n) b ∙ sym (is.kept_kinds n apart b)

    kind_is : (n : Name) (b : Bool) → is_inner ((built right new).kind_at n) ≡ b → (replaced g (built left old) (built right new) target).kind_at n ≡ made.kind_at n
    kind_is n true b =
        let (m, name, inner) = which_inner right new n b in
        ap (λ b. if b then (built right new).kind_at n else (if is_inner ((built left old).kind_at n) then None else g.kind_at n)) b
        ∙ ap (built right new).kind_at name ∙ kind_named right new m ∙ sym (is.new_kinds m inner) ∙ ap made.kind_at (sym name)
    kind_is n false b =
        ap (λ b. if b then (built right new).kind_at n else (if is_inner ((built left old).kind_at n) then None else g.kind_at n)) b
        ∙ kept_kind_is n b (is_inner ((built left old).kind_at n)) refl

    pub made_is : replaced g (built left old) (built right new) target ≡ made
    made_is = λ i. record { kind_at = λ n. kind_is n (is_inner ((built right new).kind_at n)) refl i; feeder = λ p. source_is p (is_inner ((built right new).kind_at p.node)) refl i }
