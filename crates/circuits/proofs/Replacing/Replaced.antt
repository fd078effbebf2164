-- With a part in its own place a circuit is as it was; what refines the part refines the circuit in its place, where the names of the part's Entries and Exits are new.
use Rattle.std.proofs.Common.{◌≡◌, ℕ, inr, refl, sym, ap, subst, ◌∙◌, true, false, Bool, if◌then◌else◌, List, Option, Some, None}
use Rattle.std.proofs.lemmas.Option.{same_Some}
use Rattle.components.specs.declared.kind.Kind.{Kind}
use Rattle.components.specs.declared.kind.Kind.TheVariants.{Exit}
use Rattle.components.specs.Name.{Name, Port, port_get}
use Rattle.components.specs.Kind.{outs}
use Rattle.circuits.specs.Values.{ValuesFit}
use Rattle.circuits.specs.Circuit.{Circuit, Typed}
use Rattle.circuits.specs.Plug.{PlugLink, plug, CanPlug}
use Rattle.circuits.specs.Refines.{Refines}
use Rattle.circuits.specs.Buffers.{drop_all}
use Rattle.circuits.specs.Replacing.{is_inner, is_entry, follow, outside, crossing, replaced, Ends}
use Rattle.circuits.proofs.Beside.{none_some}
use Rattle.circuits.proofs.Renaming.{circuit_same}
use Rattle.circuits.proofs.Transitive.{refines_then}
use Rattle.circuits.proofs.Plugging.Links.{plug_typed}
use Rattle.circuits.proofs.Plugging.Parts.{whole_refines}
use Rattle.circuits.proofs.Buffers.Several.{CanDropAll, drop_all_typed, drop_all_refines, undrop_all_refines}
use Rattle.circuits.proofs.Replacing.Sorts.{View, entry, exit, inner, view, inner_no_entry}
use Rattle.circuits.proofs.Replacing.Cutting.{Cut, rest_of, rest_typed, inner_of, inner_is, inner_output, left_input}
use Rattle.circuits.proofs.Replacing.Welding.{FitsIn, can, can_drop, welded_is}
use Rattle.circuits.proofs.Replacing.EndLinks.{links_of, exits_of}

-- a circuit refined in a part is refined, without the Buffers of the links too
swap_refines : ValuesFit → (rest new old : Circuit) (ls : List PlugLink) (bs : List Name) → Typed rest → CanPlug rest ls new → CanPlug rest ls old → CanDropAll bs (plug rest ls new) → CanDropAll bs (plug rest ls old) → Refines new old → Refines (drop_all bs (plug rest ls new)) (drop_all bs (plug rest ls old))
swap_refines fits rest new old ls bs tr cn co dn do_ r =
    refines_then (drop_all bs (plug rest ls new)) (plug rest ls new) (drop_all bs (plug rest ls old))
    (drop_all_refines fits bs (plug rest ls new) dn (plug_typed rest new ls tr r.new_typed cn))
    (refines_then (plug rest ls new) (plug rest ls old) (drop_all bs (plug rest ls old))
    (whole_refines rest new old ls tr co cn.apart r)
    (undrop_all_refines fits bs (plug rest ls old) do_ (plug_typed rest old ls tr r.old_typed co)))

module _ (g left : Circuit) (target : Port → Option Port) (size : ℕ) (h : Cut g left target size) where
  self_kind : (n : Name) (b : Bool) → is_inner (left.kind_at n) ≡ b → (if b then left.kind_at n else (if b then None else g.kind_at n)) ≡ g.kind_at n
  self_kind n true i = let (k, e, ik) = inner_of g left target size h n i in e ∙ sym (h.nodes n k e ik)
  self_kind n false i = refl

  open_at : (p r : Port) → is_inner (left.kind_at p.node) ≡ true → left.feeder p ≡ Some r → (k : Kind) → View k → left.kind_at r.node ≡ Some k → outside g left target (Some r) ≡ g.feeder p
  open_at p r i f k (inner ik) e =
      ap (λ b. if b then follow g (target r) else Some r) (ap is_entry e ∙ inner_no_entry k ik) ∙ sym ((h.wires p r i (inner_is g left target size h r.node k e ik)).1 f)
  open_at p r i f _ (entry a) e = ap (λ b. if b then follow g (target r) else Some r) (ap is_entry e) ∙ ap (follow g) (h.to p r f)
  open_at p r i f _ (exit a) e =
      let w = h.part.wires p r f in
      let z : None ≡ Some w.shape = ap (λ k. port_get (outs k) r.port) (same_Some (Exit a) w.from (sym e ∙ w.is_from)) ∙ w.leaves in
      cc

  self_none : (p : Port) → is_inner (left.kind_at p.node) ≡ true → left.feeder p ≡ None → (o : Option Port) → g.feeder p ≡ o → None ≡ g.feeder p
  self_none p i f None e = sym e
  self_none p i f (Some q) e = let (r, lf) = left_input g left target size h p q e i in absurd (none_some (left.feeder p) r f lf)

  self_inside : (p : Port) → is_inner (left.kind_at p.node) ≡ true → (o : Option Port) → left.feeder p ≡ o → outside g left target o ≡ g.feeder p
  self_inside p i None f = self_none p i f (g.feeder p) refl
  self_inside p i (Some r) f = let w = h.part.wires p r f in open_at p r i f w.from (view w.from) w.is_from

  self_inner : (p q : Port) → g.feeder p ≡ Some q → is_inner (left.kind_at q.node) ≡ true → outside g left target (follow left (target q)) ≡ Some q
  self_inner p q gf i =
      let (t, lf) = inner_output g left target size h p q gf i in
      let (k, e, ik) = inner_of g left target size h q.node i in
      ap (λ z. outside g left target (follow left z)) (h.to t q lf) ∙ ap (outside g left target) lf
      ∙ ap (λ b. if b then follow g (target q) else Some q) (ap is_entry e ∙ inner_no_entry k ik)

  self_crossing_at : (p q : Port) → g.feeder p ≡ Some q → (b : Bool) → is_inner (left.kind_at q.node) ≡ b → (if b then outside g left target (follow left (target q)) else Some q) ≡ Some q
  self_crossing_at p q gf true i = self_inner p q gf i
  self_crossing_at p q gf false i = refl

  self_crossing : (p : Port) (o : Option Port) → g.feeder p ≡ o → crossing g left left target o ≡ o
  self_crossing p None e = refl
  self_crossing p (Some q) e = self_crossing_at p q e (is_inner (left.kind_at q.node)) refl

  self_feeder : (p : Port) (b : Bool) → is_inner (left.kind_at p.node) ≡ b → (if b then outside g left target (left.feeder p) else (if b then None else crossing g left left target (g.feeder p))) ≡ g.feeder p
  self_feeder p true i = self_inside p i (left.feeder p) refl
  self_feeder p false i = self_crossing p (g.feeder p) refl

  -- left in its own place
  pub self_replaced : replaced g left left target ≡ g
  self_replaced =
      circuit_same (replaced g left left target) g
      (λ n. self_kind n (is_inner (left.kind_at n)) refl) (λ p. self_feeder p (is_inner (left.kind_at p.node)) refl)

  self_fits : FitsIn g left left size
  self_fits =
      record {
        typed = h.part;
        ports = record { entries = λ n a. ((λ e. e), (λ e. e)); exits = λ n a. ((λ e. e), (λ e. e)) };
        short = h.short_part;
        new = λ n k e i. inr (inner_is g left target size h n k e i);
      }

  -- what has the Entries and Exits of left leaves g typed in its place
  pub replaced_is_typed : (right : Circuit) (ends : List Name) → Ends left ends → FitsIn g left right size → Typed (replaced g left right target)
  replaced_is_typed right ends es f =
      let rest : Circuit = rest_of g left target size in
      subst Typed (welded_is g left right target size ends h es f)
      (drop_all_typed (exits_of size left ends) (plug rest (links_of size left ends) right) (can_drop g left right target size ends h es f)
      (plug_typed rest right (links_of size left ends) (rest_typed g left target size h) f.typed (can g left right target size ends h es f)))

  -- what refines left refines g in its place
  pub replaced_law : ValuesFit → (right : Circuit) (ends : List Name) → Ends left ends → FitsIn g left right size → Refines right left → Refines (replaced g left right target) g
  replaced_law fits right ends es f r =
      let rest : Circuit = rest_of g left target size in
      let law : Refines (drop_all (exits_of size left ends) (plug rest (links_of size left ends) right)) (drop_all (exits_of size left ends) (plug rest (links_of size left ends) left)) =
      swap_refines fits rest right left (links_of size left ends) (exits_of size left ends) (rest_typed g left target size h)
      (can g left right target size ends h es f) (can g left left target size ends h es self_fits)
      (can_drop g left right target size ends h es f) (can_drop g left left target size ends h es self_fits) r in
      subst (λ z. Refines z g) (welded_is g left right target size ends h es f)
      (subst (λ z. Refines (drop_all (exits_of size left ends) (plug rest (links_of size left ends) right)) z)
      (welded_is g left left target size ends h es self_fits ∙ self_replaced) law)
