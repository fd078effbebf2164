-- When a rule makes of a circuit one without some nodes and with new ones.
use Rattle.std.proofs.Common.{◌≡◌, ℕ, true, false, refl, sym, ap, subst, ◌∙◌, if◌then◌else◌, List, Option, Some, None}
use Rattle.components.specs.declared.kind.Kind.{Kind}
use Rattle.components.specs.Name.{Name, Port}
use Rattle.circuits.specs.Circuit.{Circuit}
use Rattle.circuits.specs.Replacing.{is_inner, In}
use Rattle.circuit_plans.specs.Plans.{Out, Plan, Naming, built}
use Rattle.circuit_plans.specs.Drawing.{port_named}
use Rattle.circuit_plans.proofs.Plans.{kind_named, name_inj}
use Rattle.loop_turns.specs.Rebuilt.{new_at, has_name, kind_or, source_or, moved, rebuilt}
use Rattle.loop_turns.proofs.LoopLookups.{has_true, has_false, new_none, new_found}
use Rattle.rule_uses.proofs.Made.{goes, comes, NoNew, NoOld, Stands, KeptSource, IsMade}

-- an output that nothing else stands for
pub moved_same : (out : Port → Port) (s : Option Port) → ((q : Port) → s ≡ Some q → out q ≡ q) → moved out s ≡ s
moved_same out None same = refl
moved_same out (Some q) same = ap Some (same q refl)

-- the nodes of xs are those that come, with their kinds and sources; the names that are gone are those of the nodes that go; and out says what stands for an output that goes
pub record Ties {N M X : Type 0} (g : Circuit) (left : Plan N) (old : Naming N) (right : Plan M) (new : Naming M)
    (gone : List Name) (name : X → Name) (xs : List X) (kind : X → Kind) (source : X → ℕ → Option Port) (out : Port → Port) : Type 0 where
  pub at : X → M
  pub at_comes : (x : X) → In x xs → comes g left old right new (at x) ≡ true
  pub names : (x : X) → In x xs → name x ≡ new.name (at x)
  pub kinds : (x : X) → In x xs → kind x ≡ right.kind (at x)
  pub sources : (x : X) (i : ℕ) → In x xs → Stands g left old right new (right.source (at x) i) (source x i)
  pub use_of : (m : M) → comes g left old right new m ≡ true → (x : X) × In x xs × (at x ≡ m)
  pub alone : (x y : X) → In x xs → In y xs → at x ≡ at y → x ≡ y
  pub gone_all : (n : N) → goes g left old right new n ≡ true → In (old.name n) gone
  pub gone_only : (n : Name) → In n gone → is_inner ((built left old).kind_at n) ≡ true
  pub moved_old : (c t : Out N) → goes g left old right new c.at ≡ true → left.source t.at t.port ≡ Some c → goes g left old right new t.at ≡ false →
      (x : M) × (new.name x ≡ old.name t.at) × Stands g left old right new (right.source x t.port) (Some (out (port_named old.name c)))
  pub moved_other : (q : Port) → NoOld g left old right new q.node → out q ≡ q

module _ {N M X : Type 0} (g : Circuit) (left : Plan N) (old : Naming N) (right : Plan M) (new : Naming M)
    (gone : List Name) (name : X → Name) (xs : List X) (kind : X → Kind) (source : X → ℕ → Option Port) (out : Port → Port)
    (ties : Ties g left old right new gone name xs kind source out) where
  abbrev made : Circuit
  made = rebuilt g gone name xs kind source out

  found : (m : M) (c : comes g left old right new m ≡ true) → (x : X) × In x xs × (ties.at x ≡ m) × (new_at name xs (new.name m) ≡ Some x)
  found m c =
      let (x, i, is) = ties.use_of m c in
      let named : name x ≡ new.name m = ties.names x i ∙ ap new.name is in
      let apart : (y z : X) → In y xs → In z xs → name y ≡ name z → y ≡ z =
      λ y z j k e. ties.alone y z j k (name_inj right new (ties.at y) (ties.at z) (sym (ties.names y j) ∙ e ∙ ties.names z k)) in
      (x, i, is, subst (λ n. new_at name xs n ≡ Some x) named (new_found name xs apart x i))

  none_new : (n : Name) → NoNew g left old right new n → new_at name xs n ≡ None
  none_new n away =
      new_none name xs n
      (λ x i e.
      let no : true ≡ false = sym (ties.at_comes x i) ∙ ap is_inner (sym (kind_named right new (ties.at x))) ∙ ap (λ z. is_inner ((built right new).kind_at z)) (sym (ties.names x i) ∙ e) ∙ away in
      cc)

  kept_name : (n : Name) → NoOld g left old right new n → has_name gone n ≡ false
  kept_name n away = has_false gone n (λ i. let no : true ≡ false = sym (ties.gone_only n i) ∙ away in cc)

  kept : (s : Option Port) → KeptSource g left old right new s (moved out s)
  kept None = refl
  kept (Some q) = (
    (λ away. ap Some (ties.moved_other q away)),
    (λ c is inner t source away.
        let (x, named, s) = ties.moved_old c t inner source away in
        (x, named, subst (λ z. Stands g left old right new (right.source x t.port) (Some (out z))) (sym is) s)),
  )

  pub rebuilt_made : IsMade g left old right new made
  rebuilt_made =
      record {
        new_kinds = λ m c.
            let (x, i, is, at) = found m c in
            ap (λ o. kind_or kind o (if has_name gone (new.name m) then None else g.kind_at (new.name m))) at ∙ ap Some (ties.kinds x i ∙ ap right.kind is);
        new_sources = λ m j c.
            let (x, i, is, at) = found m c in
            let feeder : made.feeder (record { node = new.name m; port = j }) ≡ source x j =
            ap (λ o. source_or source o j (if has_name gone (new.name m) then None else moved out (g.feeder (record { node = new.name m; port = j })))) at in
            subst (Stands g left old right new (right.source m j)) (sym feeder) (subst (λ z. Stands g left old right new (right.source z j) (source x j)) is (ties.sources x j i));
        gone_kinds = λ n c away.
            ap (λ o. kind_or kind o (if has_name gone (old.name n) then None else g.kind_at (old.name n))) (none_new (old.name n) away)
            ∙ ap (λ b. if b then None else g.kind_at (old.name n)) (has_true gone (old.name n) (ties.gone_all n c));
        gone_sources = λ n i c away.
            let p : Port = record { node = old.name n; port = i } in
            ap (λ o. source_or source o i (if has_name gone (old.name n) then None else moved out (g.feeder p))) (none_new (old.name n) away)
            ∙ ap (λ b. if b then None else moved out (g.feeder p)) (has_true gone (old.name n) (ties.gone_all n c));
        kept_kinds = λ n apart away.
            ap (λ o. kind_or kind o (if has_name gone n then None else g.kind_at n)) (none_new n apart) ∙ ap (λ b. if b then None else g.kind_at n) (kept_name n away);
        kept_sources = λ p apart away.
            let feeder : made.feeder p ≡ moved out (g.feeder p) =
            ap (λ o. source_or source o p.port (if has_name gone p.node then None else moved out (g.feeder p))) (none_new p.node apart)
            ∙ ap (λ b. if b then None else moved out (g.feeder p)) (kept_name p.node away) in
            subst (KeptSource g left old right new (g.feeder p)) (sym feeder) (kept (g.feeder p));
      }
