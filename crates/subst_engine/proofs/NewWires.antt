-- The wires of a replaced graph: new ones, one for each input of right, and those between nodes that stay.
use Rattle.std.proofs.Common.{◌≡◌, inl, inr, Bool, true, false, cond, Option, Some, None, refl, sym, ap, subst, ◌∙◌}
use Rattle.std.specs.Prelude.{if◌then◌else◌, option_and_then}
use Rattle.std.specs.FinMap as map
use Rattle.std.proofs.lemmas.Bool.{true≢false, false_from_ne_true, cases_Bool}
use Rattle.std.proofs.lemmas.Option.{none-some, same_Some, option_and_then_some}
use Rattle.components.specs.declared.kind.Kind.{Kind}
use Rattle.components.specs.declared.kind.Kind.TheVariants.{Entry, Exit}
use Rattle.components.specs.Name.{Name, Port}
use Rattle.components.specs.Kind.{Shape}
use Rattle.components.specs.Node.{Body}
use Rattle.components.specs.NamedGraph.{NamedGraph}
use Rattle.circuits.specs.Circuit.{circuit_of, kind_of_body}
use Rattle.circuits.specs.Laws.{ConsumerIsFed, ReplacedGraphIsCircuit}
use Rattle.circuits.specs.Replacing.{is_inner, follow}
use Rattle.circuits.specs.ReplacedGraph.{has_inner, consumer, new_source, kept_source, replaced_graph}
use Rattle.subst_engine.specs.NewWires.{new_target, IsNewWire, CanReplace}
use Rattle.subst_engine.proofs.Ends.{IsInput, of_inner, of_exit, IsOutput, of_entry, input_of, output_of}

module _ (g left right : NamedGraph) (can : CanReplace g left right) where
  -- Wires of left at its Entries and Exits lead to its inner nodes

  -- what feeds an Exit of left is of an inner node
  pub before_exit : (x q : Port) (a : Shape) → map.get left.feeders x ≡ Some q → (circuit_of left).kind_at x.node ≡ Some (Exit a) → has_inner left q.node ≡ true
  before_exit x q a fed_by exit = by (output_of left q x (can.is_rule.old_typed.wires x q fed_by))
    where
      by : IsOutput left q → has_inner left q.node ≡ true
      by (of_inner is) = is
      by (of_entry b is) = absurd (can.is_rule.no_through x q a b fed_by exit is)

  -- what an Entry of left feeds is an input of an inner node
  pub behind_entry : (t r : Port) (b : Shape) → map.get left.feeders t ≡ Some r → (circuit_of left).kind_at r.node ≡ Some (Entry b) → has_inner left t.node ≡ true
  behind_entry t r b fed_by entry = by (input_of left r t (can.is_rule.old_typed.wires t r fed_by))
    where
      by : IsInput left t → has_inner left t.node ≡ true
      by (of_inner is) = is
      by (of_exit a is) = absurd (can.is_rule.no_through t r a b fed_by is entry)

  -- a node of g that is no inner node of left is none of right
  pub not_new : (n : Name) (k : Kind) → (circuit_of g).kind_at n ≡ Some k → has_inner left n ≡ false → has_inner right n ≡ false
  not_new n k found outer = false_from_ne_true (has_inner right n) (λ inner. by (map.get right.nodes n) refl inner)
    where
      by : (o : Option Body) → map.get right.nodes n ≡ o → is_inner (kind_of_body o) ≡ true → ⊥
      by None is inner = true≢false (sym inner)
      by (Some body) is inner = elim (can.matches.new n body.kind (ap kind_of_body is) inner) [
        | inl none ↦ none-some k (sym none ∙ found)
        | inr old ↦ true≢false (sym old ∙ outer)
      ]

  -- Inputs of g that inner nodes of left feed, through the Exits

  -- the input that is fed in g by what feeds an Exit in left is of a node that stays
  pub after_exit : (x q t : Port) (a : Shape) → map.get left.feeders x ≡ Some q → (circuit_of left).kind_at x.node ≡ Some (Exit a) → map.get g.feeders t ≡ Some q → has_inner left t.node ≡ false
  after_exit x q t a fed_by exit feeds = false_from_ne_true (has_inner left t.node) (λ inner.
      let again : map.get left.feeders t ≡ Some q = (can.matches.wires t q inner (before_exit x q a fed_by exit)).0 feeds in
      let same : t ≡ x = can.is_rule.old_typed.once t x q again fed_by in
      true≢false (sym (subst (λ (p : Port). has_inner left p.node ≡ true) same inner) ∙ ap is_inner exit))

  -- what feeds in g an input that an Entry feeds in left is of a node that stays
  pub before_entry : (t r s : Port) (b : Shape) → map.get left.feeders t ≡ Some r → (circuit_of left).kind_at r.node ≡ Some (Entry b) → map.get g.feeders t ≡ Some s → has_inner left s.node ≡ false
  before_entry t r s b fed_by entry feeds = false_from_ne_true (has_inner left s.node) (λ inner.
      let again : map.get left.feeders t ≡ Some s = (can.matches.wires t s (behind_entry t r b fed_by entry) inner).0 feeds in
      let same : s ≡ r = same_Some s r (sym again ∙ fed_by) in
      true≢false (sym (subst (λ (p : Port). has_inner left p.node ≡ true) same inner) ∙ ap is_inner entry))

  -- an Exit of right is one of left
  exit_of_left : (n : Name) (a : Shape) → (circuit_of right).kind_at n ≡ Some (Exit a) → (circuit_of left).kind_at n ≡ Some (Exit a)
  exit_of_left n a = (can.is_rule.ports.exits n a).0

  module _ (fed : ConsumerIsFed) where
    -- Where the new wire of an input enters

    -- at an inner node's own input, or, for an Exit, at the input of a node that stays
    pub data Enters (p : Port) (t : Port) : Type 0 where
      own : has_inner right p.node ≡ true → p ≡ t → Enters p t
      through : (a : Shape) (q : Port) → (circuit_of left).kind_at p.node ≡ Some (Exit a) → map.get left.feeders p ≡ Some q → map.get g.feeders t ≡ Some q → Enters p t

    pub enters : (p r t : Port) → map.get right.feeders p ≡ Some r → new_target g left right p ≡ Some t → Enters p t
    enters p r t wired is = by (input_of right r p (can.is_rule.new_typed.wires p r wired))
      where
        by : IsInput right p → Enters p t
        by (of_inner inner) = own inner (same_Some p t (sym (ap (λ b. cond b (Some p) (option_and_then (consumer g) (map.get left.feeders p))) inner) ∙ is))
        by (of_exit a exit) =
            let outer : has_inner right p.node ≡ false = ap is_inner exit in
            option_and_then_some (consumer g) (map.get left.feeders p) t (sym (ap (λ b. cond b (Some p) (option_and_then (consumer g) (map.get left.feeders p))) outer) ∙ is)
            (λ q before after. through a q (exit_of_left p.node a exit) before ((fed g can.typed t q).1 after))

    -- an input that is none of a new node is of a node that stays
    pub through_stays : (p t q : Port) (a : Shape) → (circuit_of left).kind_at p.node ≡ Some (Exit a) → map.get left.feeders p ≡ Some q → map.get g.feeders t ≡ Some q → (has_inner left t.node ≡ false) × (has_inner right t.node ≡ false)
    through_stays p t q a exit before after =
        let outer = after_exit p q t a before exit after in
        let wire = can.typed.wires t q after in
        (outer, not_new t.node wire.to.kind (ap kind_of_body wire.is_to) outer)

    -- two inputs of right have two targets
    pub one_target : (p r s u t : Port) → map.get right.feeders p ≡ Some r → map.get right.feeders s ≡ Some u → new_target g left right p ≡ Some t → new_target g left right s ≡ Some t → p ≡ s
    one_target p r s u t wired_p wired_s is_p is_s = by (enters p r t wired_p is_p) (enters s u t wired_s is_s)
      where
        apart : (a b : Port) → has_inner right a.node ≡ true → a ≡ t → has_inner right t.node ≡ false → p ≡ s
        apart a b inner same outer = absurd (true≢false (sym (subst (λ (x : Port). has_inner right x.node ≡ true) same inner) ∙ outer))

        by : Enters p t → Enters s t → p ≡ s
        by (own inner_p same_p) (own inner_s same_s) = same_p ∙ sym same_s
        by (own inner_p same_p) (through a q exit before after) = apart p s inner_p same_p (through_stays s t q a exit before after).1
        by (through a q exit before after) (own inner_s same_s) = apart s p inner_s same_s (through_stays p t q a exit before after).1
        by (through a q exit before after) (through b q' exit' before' after') =
            let same : q ≡ q' = same_Some q q' (sym after ∙ after') in
            can.is_rule.old_typed.once p s q before (before' ∙ ap (λ x. Some x) (sym same))

    -- The wires of the replaced graph

    module _ (circuit : ReplacedGraphIsCircuit) where
      abbrev feeder_by : Bool → Bool → Port → Option Port
      feeder_by new old p = if new then new_source g left right (map.get right.feeders p) else (if old then None else kept_source g left right (map.get g.feeders p))

      pub feeder_is : (p : Port) → map.get (replaced_graph g left right).feeders p ≡ feeder_by (has_inner right p.node) (has_inner left p.node) p
      feeder_is p = ap (λ c. c.feeder p) (circuit g left right)

      into_new : (p : Port) → has_inner right p.node ≡ true → map.get (replaced_graph g left right).feeders p ≡ new_source g left right (map.get right.feeders p)
      into_new p inner = feeder_is p ∙ ap (λ b. feeder_by b (has_inner left p.node) p) inner

      into_kept : (p : Port) → has_inner right p.node ≡ false → has_inner left p.node ≡ false → map.get (replaced_graph g left right).feeders p ≡ kept_source g left right (map.get g.feeders p)
      into_kept p not_right not_left = feeder_is p ∙ (λ i. feeder_by (not_right i) (not_left i) p)

      -- what feeds an input of a node that stays, where an inner node of left fed it
      cut : (p q : Port) → map.get g.feeders p ≡ Some q → has_inner left q.node ≡ true → kept_source g left right (map.get g.feeders p) ≡ new_source g left right (follow (circuit_of right) (consumer left q))
      cut p q feeds inner = ap (kept_source g left right) feeds ∙ ap (λ b. if b then new_source g left right (follow (circuit_of right) (consumer left q)) else Some q) inner

      kept : (p q : Port) → map.get g.feeders p ≡ Some q → has_inner left q.node ≡ false → kept_source g left right (map.get g.feeders p) ≡ Some q
      kept p q feeds outer = ap (kept_source g left right) feeds ∙ ap (λ b. if b then new_source g left right (follow (circuit_of right) (consumer left q)) else Some q) outer

      -- a new wire is one of the replaced graph
      pub new_is_wire : (p r : Port) (wire : Port × Port) → map.get right.feeders p ≡ Some r → IsNewWire g left right p wire → map.get (replaced_graph g left right).feeders wire.1 ≡ Some wire.0
      new_is_wire p r wire wired new = by (enters p r wire.1 wired new.target)
        where
          by : Enters p wire.1 → map.get (replaced_graph g left right).feeders wire.1 ≡ Some wire.0
          by (own inner same) = subst (λ x. map.get (replaced_graph g left right).feeders x ≡ Some wire.0) same (into_new p inner ∙ new.source)
          by (through a q exit before after) =
              let stays = through_stays p wire.1 q a exit before after in
              into_kept wire.1 stays.1 stays.0 ∙ cut wire.1 q after (before_exit p q a before exit)
              ∙ ap (λ o. new_source g left right (follow (circuit_of right) o)) ((fed left can.is_rule.old_typed p q).0 before) ∙ new.source

      -- a wire of the replaced graph is a new one, or one between nodes that stay
      pub data Origin (p s : Port) : Type 0 where
        new : (x r : Port) → map.get right.feeders x ≡ Some r → IsNewWire g left right x (s, p) → Origin p s
        old : map.get g.feeders p ≡ Some s → has_inner left p.node ≡ false → has_inner left s.node ≡ false → Origin p s

      pub origin : (p s : Port) → map.get (replaced_graph g left right).feeders p ≡ Some s → Origin p s
      origin p s wired = by (has_inner right p.node) refl (has_inner left p.node) refl
        where
          at_new : has_inner right p.node ≡ true → (o : Option Port) → map.get right.feeders p ≡ o → Origin p s
          at_new inner None is = absurd (none-some s (sym (into_new p inner ∙ ap (new_source g left right) is) ∙ wired))
          at_new inner (Some r) is =
              new p r is (record { source = sym (into_new p inner) ∙ wired; target = ap (λ b. cond b (Some p) (option_and_then (consumer g) (map.get left.feeders p))) inner })

          -- the input of an Exit of left, that an inner node of left feeds
          at_exit : has_inner left p.node ≡ false → (q x : Port) → map.get g.feeders p ≡ Some q → has_inner left q.node ≡ true → map.get left.feeders x ≡ Some q → new_source g left right (map.get right.feeders x) ≡ Some s → IsInput left x → (o : Option Port) → map.get right.feeders x ≡ o → Origin p s
          at_exit outer q x feeds inner before source input None none = absurd (none-some s (sym (ap (new_source g left right) none) ∙ source))
          at_exit outer q x feeds inner before source (of_inner is) (Some r) some =
              let same : x ≡ p = can.typed.once x p q ((can.matches.wires x q is inner).1 before) feeds in
              absurd (true≢false (sym (subst (λ (y : Port). has_inner left y.node ≡ true) same is) ∙ outer))
          at_exit outer q x feeds inner before source (of_exit a is) (Some r) some =
              let not_inner : has_inner right x.node ≡ false = ap is_inner ((can.is_rule.ports.exits x.node a).1 is) in
              new x r some (record {
                source = source;
                target =
                    ap (λ b. cond b (Some x) (option_and_then (consumer g) (map.get left.feeders x))) not_inner
                    ∙ ap (option_and_then (consumer g)) before ∙ (fed g can.typed p q).0 feeds;
              })

          at_cut : has_inner left p.node ≡ false → (q : Port) → map.get g.feeders p ≡ Some q → has_inner left q.node ≡ true → new_source g left right (follow (circuit_of right) (consumer left q)) ≡ Some s → (o : Option Port) → consumer left q ≡ o → Origin p s
          at_cut outer q feeds inner source None none = absurd (none-some s (sym (ap (λ o. new_source g left right (follow (circuit_of right) o)) none) ∙ source))
          at_cut outer q feeds inner source (Some x) some =
              let before : map.get left.feeders x ≡ Some q = (fed left can.is_rule.old_typed x q).1 some in
              at_exit outer q x feeds inner before (sym (ap (λ o. new_source g left right (follow (circuit_of right) o)) some) ∙ source)
              (input_of left q x (can.is_rule.old_typed.wires x q before)) (map.get right.feeders x) refl

          at_kept : has_inner right p.node ≡ false → has_inner left p.node ≡ false → (o : Option Port) → map.get g.feeders p ≡ o → Origin p s
          at_kept not_right not_left None none = absurd (none-some s (sym (into_kept p not_right not_left ∙ ap (kept_source g left right) none) ∙ wired))
          at_kept not_right not_left (Some q) feeds = elim (cases_Bool (has_inner left q.node)) [
            | inl inner ↦ at_cut not_left q feeds inner (sym (cut p q feeds inner) ∙ sym (into_kept p not_right not_left) ∙ wired) (consumer left q) refl
            | inr outer ↦
                let same : q ≡ s = same_Some q s (sym (kept p q feeds outer) ∙ sym (into_kept p not_right not_left) ∙ wired) in
                old (feeds ∙ ap (λ x. Some x) same) not_left (subst (λ (x : Port). has_inner left x.node ≡ false) same outer)
          ]

          by : (b : Bool) → has_inner right p.node ≡ b → (a : Bool) → has_inner left p.node ≡ a → Origin p s
          by true inner a left_is = at_new inner (map.get right.feeders p) refl
          by false not_right true inner = absurd (none-some s (sym (feeder_is p ∙ (λ i. feeder_by (not_right i) (inner i) p)) ∙ wired))
          by false not_right false not_left = at_kept not_right not_left (map.get g.feeders p) refl

      -- a wire between nodes that stay stays
      pub kept_is_wire : (p s : Port) → map.get g.feeders p ≡ Some s → has_inner left p.node ≡ false → has_inner left s.node ≡ false → map.get (replaced_graph g left right).feeders p ≡ Some s
      kept_is_wire p s feeds outer before =
          let wire = can.typed.wires p s feeds in
          into_kept p (not_new p.node wire.to.kind (ap kind_of_body wire.is_to) outer) outer ∙ kept p s feeds before
