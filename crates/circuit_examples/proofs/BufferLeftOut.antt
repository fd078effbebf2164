-- The rule that leaves a Buffer out: it is a rule, matches a Buffer in a row, gives the row without it, and is refused where it should be.
use Rattle.std.proofs.Common.{◌≡◌, ◌≢◌, ℕ, ◌<◌, inl, inr, Bool, true, false, bytes_eq, refl, sym, ap, subst, ◌∙◌, not, ◌||◌, cond, length, List, [], ◌∷◌, Option, Some, None, arith, true≢false}
use Rattle.std.specs.FinMap as map
use Rattle.std.proofs.lemmas.Option.{none-some}
use Rattle.port_types.specs.Shape.{IsShape}
use Rattle.components.specs.declared.kind.Kind.{Kind}
use Rattle.components.specs.declared.kind.Kind.TheVariants.{Entry, Exit, Buffer}
use Rattle.components.specs.Name.{Name, Port, name_cmp, port_cmp}
use Rattle.components.specs.Kind.{Shape}
use Rattle.components.specs.Node.{Body}
use Rattle.components.specs.NamedGraph.{IsTyped, is_of, with_wire, without_node}
use Rattle.components.specs.Lookups.{get_inserted, get_not_inserted, get_removed, get_not_removed, get_retained}
use Rattle.components.specs.Orders.{name_total, name_same, name_cases, port_total, port_same, port_cases, same_bytes}
use Rattle.circuits.specs.Circuit.{Circuit, Typed, circuit_of}
use Rattle.circuits.specs.Refines.{Refines}
use Rattle.circuits.specs.Buffers.{first_port, IsWithoutBuffer}
use Rattle.circuits.specs.Replacing.{is_inner, IsPart}
use Rattle.circuits.specs.ReplacedGraph.{consumer, replaced_graph, Matches, IsRule}
use Rattle.circuits.specs.BufferRule.{bare, straight, buffered}
use Rattle.circuits.specs.Laws.{CircuitIsTyped, GraphIsTyped, ConsumerIsFed, GraphReplacementRefines, DropIsReplacement, GraphDropRefines}
use Rattle.circuit_examples.specs.Listed.{ListedNode, ListedWire}
use Rattle.circuit_examples.specs.LoneWire.{entry_name, exit_name, wire_nodes, wire_wires}
use Rattle.circuit_examples.specs.BufferLeftOut.{first_name, buffer_name, last_name, row, short_row, old_part, new_part, taken_part}
use Rattle.circuit_examples.proofs.Listed.{spelled, is_spelled, kind_in, feeder_in, each_node, each_wire, no_in, no_out, one_in, one_out, other_node, listed_typed, graph_is_typed}
use Rattle.circuit_examples.proofs.LoneWire.{wire_typed}

-- the row of an Entry, a Buffer and an Exit, spelled out
abbrev row_nodes : Name → Name → Name → Shape → List ListedNode
row_nodes entry b exit shape =
    record { name = entry; kind = Entry shape } ∷ record { name = b; kind = Buffer shape } ∷ record { name = exit; kind = Exit shape } ∷ []

abbrev row_wires : Name → Name → Name → List ListedWire
row_wires entry b exit =
    record { source = first_port entry; target = first_port b } ∷ record { source = first_port b; target = first_port exit } ∷ []

abbrev spelled_row : Name → Name → Name → Shape → Circuit
spelled_row entry b exit shape = spelled (row_nodes entry b exit shape) (row_wires entry b exit)

is_row : (entry b exit : Name) (shape : Shape) → circuit_of (buffered entry b exit shape) ≡ spelled_row entry b exit shape
is_row entry b exit shape = is_spelled (row_nodes entry b exit shape) (row_wires entry b exit)

-- what is found in the row, and the lengths of its names
record Found (entry b exit : Name) (shape : Shape) : Type 0 where
  entry_is : kind_in (row_nodes entry b exit shape) entry ≡ Some (Entry shape)
  b_is : kind_in (row_nodes entry b exit shape) b ≡ Some (Buffer shape)
  exit_is : kind_in (row_nodes entry b exit shape) exit ≡ Some (Exit shape)
  b_fed : feeder_in (row_wires entry b exit) (first_port b) ≡ Some (first_port entry)
  exit_fed : feeder_in (row_wires entry b exit) (first_port exit) ≡ Some (first_port b)
  before : entry ≢ b
  after : exit ≢ b
  size : ℕ
  short : (length entry < size) × (length b < size) × (length exit < size)

module _ (entry b exit : Name) (shape : Shape) (f : Found entry b exit shape) where
  abbrev c : Circuit
  c = spelled_row entry b exit shape

  row_circuit : IsShape shape → Typed c
  row_circuit ok =
      listed_typed (row_nodes entry b exit shape) (row_wires entry b exit)
      (record {
        kinds = (ok, (ok, (ok, tt)));
        are_wires = (
          record { to = Buffer shape; from = Entry shape; shape = shape; is_to = f.b_is; is_from = f.entry_is; enters = refl; leaves = refl },
          (record { to = Exit shape; from = Buffer shape; shape = shape; is_to = f.exit_is; is_from = f.b_is; enters = refl; leaves = refl }, tt),
        );
        inputs = (
          no_in c entry (Entry shape) refl,
          (one_in c b (Buffer shape) shape refl (first_port entry) f.b_fed, (one_in c exit (Exit shape) shape refl (first_port b) f.exit_fed, tt)),
        );
        outputs = (
          one_out c entry (Entry shape) shape refl (first_port b) f.b_fed,
          (one_out c b (Buffer shape) shape refl (first_port exit) f.exit_fed, (no_out c exit (Exit shape) refl, tt)),
        );
        once = (
          ((λ e. refl), (other_node _ _ _ _ (λ e. f.before (sym e)), tt)),
          ((other_node _ _ _ _ f.before, ((λ e. refl), tt)), tt),
        );
        size = f.size;
        names = (f.short.0, (f.short.1, (f.short.2, tt)));
      })

  row_typed : GraphIsTyped → IsShape shape → IsTyped (buffered entry b exit shape)
  row_typed law ok = graph_is_typed law (row_nodes entry b exit shape) (row_wires entry b exit) (row_circuit ok)

  -- its one inner node is the Buffer
  inner_is : (n : Name) (k : Kind) → kind_in (row_nodes entry b exit shape) n ≡ Some k → is_inner (Some k) ≡ true → n ≡ b
  inner_is = each_node (λ n k. is_inner (Some k) ≡ true → n ≡ b) (row_nodes entry b exit shape) ((λ i. absurd (true≢false (sym i))), ((λ i. refl), ((λ i. absurd (true≢false (sym i))), tt)))

  inner_name : (n : Name) → is_inner (c.kind_at n) ≡ true → n ≡ b
  inner_name n i = at (c.kind_at n) refl i
    where
      at : (o : Option Kind) → c.kind_at n ≡ o → is_inner o ≡ true → n ≡ b
      at None e j = absurd (true≢false (sym j))
      at (Some k) e j = inner_is n k e j

  -- which is not wired to itself
  no_ring : (p q : Port) → c.feeder p ≡ Some q → p.node ≡ b → q.node ≡ b → ⊥
  no_ring = each_wire (λ p q. p.node ≡ b → q.node ≡ b → ⊥) (row_wires entry b exit) ((λ e g. f.before g), ((λ e g. f.after e), tt))

  no_through : (p q : Port) (x y : Shape) → c.feeder p ≡ Some q → c.kind_at p.node ≡ Some (Exit x) → c.kind_at q.node ≡ Some (Entry y) → ⊥
  no_through p q x y e =
      each_wire (λ p q. (x y : Shape) → c.kind_at p.node ≡ Some (Exit x) → c.kind_at q.node ≡ Some (Entry y) → ⊥) (row_wires entry b exit)
      ((λ x y to from. absurd (true≢false (ap is_inner (sym f.b_is ∙ to)))), ((λ x y to from. absurd (true≢false (ap is_inner (sym f.b_is ∙ from)))), tt)) p q e x y

  -- without it, the Entry is wired to the Exit
  abbrev nodes_left : map.FinMap name_cmp Body
  nodes_left = map.insert map.empty exit (bare (Exit shape))

  abbrev nodes_both : map.FinMap name_cmp Body
  nodes_both = map.insert nodes_left b (bare (Buffer shape))

  node_left : (n : Name) → map.get (straight entry exit shape).nodes n ≡ map.get (map.remove (buffered entry b exit shape).nodes b) n
  node_left n =
      elim (name_cases n b) [
        | inl is ↦
            get_not_inserted name_total name_same nodes_left entry (bare (Entry shape)) n (λ e. f.before (sym e ∙ is))
            ∙ get_not_inserted name_total name_same map.empty exit (bare (Exit shape)) n (λ e. f.after (sym e ∙ is)) ∙ map.get-empty name_cmp n
            ∙ sym (ap (map.get (map.remove (buffered entry b exit shape).nodes b)) is ∙ get_removed name_total name_same (buffered entry b exit shape).nodes b)
        | inr other ↦ elim (name_cases n entry) [
          | inl is ↦
              get_inserted name_total name_same nodes_left entry (bare (Entry shape)) n is
              ∙ sym (get_not_removed name_total name_same (buffered entry b exit shape).nodes b n other ∙ get_inserted name_total name_same nodes_both entry (bare (Entry shape)) n is)
          | inr no_entry ↦
              get_not_inserted name_total name_same nodes_left entry (bare (Entry shape)) n no_entry
              ∙ sym (get_not_removed name_total name_same (buffered entry b exit shape).nodes b n other
              ∙ get_not_inserted name_total name_same nodes_both entry (bare (Entry shape)) n no_entry
              ∙ get_not_inserted name_total name_same nodes_left b (bare (Buffer shape)) n other)
        ]
      ]

  abbrev wires_left : map.FinMap port_cmp Port
  wires_left = map.insert map.empty (first_port exit) (first_port b)

  abbrev keeps : Port → Bool
  keeps p = not (is_of b (Some p) || is_of b (map.get (buffered entry b exit shape).feeders p))

  kept_none : (t : Bool) → cond {A = Option Port} t None None ≡ None
  kept_none true = refl
  kept_none false = refl

  none_kept : (p : Port) → p ≢ first_port exit → cond (keeps p) (map.get (buffered entry b exit shape).feeders p) None ≡ None
  none_kept p other =
      elim (port_cases p (first_port b)) [
        | inl is ↦
            ap (λ t. cond (not (t || is_of b (map.get (buffered entry b exit shape).feeders p))) (map.get (buffered entry b exit shape).feeders p) None)
            (same_bytes p.node b (ap (λ (q : Port). q.node) is))
        | inr no_b ↦
            ap (λ o. cond (keeps p) o None)
            (get_not_inserted port_total port_same wires_left (first_port b) (first_port entry) p no_b
            ∙ get_not_inserted port_total port_same map.empty (first_port exit) (first_port b) p other ∙ map.get-empty port_cmp p)
            ∙ kept_none (keeps p)
      ]

  wire_left : (p : Port) → map.get (straight entry exit shape).feeders p ≡ map.get (with_wire (without_node (buffered entry b exit shape) b) (first_port entry) (first_port exit)).feeders p
  wire_left p =
      elim (port_cases p (first_port exit)) [
        | inl is ↦
            get_inserted port_total port_same map.empty (first_port exit) (first_port entry) p is
            ∙ sym (get_inserted port_total port_same (without_node (buffered entry b exit shape) b).feeders (first_port exit) (first_port entry) p is)
        | inr other ↦
            get_not_inserted port_total port_same map.empty (first_port exit) (first_port entry) p other ∙ map.get-empty port_cmp p
            ∙ sym (get_not_inserted port_total port_same (without_node (buffered entry b exit shape) b).feeders (first_port exit) (first_port entry) p other
            ∙ get_retained port_total port_same (buffered entry b exit shape).feeders keeps p ∙ none_kept p other)
      ]

  b_in_row : (circuit_of (buffered entry b exit shape)).kind_at b ≡ Some (Buffer shape)
  b_in_row = ap (λ (d : Circuit). d.kind_at b) (is_row entry b exit shape) ∙ f.b_is

  without_b : IsWithoutBuffer (straight entry exit shape) (buffered entry b exit shape) b
  without_b =
      let nodes = map.same_map name_total name_same (straight entry exit shape).nodes (map.remove (buffered entry b exit shape).nodes b) node_left in
      let feeders = map.same_map port_total port_same (straight entry exit shape).feeders (with_wire (without_node (buffered entry b exit shape) b) (first_port entry) (first_port exit)).feeders wire_left in
      record {
        can = record {
          kind = Buffer shape;
          is_kind = b_in_row;
          passes = tt;
          before = first_port entry;
          is_before = ap (λ (d : Circuit). d.feeder (first_port b)) (is_row entry b exit shape) ∙ f.b_fed;
          other = f.before;
        };
        target = first_port exit;
        after = ap (λ (d : Circuit). d.feeder (first_port exit)) (is_row entry b exit shape) ∙ f.exit_fed;
        is = λ i. record { nodes = nodes i; feeders = feeders i };
      }

  -- the same of its circuit
  inner_in_row : (n : Name) → is_inner ((circuit_of (buffered entry b exit shape)).kind_at n) ≡ true → n ≡ b
  inner_in_row n i = inner_name n (ap (λ (d : Circuit). is_inner (d.kind_at n)) (sym (is_row entry b exit shape)) ∙ i)

  no_ring_in_row : (p q : Port) → map.get (buffered entry b exit shape).feeders p ≡ Some q → p.node ≡ b → q.node ≡ b → ⊥
  no_ring_in_row p q e = no_ring p q (ap (λ (d : Circuit). d.feeder p) (sym (is_row entry b exit shape)) ∙ e)

  no_through_in_row : (p q : Port) (x y : Shape) → map.get (buffered entry b exit shape).feeders p ≡ Some q →
      (circuit_of (buffered entry b exit shape)).kind_at p.node ≡ Some (Exit x) → (circuit_of (buffered entry b exit shape)).kind_at q.node ≡ Some (Entry y) → ⊥
  no_through_in_row p q x y e to from =
      let same = sym (is_row entry b exit shape) in
      no_through p q x y (ap (λ (d : Circuit). d.feeder p) same ∙ e) (ap (λ (d : Circuit). d.kind_at p.node) same ∙ to) (ap (λ (d : Circuit). d.kind_at q.node) same ∙ from)

-- the rows of the example
differ : (n m : Name) → bytes_eq n m ≡ false → n ≢ m
differ n m test is = absurd (true≢false (sym (same_bytes n m is) ∙ test))

module _ (shape : Shape) where
  row_found : Found first_name buffer_name last_name shape
  row_found =
      record {
        entry_is = refl;
        b_is = refl;
        exit_is = refl;
        b_fed = refl;
        exit_fed = refl;
        before = differ first_name buffer_name refl;
        after = differ last_name buffer_name refl;
        size = 4;
        short = (omega arith, omega arith, omega arith);
      }

  old_found : Found entry_name buffer_name exit_name shape
  old_found =
      record {
        entry_is = refl;
        b_is = refl;
        exit_is = refl;
        b_fed = refl;
        exit_fed = refl;
        before = differ entry_name buffer_name refl;
        after = differ exit_name buffer_name refl;
        size = 4;
        short = (omega arith, omega arith, omega arith);
      }

  pub left_out_is_rule : GraphIsTyped → GraphDropRefines → IsShape shape → IsRule (old_part shape) (new_part shape)
  left_out_is_rule typed drop ok =
      let old = row_typed entry_name buffer_name exit_name shape old_found typed ok in
      record {
        old_typed = old;
        new_typed = wire_typed typed shape ok;
        ports = (drop (new_part shape) (old_part shape) buffer_name old (without_b entry_name buffer_name exit_name shape old_found)).ports;
        no_through = no_through_in_row entry_name buffer_name exit_name shape old_found;
      }

  no_inner : (n : Name) (k : Kind) → (circuit_of (new_part shape)).kind_at n ≡ Some k → is_inner (Some k) ≡ true → ⊥
  no_inner n k e =
      each_node (λ m j. is_inner (Some j) ≡ true → ⊥) (wire_nodes shape) ((λ i. absurd (true≢false (sym i))), ((λ i. absurd (true≢false (sym i))), tt)) n k
      (ap (λ (d : Circuit). d.kind_at n) (sym (is_spelled (wire_nodes shape) wire_wires)) ∙ e)

  pub left_out_matches : Matches (row shape) (old_part shape) (new_part shape)
  left_out_matches =
      record {
        nodes = λ n i.
            let is = inner_in_row entry_name buffer_name exit_name shape old_found n i in
            ap (circuit_of (row shape)).kind_at is ∙ b_in_row first_name buffer_name last_name shape row_found
            ∙ sym (ap (circuit_of (old_part shape)).kind_at is ∙ b_in_row entry_name buffer_name exit_name shape old_found);
        wires = λ p q ip iq.
            let p_is = inner_in_row entry_name buffer_name exit_name shape old_found p.node ip in
            let q_is = inner_in_row entry_name buffer_name exit_name shape old_found q.node iq in (
              (λ e. absurd (no_ring_in_row first_name buffer_name last_name shape row_found p q e p_is q_is)),
              (λ e. absurd (no_ring_in_row entry_name buffer_name exit_name shape old_found p q e p_is q_is)),
            );
        new = λ n k e i. absurd (no_inner n k e i);
      }

  pub old_part_is_part : CircuitIsTyped → GraphIsTyped → ConsumerIsFed → IsShape shape → IsPart (circuit_of (row shape)) (circuit_of (old_part shape)) (consumer (old_part shape))
  old_part_is_part circuit graph law ok =
      let old = row_typed entry_name buffer_name exit_name shape old_found graph ok in
      record {
        whole = circuit (row shape) (row_typed first_name buffer_name last_name shape row_found graph ok);
        part = circuit (old_part shape) old;
        target_is = law (old_part shape) old;
        nodes = λ n k e i. left_out_matches.nodes n (ap is_inner e ∙ i) ∙ e;
        wires = left_out_matches.wires;
        no_through = no_through_in_row entry_name buffer_name exit_name shape old_found;
      }

  pub left_out_gives : GraphIsTyped → DropIsReplacement → IsShape shape → replaced_graph (row shape) (old_part shape) (new_part shape) ≡ short_row shape
  unfolding without_b
  left_out_gives typed law ok =
      sym (law (short_row shape) (row shape) entry_name buffer_name exit_name shape old_found.before old_found.after
      (row_typed first_name buffer_name last_name shape row_found typed ok) (without_b first_name buffer_name last_name shape row_found))

  pub left_out_refines : GraphIsTyped → GraphDropRefines → DropIsReplacement → GraphReplacementRefines → IsShape shape → Refines (circuit_of (short_row shape)) (circuit_of (row shape))
  left_out_refines typed drop is_replacement law ok =
      subst (λ h. Refines (circuit_of h) (circuit_of (row shape))) (left_out_gives typed is_replacement ok)
      (law (row shape) (old_part shape) (new_part shape) (row_typed first_name buffer_name last_name shape row_found typed ok) (left_out_is_rule typed drop ok) left_out_matches
      (drop (new_part shape) (old_part shape) buffer_name (row_typed entry_name buffer_name exit_name shape old_found typed ok)
      (without_b entry_name buffer_name exit_name shape old_found)))

  -- refused
  shape_of : Option Kind → Shape
  shape_of (Some (Buffer x)) = x
  shape_of _ = []

  other_kind : (other : Shape) → other ≢ shape → (circuit_of (row shape)).kind_at buffer_name ≡ (circuit_of (old_part other)).kind_at buffer_name → ⊥
  unfolding shape_of
  other_kind other apart e =
      apart (sym (ap shape_of (sym (b_in_row first_name buffer_name last_name shape row_found) ∙ e ∙ ap (λ (d : Circuit). d.kind_at buffer_name) (is_row entry_name buffer_name exit_name other))))

  buffer_is : (other : Shape) → (circuit_of (old_part other)).kind_at buffer_name ≡ Some (Buffer other)
  buffer_is other = ap (λ (d : Circuit). d.kind_at buffer_name) (is_row entry_name buffer_name exit_name other)

  pub other_shape_refused : (other : Shape) → other ≢ shape → Matches (row shape) (old_part other) (new_part other) → ⊥
  other_shape_refused other apart m = other_kind other apart (m.nodes buffer_name (ap is_inner (buffer_is other)))

  pub other_shape_no_part : (other : Shape) (target : Port → Option Port) → other ≢ shape → IsPart (circuit_of (row shape)) (circuit_of (old_part other)) target → ⊥
  other_shape_no_part other target apart p = other_kind other apart (p.nodes buffer_name (Buffer other) (buffer_is other) refl ∙ sym (buffer_is other))

  pub taken_name_refused : Matches (row shape) (old_part shape) (taken_part shape) → ⊥
  taken_name_refused m =
      elim (m.new first_name (Buffer shape) (ap (λ (d : Circuit). d.kind_at first_name) (is_row entry_name first_name exit_name shape)) refl) [
        | inl none ↦ none-some (Entry shape) (sym none ∙ ap (λ (d : Circuit). d.kind_at first_name) (is_row first_name buffer_name last_name shape))
        | inr inner ↦ true≢false (sym inner ∙ ap (λ (d : Circuit). is_inner (d.kind_at first_name)) (is_row entry_name buffer_name exit_name shape))
      ]
