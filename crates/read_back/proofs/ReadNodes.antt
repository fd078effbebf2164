-- What a graph that is read has at each node.
use Rattle.std.proofs.Common.{◌≡◌, ℕ, ◌+◌, ◌<◌, ◌^◌, Bool, true, false, cond, not, ◌&&◌, List, [], ◌∷◌, ◌++◌, length, map, Option, Some, None, Result, Ok, Err, codes, refl, sym, ap, subst, ◌∙◌, arith}
use Rattle.std.specs.Prelude.{nat_lt, nat_le, bytes_eq}
use Rattle.std.specs.List.{AllByRecursion, list_any, list_all}
use Rattle.std.specs.Str.Parse.{digits_value}
use Rattle.std.specs.Option.{option_or}
use Rattle.std.specs.Str.{IsUtf8}
use Rattle.std.specs.FinMap as map_of
use Rattle.std.proofs.lemmas.Slice.Eq.{bytes_eq-Decides}
use Rattle.std.proofs.lemmas.Bool.{ltb-true}
use Rattle.std.proofs.lemmas.Option.{none-some, same_Some, cond_some}
use Rattle.std.proofs.lemmas.List.{length-map}
use Rattle.std.proofs.lemmas.List.Elements.{recursion_from_All, All-from_recursion, All-nil}
use Rattle.port_types.specs.Shape.{IsShape}
use Rattle.port_types.specs.declared.port.Port.{Port}
use Rattle.port_types.specs.declared.port.PortFault.{PortFault}
use Rattle.port_types.specs.declared.side.Side.{Side}
use Rattle.port_types.specs.declared.side.Side.TheVariants.{Ins, Outs}
use Rattle.port_types.specs.PortText.{side_word}
use Rattle.port_types.specs.PortGrammar.{reading, text_behind}
use Rattle.port_types.specs.PortLaws.{ArePorts, ReadsPorts}
use Rattle.dot_text.specs.declared.doc.Doc.{Doc}
use Rattle.dot_text.specs.Printing.{CanBeQuoted, PairPrints, NodePrints}
use Rattle.dot_text.specs.Texts.{PairTexts, NodeTexts}
use Rattle.dot_text.specs.declared.doc.DocNode.{DocNode}
use Rattle.dot_text.specs.declared.doc.DocEdge.{DocEdge}
use Rattle.port_types.specs.Numeral.{in_word, digits_of}
use Rattle.components.specs.declared.kind.Kind.{Kind}
use Rattle.components.specs.declared.kind.Kind.TheVariants.{Constant}
use Rattle.components.specs.Name.{Name, name_cmp}
use Rattle.components.specs.Kind.{Shape}
use Rattle.components.specs.Node.{Body, is_owned, kept_of}
use Rattle.components.specs.NamedGraph.{NamedGraph, with_wire}
use Rattle.graph_read.specs.declared.fault.GraphFaultKind.{GraphFaultKind}
use Rattle.graph_read.specs.declared.fault.GraphFaultKind.TheVariants.{BadName, NameTaken, MemoryNode, MemoryPort, UnknownKind, TooMany}
use Rattle.graph_read.specs.declared.fault.GraphRefusal.{GraphRefusal}
use Rattle.graph_read.specs.Attributes.{Pair, last_value, value_behind}
use Rattle.components.specs.Component.{component_of}
use Rattle.graph_read.specs.Rows.{Reading}
use Rattle.graph_read.specs.NodeReading.{NodeReading, is_memory, is_name, shapes_in, text_reading, side_reading, ports_reading, component_reading, named_reading, word_reading, kind_reading, with_kept, body_reading, within_limit, node_reading}
use Rattle.graph_read.specs.GraphReading.{refusal, graph_reading, NamedWire, NodesReading, GraphReading, then_read, names_of, nodes_reading, edge_reading, edges_reading, first_open, graph_of_nodes, unless, closed, wired}
use Rattle.graph_read.specs.Laws.{AreRead, RowsAreMet, Says}
use Rattle.read_back.specs.CanonicalReading.{ValueFits, ReadFits}
use Rattle.read_back.specs.CanonicalTexts.{KeptTexts, ReadTexts}
use Rattle.components.specs.Lookups.{found_if}
use Rattle.components.specs.Orders.{name_total, name_same}
use Rattle.read_back.proofs.Each.{each_append, each_mapped, each_changed}
use Rattle.components.specs.Entries.{found_entry}
use Rattle.read_back.proofs.PairsBack.{in_reverse}

-- ---- answers

pub same_answer : {A E : Type 0} (x y : A) → ◌≡◌ {A = Result A E} (Ok x) (Ok y) → x ≡ y
same_answer x y e = cc

refused : {A E P : Type 0} (fault : E) (x : A) → ◌≡◌ {A = Result A E} (Err fault) (Ok x) → P
refused fault x e = absurd (cc)

unless_refused : {A E : Type 0} (b : Bool) (fault : E) (read : Result A E) (x : A) → cond b (Err fault) read ≡ Ok x → read ≡ Ok x
unless_refused true fault read x e = refused fault x e
unless_refused false fault read x e = e

-- ---- the value of a Constant

word_fits : (number value : ℕ) → in_word number ≡ Some value → value < 2 ^ 64
word_fits number value e =
    let parts = cond_some (nat_lt number (2 ^ 64)) number value e in
    subst (λ (n : ℕ). n < 2 ^ 64) parts.1 (ltb-true number (2 ^ 64) parts.0)

digits_fit : (is_digit : ℕ → Bool) (base : ℕ) (digits : List ℕ) (value : ℕ) → digits_of is_digit base digits ≡ Some value → value < 2 ^ 64
digits_fit is_digit base digits value e =
    let number = digits_value base digits in
    let are = nat_le 1 (length digits) && list_all is_digit digits in
    word_fits number value (found_if are (in_word number) value e).1

behind_fits : (digits : Option (List ℕ)) (text : List ℕ) (value : ℕ) → value_behind digits text ≡ Some value → value < 2 ^ 64
behind_fits None text value e = digits_fit _ 10 text value e
behind_fits (Some digits) text value e = digits_fit _ 16 digits value e

said_fits : (kind : Kind) (pairs : List Pair) → Says kind pairs → ValueFits kind
said_fits (Constant shape width value) pairs says = behind_fits (text_behind (codes "0x") says.0) says.0 value says.2
said_fits kind pairs says = tt

-- ---- what is kept of pairs

kept_is : (body : Body) (pairs : List Pair) → body.kept ≡ kept_of body.kind pairs → (key : List ℕ) → map_of.get body.kept key ≡ cond (is_owned body.kind key) None (last_value key pairs)
kept_is body pairs is key =
    ap (λ (m : map_of.FinMap name_cmp (List ℕ)). map_of.get m key) is ∙ map_of.get-from_entries name_total _ key ∙ in_reverse body.kind key pairs

where_free : (owned : Bool) (o : Option (List ℕ)) (value : List ℕ) → cond owned None o ≡ Some value → o ≡ Some value
where_free true o value e = absurd (none-some value e)
where_free false o value e = e

module _ (P : List ℕ → Type 0) (IsSo : Pair → Type 0) (texts : (pair : Pair) → IsSo pair → P pair.0 × P pair.1) (key value : List ℕ) where
  at_last : (later : Option (List ℕ)) (pair : Pair) (test : Bool) → bytes_eq pair.0 key ≡ test → IsSo pair → (later ≡ Some value → P key × P value) →
      option_or later (cond test (Some pair.1) None) ≡ Some value → P key × P value
  at_last (Some found) pair test is so behind e = behind e
  at_last None pair true is so behind e = (subst P ((bytes_eq-Decides pair.0 key).0 is) (texts pair so).0, subst P (same_Some pair.1 value e) (texts pair so).1)
  at_last None pair false is so behind e = absurd (none-some value e)

  last_is_so : (pairs : List Pair) → AllByRecursion IsSo pairs → last_value key pairs ≡ Some value → P key × P value
  last_is_so [] each e = absurd (none-some value e)
  last_is_so (pair ∷ pairs) each e = at_last (last_value key pairs) pair (bytes_eq pair.0 key) refl each.0 (last_is_so pairs each.1) e

-- ---- statements

each_known : (nodes : List DocNode) → AllByRecursion (λ node. Unit {0}) nodes
each_known [] = tt
each_known (node ∷ nodes) = (tt, each_known nodes)

-- the test of the place lets the node through
at_most : (few : Bool) (found body : Body) → cond few (Ok found) (Err TooMany) ≡ Ok body → ◌≡◌ {A = NodeReading} (Ok found) (Ok body)
at_most true found body e = e
at_most false found body e = refused TooMany body e

-- ---- edges keep the nodes

wires_keep : (place : ℕ) (name : Name) (read : Result NamedWire GraphFaultKind) (more : NamedWire → GraphReading) (h g : NamedGraph) →
    ((wire : NamedWire) → more wire ≡ Ok g → g.nodes ≡ h.nodes) → then_read place name read more ≡ Ok g → g.nodes ≡ h.nodes
wires_keep place name (Err fault) more h g p e = refused (refusal fault place name) g e
wires_keep place name (Ok wire) more h g p e = p wire e

edges_keep : (h : NamedGraph) (place : ℕ) (edges : List DocEdge) (g : NamedGraph) → edges_reading h place edges ≡ Ok g → g.nodes ≡ h.nodes
edges_keep h place [] g e = ap (λ (k : NamedGraph). k.nodes) (sym (same_answer h g e))
edges_keep h place (edge ∷ edges) g e =
    wires_keep place edge.target (edge_reading h edge) (λ wire. edges_reading (with_wire h wire.source wire.target) (place + 1) edges) h g
    (λ wire is. edges_keep (with_wire h wire.source wire.target) (place + 1) edges g is) e

unless_is : (h g : NamedGraph) (open_port : Option GraphRefusal) → unless h open_port ≡ Ok g → h ≡ g
unless_is h g None e = same_answer h g e
unless_is h g (Some fault) e = refused fault g e

-- ---- the kind of a node

module _ (says_ports : ReadsPorts) (rows : RowsAreMet) where
  shapes_read : (side : Side) (text : List ℕ) (read : Result (List Port) PortFault) (shapes : List Shape) → reading side text ≡ read → shapes_in read ≡ Ok shapes → AreRead shapes
  shapes_read side text (Err fault) shapes is e = refused _ shapes e
  shapes_read side text (Ok ports) shapes is e =
      let are : ArePorts ports = ((says_ports side text ports).0 is).1 in
      let each = each_mapped (λ port. IsShape port.shape) IsShape (λ port. port.shape) (λ port right. right) ports (recursion_from_All (λ port. IsShape port.shape) ports are.shapes) in
      subst AreRead (same_answer (map (λ port. port.shape) ports) shapes e)
      (record { few = omega (arith, are.few, length-map ports (λ port. port.shape)); each = All-from_recursion IsShape (map (λ port. port.shape) ports) each })

  side_read : (side : Side) (text : Option (List ℕ)) (shapes : List Shape) → text_reading side text ≡ Ok shapes → AreRead shapes
  side_read side None shapes e = subst AreRead (same_answer [] shapes e) (record { few = omega arith; each = All-nil IsShape })
  side_read side (Some text) shapes e = shapes_read side text (reading side text) shapes refl e

  module _ (pairs : List Pair) (kind : Kind) where
    ports_say : (component : _) (given fed : Result (List Shape) GraphFaultKind) → ((shapes : List Shape) → given ≡ Ok shapes → AreRead shapes) →
        ((shapes : List Shape) → fed ≡ Ok shapes → AreRead shapes) → ports_reading component given fed pairs ≡ Ok kind → Says kind pairs
    ports_say component (Err fault) fed p q e = refused fault kind e
    ports_say component (Ok given) (Err fault) p q e = refused fault kind e
    ports_say component (Ok given) (Ok fed) p q e = ((rows component given fed pairs kind (p given refl) (q fed refl)).0 e).says

    component_says : (component : _) → component_reading component pairs ≡ Ok kind → Says kind pairs
    component_says component e =
        ports_say component (side_reading Ins pairs) (side_reading Outs pairs) (side_read Ins (last_value (side_word Ins) pairs)) (side_read Outs (last_value (side_word Outs) pairs))
        (unless_refused _ MemoryPort _ kind e)

    no_word : (b : Bool) → cond b (Err MemoryNode) (Err UnknownKind) ≡ Ok kind → Says kind pairs
    no_word true e = refused MemoryNode kind e
    no_word false e = refused UnknownKind kind e

    named_says : (word : List ℕ) (component : Option _) → named_reading word component pairs ≡ Ok kind → Says kind pairs
    named_says word None e = no_word (is_memory word) e
    named_says word (Some component) e = component_says component e

    word_says : (word : Option (List ℕ)) → word_reading word pairs ≡ Ok kind → Says kind pairs
    word_says None e = refused _ kind e
    word_says (Some word) e = named_says word (component_of word) e

  -- ---- the body of a node

  -- with what is known of the pairs of each statement
  module _ (Known : List Pair → Type 0) where
    -- its value fits, and it keeps what some known pairs say
    abbrev BodyFits : Body → Type 0
    BodyFits body = ValueFits body.kind × ((pairs : List Pair) × Known pairs × (body.kept ≡ kept_of body.kind pairs))

    kept_fits : (pairs : List Pair) → Known pairs → (read : Reading) (body : Body) → kind_reading pairs ≡ read → with_kept pairs read ≡ Ok body → BodyFits body
    kept_fits pairs known (Err fault) body is e = refused fault body e
    kept_fits pairs known (Ok kind) body is e =
        subst BodyFits (same_answer (record { kind = kind; kept = kept_of kind pairs }) body e)
        (said_fits kind pairs (word_says pairs kind (last_value (codes "type") pairs) is), (pairs, known, refl))

    within_fits : (pairs : List Pair) → Known pairs → (read : NodeReading) (body : Body) → body_reading pairs ≡ read → (place : ℕ) → within_limit place read ≡ Ok body → BodyFits body
    within_fits pairs known (Err fault) body is place e = refused fault body e
    within_fits pairs known (Ok found) body is place e = kept_fits pairs known (kind_reading pairs) body refl (is ∙ at_most (nat_le place 65536) found body e)

    node_fits : (names : List Name) (place : ℕ) (node : DocNode) → Known node.pairs → (body : Body) → node_reading names place node ≡ Ok body → BodyFits body
    node_fits names place node known body e =
        within_fits node.pairs known (body_reading node.pairs) body refl place
        (unless_refused (list_any (bytes_eq node.name) names) NameTaken (within_limit place (body_reading node.pairs)) body
        (unless_refused (not (is_name node.name)) BadName (cond (list_any (bytes_eq node.name) names) (Err NameTaken) (within_limit place (body_reading node.pairs))) body e))

    -- ---- all nodes

    abbrev NodesFit : List (Name × Body) → Type 0
    NodesFit nodes = AllByRecursion (λ node. BodyFits node.1) nodes

    more_fit : (place : ℕ) (name : Name) (read : NodeReading) (more : Body → NodesReading) (nodes : List (Name × Body)) → ((body : Body) → read ≡ Ok body → BodyFits body) →
        ((body : Body) → BodyFits body → more body ≡ Ok nodes → NodesFit nodes) → then_read place name read more ≡ Ok nodes → NodesFit nodes
    more_fit place name (Err fault) more nodes p q e = refused (refusal fault place name) nodes e
    more_fit place name (Ok body) more nodes p q e = q body (p body refl) e

    nodes_fit : (before : List (Name × Body)) (place : ℕ) (statements : List DocNode) → AllByRecursion (λ node. Known node.pairs) statements → NodesFit before → (nodes : List (Name × Body)) →
        nodes_reading before place statements ≡ Ok nodes → NodesFit nodes
    nodes_fit before place [] known fit nodes e = subst NodesFit (same_answer before nodes e) fit
    nodes_fit before place (node ∷ statements) known fit nodes e =
        more_fit place node.name (node_reading (names_of before) place node) (λ body. nodes_reading (before ++ (node.name, body) ∷ []) (place + 1) statements) nodes
        (node_fits (names_of before) place node known.0)
        (λ body also. nodes_fit (before ++ (node.name, body) ∷ []) (place + 1) statements known.1 (each_append (λ entry. BodyFits entry.1) before ((node.name, body) ∷ []) fit (also, tt)) nodes) e

    -- ---- the whole

    GraphFits : NamedGraph → Type 0
    GraphFits g = (name : Name) (body : Body) → map_of.get g.nodes name ≡ Some body → BodyFits body

    fits_from : (g : NamedGraph) (nodes : List (Name × Body)) → g.nodes ≡ map_of.from_entries nodes → NodesFit nodes → GraphFits g
    unfolding GraphFits
    fits_from g nodes are fit name body there =
        found_entry name_total name_same (λ node. BodyFits node.1) nodes fit name body
        (sym (map_of.get-from_entries name_total nodes name) ∙ ap (λ (m : map_of.FinMap name_cmp Body). map_of.get m name) (sym are) ∙ there)

    closed_fits : (nodes : List (Name × Body)) (edges : List DocEdge) (read : GraphReading) (g : NamedGraph) → NodesFit nodes → edges_reading (graph_of_nodes nodes) 1 edges ≡ read →
        closed nodes read ≡ Ok g → GraphFits g
    closed_fits nodes edges (Err fault) g fit is e = refused fault g e
    closed_fits nodes edges (Ok h) g fit is e =
        subst GraphFits (unless_is h g (first_open h 1 nodes) e) (fits_from h nodes (edges_keep (graph_of_nodes nodes) 1 edges h is) fit)

    wired_fits : (edges : List DocEdge) (read : NodesReading) (g : NamedGraph) → ((nodes : List (Name × Body)) → read ≡ Ok nodes → NodesFit nodes) → wired edges read ≡ Ok g → GraphFits g
    wired_fits edges (Err fault) g fit e = refused fault g e
    wired_fits edges (Ok nodes) g fit e = closed_fits nodes edges (edges_reading (graph_of_nodes nodes) 1 edges) g (fit nodes refl) refl e

    graph_fits : (doc : Doc) (g : NamedGraph) → AllByRecursion (λ node. Known node.pairs) doc.nodes → graph_reading doc ≡ Ok g →
        (name : Name) (body : Body) → map_of.get g.nodes name ≡ Some body → BodyFits body
    unfolding GraphFits
    graph_fits doc g known e = wired_fits doc.edges (nodes_reading [] 1 doc.nodes) g (nodes_fit [] 1 doc.nodes known tt) e

  -- ---- values and keys

  pub read_fits : ReadFits
  read_fits doc g e =
      let fits = graph_fits (λ pairs. Unit {0}) doc g (each_known doc.nodes) e in (
        λ name body there. (fits name body there).0,
        λ name body key value there kept owned.
            let read = (fits name body there).1 in
            none-some value (sym (kept_is body read.0 read.2 key ∙ ap (λ (b : Bool). cond b None (last_value key read.0)) owned) ∙ kept),
      )

  -- ---- texts

  kept_texts : (P : List ℕ → Type 0) (IsSo : Pair → Type 0) → ((pair : Pair) → IsSo pair → P pair.0 × P pair.1) → (doc : Doc) (g : NamedGraph) →
      AllByRecursion (λ node. AllByRecursion IsSo node.pairs) doc.nodes → graph_reading doc ≡ Ok g → KeptTexts P g
  kept_texts P IsSo texts doc g each e name body key value there kept =
      let read = (graph_fits (AllByRecursion IsSo) doc g each e name body there).1 in
      last_is_so P IsSo texts key value read.0 read.1 (where_free (is_owned body.kind key) (last_value key read.0) value (sym (kept_is body read.0 read.2 key) ∙ kept))

  pub read_texts : ReadTexts
  read_texts doc g e = (
    λ prints. kept_texts CanBeQuoted PairPrints (λ pair h. (h.key, h.value)) doc g (each_changed NodePrints (λ node. AllByRecursion PairPrints node.pairs) (λ node h. h.pairs) doc.nodes prints.nodes) e,
    λ texts. kept_texts IsUtf8 (PairTexts IsUtf8) (λ pair h. h) doc g (each_changed (NodeTexts IsUtf8) (λ node. AllByRecursion (PairTexts IsUtf8) node.pairs) (λ node h. h.1) doc.nodes texts.0) e,
  )
