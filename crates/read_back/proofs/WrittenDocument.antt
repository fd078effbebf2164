-- All texts of a canonical document can be written.
use Rattle.std.proofs.Common.{◌≡◌, ℕ, zero, suc, ◌<◌, ◌≤◌, ◌^◌, true, List, [], ◌∷◌, ◌++◌, length, Some, codes, refl, ◌∙◌, arith}
use Rattle.std.specs.List.{AllByRecursion}
use Rattle.std.specs.Str.{IsUtf8}
use Rattle.std.specs.FinMap as map_of
use Rattle.std.proofs.lemmas.Bool.{ne_eqb}
use Rattle.std.proofs.lemmas.List.Elements.{recursion_from_All}
use Rattle.op_table.specs.Operator.{graph_word}
use Rattle.port_types.specs.declared.side.Side.{Side}
use Rattle.port_types.specs.declared.side.Side.TheVariants.{Ins, Outs}
use Rattle.port_types.specs.PortText.{side_word, port_name, marked_ports_text}
use Rattle.port_types.specs.PortLaws.{ArePorts}
use Rattle.dot_text.specs.Lexical.{is_plain, Quotes, Quotes.nothing, Quotes.plain}
use Rattle.dot_text.specs.Grammar.{Pair}
use Rattle.dot_text.specs.Printing.{CanBeQuoted, PairPrints, NodePrints, EdgePrints, DocPrints}
use Rattle.dot_text.specs.Texts.{PairTexts, NodeTexts, EdgeTexts, DocTexts}
use Rattle.components.specs.declared.kind.Kind.{Kind}
use Rattle.components.specs.declared.kind.Kind.TheVariants.{Entry, Exit, Buffer, Fork, Join, Split, Operator, Constant, Source0, Sink0, Pure, Mux, Branch, Merge, CtrlMerge, Init, Tagger}
use Rattle.components.specs.Name.{Name, Port, IsName, IsNameByte, port_get}
use Rattle.components.specs.Kind.{Shape, ports, KindOk}
use Rattle.components.specs.Node.{Body}
use Rattle.components.specs.NamedGraph.{NamedGraph, IsWire}
use Rattle.components.specs.Laws.{PortsAreShapes}
use Rattle.graph_print.specs.CanonicalText.{PrintedPort, kind_word, hexadecimal, own_pairs, side_pairs, printed_side, marked_ports, pairs_of, node_entry, edge_entry, canonical_document}
use Rattle.read_back.specs.CanonicalReading.{ValueFits, CanBeReadBack}
use Rattle.read_back.specs.CanonicalTexts.{KeptTexts, CanonicalPrints}
use Rattle.components.specs.Orders.{name_total, name_same, port_total, port_same}
use Rattle.read_back.proofs.Each.{each_append, each_mapped, each_changed}
use Rattle.components.specs.Entries.{each_entry}
use Rattle.read_back.proofs.PortsBack.{are_ports}
use Rattle.read_back.proofs.PortNames.{last_port}
use Rattle.read_back.proofs.WrittenTexts.{IsWritten, written, side_simple, name_simple, ports_simple, word_simple, op_simple, hexadecimal_simple, decimal_written, FunctionLaws, function_written}

-- ---- the texts of a node

name_byte : (byte : ℕ) → IsNameByte byte → is_plain byte ≡ true
name_byte byte h = rw (ne_eqb byte 34 h.1, ne_eqb byte 92 h.2) refl

name_quotes : (name : List ℕ) → AllByRecursion IsNameByte name → Quotes name name
name_quotes [] h = nothing
name_quotes (byte ∷ name) h = plain byte (name_byte byte h.0) (name_quotes name h.1)

name_written : (name : Name) → IsName name → IsWritten name
name_written name right = record { quoted = record { bytes = name; quotes = name_quotes name (recursion_from_All IsNameByte name right.bytes) }; utf8 = right.utf8 }

abbrev PairIsWritten : Pair → Type 0
PairIsWritten = PairTexts IsWritten

side_written : (side : Side) (printed : List PrintedPort) → ArePorts printed → AllByRecursion PairIsWritten (printed_side side printed)
side_written side [] are = tt
side_written side (port ∷ printed) are = (
  (written (side_word side) (side_simple side), written (marked_ports_text side (port ∷ printed)) (ports_simple side (port ∷ printed) are)),
  tt,
)

hexadecimal_written : (value : ℕ) → value < 2 ^ 64 → IsWritten (hexadecimal value)
hexadecimal_written value small = written (hexadecimal value) (hexadecimal_simple value small)

own_written : FunctionLaws → (kind : Kind) → KindOk kind → ValueFits kind → AllByRecursion PairIsWritten (own_pairs kind)
own_written laws (Entry shape) ok fits = tt
own_written laws (Exit shape) ok fits = tt
own_written laws (Buffer shape) ok fits = tt
own_written laws (Fork shape count) ok fits = tt
own_written laws (Join shapes) ok fits = tt
own_written laws (Split shapes) ok fits = tt
own_written laws (Operator op widths width) ok fits = ((written (codes "op") refl, written (graph_word op) (op_simple op)), tt)
own_written laws (Constant shape width value) ok fits = ((written (codes "value") refl, hexadecimal_written value fits), tt)
own_written laws (Source0 shape) ok fits = tt
own_written laws (Sink0 shape) ok fits = tt
own_written laws (Pure fun shape) ok fits = ((written (codes "fun") refl, function_written laws fun ok.1), tt)
own_written laws (Mux shape) ok fits = tt
own_written laws (Branch shape) ok fits = tt
own_written laws (Merge shape count) ok fits = tt
own_written laws (CtrlMerge shape count width) ok fits = tt
own_written laws (Init value zero) ok fits = ((written (codes "value") refl, hexadecimal_written value (omega (arith, ok.0))), tt)
own_written laws (Init value (suc mark)) ok fits = (
  (written (codes "value") refl, hexadecimal_written value (omega (arith, ok.0))),
  ((written (codes "ooo") refl, decimal_written (suc mark) (omega (arith, ok.1))), tt),
)
own_written laws (Tagger shape tags) ok fits = ((written (codes "tags") refl, decimal_written tags (omega (arith, ok.3))), tt)

pairs_written : PortsAreShapes → FunctionLaws → (body : Body) → KindOk body.kind → ValueFits body.kind → AllByRecursion PairIsWritten (map_of.entries body.kept) → AllByRecursion PairIsWritten (pairs_of body)
pairs_written right laws body ok fits kept =
    let first : Pair = (codes "type", kind_word body.kind) in
    let inputs = side_pairs body.kind Ins in
    let outputs = side_pairs body.kind Outs in
    let own = own_pairs body.kind in
    let type : PairIsWritten first = (written (codes "type") refl, written (kind_word body.kind) (word_simple body.kind)) in
    let front : AllByRecursion PairIsWritten (first ∷ inputs) = (type, side_written Ins (marked_ports body.kind Ins) (are_ports right body.kind Ins ok)) in
    let both : AllByRecursion PairIsWritten (first ∷ inputs ++ outputs) =
    each_append PairIsWritten (first ∷ inputs) outputs front (side_written Outs (marked_ports body.kind Outs) (are_ports right body.kind Outs ok)) in
    each_append PairIsWritten ((first ∷ inputs ++ outputs) ++ own) (map_of.entries body.kept)
    (each_append PairIsWritten (first ∷ inputs ++ outputs) own both (own_written laws body.kind ok fits)) kept

-- ---- in the words of the laws of documents

pair_prints : (pair : Pair) → PairIsWritten pair → PairPrints pair
pair_prints pair h = record { key = h.0.quoted; value = h.1.quoted }

pair_utf8 : (pair : Pair) → PairIsWritten pair → PairTexts IsUtf8 pair
pair_utf8 pair h = (h.0.utf8, h.1.utf8)

node_prints : (e : Name × Body) → NodeTexts IsWritten (node_entry e) → NodePrints (node_entry e)
node_prints e h = record { name = h.0.quoted; pairs = each_changed PairIsWritten PairPrints pair_prints (pairs_of e.1) h.1; some = tt }

node_utf8 : (e : Name × Body) → NodeTexts IsWritten (node_entry e) → NodeTexts IsUtf8 (node_entry e)
node_utf8 e h = (h.0.utf8, each_changed PairIsWritten (PairTexts IsUtf8) pair_utf8 (pairs_of e.1) h.1)

edge_prints : (e : Port × Port) → EdgeTexts IsWritten (edge_entry e) → EdgePrints (edge_entry e)
edge_prints e h = record { source = h.0.quoted; target = h.1.quoted; pairs = each_changed PairIsWritten PairPrints pair_prints (edge_entry e).pairs h.2 }

edge_utf8 : (e : Port × Port) → EdgeTexts IsWritten (edge_entry e) → EdgeTexts IsUtf8 (edge_entry e)
edge_utf8 e h = (h.0.utf8, h.1.utf8, each_changed PairIsWritten (PairTexts IsUtf8) pair_utf8 (edge_entry e).pairs h.2)

-- ---- what holds at each key holds of each entry

module _ (right : PortsAreShapes) (laws : FunctionLaws) (g : NamedGraph) (within : CanBeReadBack g) (quoted : KeptTexts CanBeQuoted g) (utf8 : KeptTexts IsUtf8 g) where
  name_at : (name : Name) (body : Body) → map_of.get g.nodes name ≡ Some body → IsWritten name
  name_at name body is = name_written name (within.names name body is)

  kept_at : (name : Name) (body : Body) → map_of.get g.nodes name ≡ Some body → AllByRecursion PairIsWritten (map_of.entries body.kept)
  kept_at name body is =
      each_entry name_total name_same PairIsWritten (map_of.entries body.kept) (map_of.entries_sorted body.kept) (λ key value found.
      let kept = map_of.get-entries body.kept key ∙ found in
      let quotes = quoted name body key value is kept in
      let texts = utf8 name body key value is kept in
      (record { quoted = quotes.0; utf8 = texts.0 }, record { quoted = quotes.1; utf8 = texts.1 }))

  node_texts : (name : Name) (body : Body) → map_of.get g.nodes name ≡ Some body → NodeTexts IsWritten (node_entry (name, body))
  node_texts name body is = (name_at name body is, pairs_written right laws body (within.typed.kinds name body is) (within.values name body is) (kept_at name body is))

  port_written : (side : Side) (name : Name) (body : Body) (number : ℕ) (shape : Shape) → map_of.get g.nodes name ≡ Some body → port_get (ports body.kind side) number ≡ Some shape →
      IsWritten (port_name side number)
  port_written side name body number shape there is =
      let few : length (ports body.kind side) ≤ 64 = (right body.kind side (within.typed.kinds name body there)).0 in
      written (port_name side number) (name_simple side number (omega (arith, few, last_port (ports body.kind side) number shape is)))

  edge_texts : (target source : Port) → map_of.get g.feeders target ≡ Some source → EdgeTexts IsWritten (edge_entry (target, source))
  edge_texts target source is =
      let wire : IsWire g source target = within.typed.wires target source is in (
        name_at source.node wire.from wire.is_from,
        name_at target.node wire.to wire.is_to,
        (
          (written (codes "from") refl, port_written Outs source.node wire.from source.port wire.shape wire.is_from wire.leaves),
          ((written (codes "to") refl, port_written Ins target.node wire.to target.port wire.shape wire.is_to wire.enters), tt),
        ),
      )

  nodes_texts : AllByRecursion (λ e. NodeTexts IsWritten (node_entry e)) (map_of.entries g.nodes)
  nodes_texts =
      each_entry name_total name_same (λ e. NodeTexts IsWritten (node_entry e)) (map_of.entries g.nodes) (map_of.entries_sorted g.nodes) (λ name body found.
      node_texts name body (map_of.get-entries g.nodes name ∙ found))

  edges_texts : AllByRecursion (λ e. EdgeTexts IsWritten (edge_entry e)) (map_of.entries g.feeders)
  edges_texts =
      each_entry port_total port_same (λ e. EdgeTexts IsWritten (edge_entry e)) (map_of.entries g.feeders) (map_of.entries_sorted g.feeders) (λ target source found.
      edge_texts target source (map_of.get-entries g.feeders target ∙ found))

  document_prints : DocPrints (canonical_document g)
  document_prints = record {
    nodes = each_mapped (λ e. NodeTexts IsWritten (node_entry e)) NodePrints node_entry node_prints (map_of.entries g.nodes) nodes_texts;
    edges = each_mapped (λ e. EdgeTexts IsWritten (edge_entry e)) EdgePrints edge_entry edge_prints (map_of.entries g.feeders) edges_texts;
  }

  document_utf8 : DocTexts IsUtf8 (canonical_document g)
  document_utf8 = (
    each_mapped (λ e. NodeTexts IsWritten (node_entry e)) (NodeTexts IsUtf8) node_entry node_utf8 (map_of.entries g.nodes) nodes_texts,
    each_mapped (λ e. EdgeTexts IsWritten (edge_entry e)) (EdgeTexts IsUtf8) edge_entry edge_utf8 (map_of.entries g.feeders) edges_texts,
  )

pub canonical_prints : PortsAreShapes → FunctionLaws → CanonicalPrints
canonical_prints right laws g within quoted utf8 = (document_prints right laws g within quoted utf8, document_utf8 right laws g within quoted utf8)
