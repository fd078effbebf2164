-- What a node that is read tells of its statement.
use Rattle.std.proofs.Common.{◌≡◌, ℕ, ◌≤◌, Bool, true, false, cond, not, List, [], map, Option, Some, None, Result, Ok, Err, codes, refl, ap, subst, arith}
use Rattle.std.specs.Prelude.{bytes_eq, nat_le}
use Rattle.std.specs.List.{list_any}
use Rattle.std.proofs.lemmas.Bool.{leb-true, not-false}
use Rattle.std.proofs.lemmas.List.{length-map}
use Rattle.std.proofs.lemmas.List.Elements.{All-nil, All-map}
use Rattle.port_types.specs.declared.port.Port.{Port}
use Rattle.port_types.specs.declared.port.PortFault.{PortFault}
use Rattle.port_types.specs.declared.side.Side.{Side}
use Rattle.port_types.specs.declared.side.Side.TheVariants.{Ins, Outs}
use Rattle.port_types.specs.Shape.{IsShape}
use Rattle.port_types.specs.PortText.{side_word}
use Rattle.port_types.specs.PortGrammar.{reading}
use Rattle.port_types.specs.PortLaws.{ArePorts, ReadsPorts}
use Rattle.dot_text.specs.declared.doc.DocNode.{DocNode}
use Rattle.components.specs.declared.kind.Kind.{Kind}
use Rattle.components.specs.Kind.{Shape, KindOk}
use Rattle.components.specs.Name.{Name}
use Rattle.components.specs.Node.{Body, kept_of}
use Rattle.components.specs.declared.component.Component.{Component}
use Rattle.graph_read.specs.declared.fault.GraphFaultKind.{GraphFaultKind}
use Rattle.graph_read.specs.declared.fault.GraphFaultKind.TheVariants.{BadName, NameTaken, NoKind, UnknownKind, MemoryNode, MemoryPort, BadPorts, TooMany}
use Rattle.graph_read.specs.Attributes.{Pair, last_value}
use Rattle.components.specs.Component.{component_of}
use Rattle.graph_read.specs.Rows.{Reading}
use Rattle.graph_read.specs.NodeReading.{NodeReading, is_memory, is_name, shapes_in, text_reading, side_reading, ports_reading, component_reading, named_reading, word_reading, kind_reading, with_kept, body_reading, within_limit, node_reading}
use Rattle.graph_read.specs.Laws.{AreRead, RowsAreMet}
use Rattle.graph_read.proofs.Answers.{same_answer, refused}

-- what is read behind a test that refuses passed the test
pub past : {A E : Type 0} (test : Bool) (fault : E) (read : Result A E) (x : A) → cond test (Err fault) read ≡ Ok x → (test ≡ false) × (read ≡ Ok x)
past true fault read x e = refused fault x e
past false fault read x e = (refl, e)

-- Statements

-- the name is allowed but for its encoding and stands behind no other such, the place is within the limit, and the pairs say the kind
pub record IsRead (earlier : List Name) (place : ℕ) (statement : DocNode) (body : Body) : Type 0 where
  pub named : is_name statement.name ≡ true
  pub new : list_any (bytes_eq statement.name) earlier ≡ false
  pub few : place ≤ 65536
  pub kind : kind_reading statement.pairs ≡ Ok body.kind

at_limit : (few : Bool) (found body : Body) → cond few (Ok found) (Err TooMany) ≡ Ok body → (few ≡ true) × ◌≡◌ {A = NodeReading} (Ok found) (Ok body)
at_limit true found body e = (refl, e)
at_limit false found body e = refused TooMany body e

within : (place : ℕ) (read : NodeReading) (body : Body) → within_limit place read ≡ Ok body → (place ≤ 65536) × (read ≡ Ok body)
within place (Err fault) body e = refused fault body e
within place (Ok found) body e = let at = at_limit (nat_le place 65536) found body e in (leb-true place 65536 at.0, at.1)

kind_kept : (pairs : List Pair) (read : Reading) (body : Body) → with_kept pairs read ≡ Ok body → read ≡ Ok body.kind
kind_kept pairs (Err fault) body e = refused fault body e
kind_kept pairs (Ok kind) body e = ap (λ (found : Body). Ok found.kind) (same_answer (record { kind = kind; kept = kept_of kind pairs }) body e)

pub node_is_read : (earlier : List Name) (place : ℕ) (statement : DocNode) (body : Body) → node_reading earlier place statement ≡ Ok body → IsRead earlier place statement body
node_is_read earlier place statement body e =
    let taken = list_any (bytes_eq statement.name) earlier in
    let read = within_limit place (body_reading statement.pairs) in
    let allowed = past (not (is_name statement.name)) BadName (cond taken (Err NameTaken) read) body e in
    let new = past taken NameTaken read body allowed.1 in
    let limit = within place (body_reading statement.pairs) body new.1 in
    record { named = not-false (is_name statement.name) allowed.0; new = new.0; few = limit.0; kind = kind_kept statement.pairs (kind_reading statement.pairs) body limit.1 }

-- Its kind

module _ (says_ports : ReadsPorts) (rows : RowsAreMet) where
  shapes_read : (side : Side) (text : List ℕ) (read : Result (List Port) PortFault) (shapes : List Shape) → reading side text ≡ read → shapes_in read ≡ Ok shapes → AreRead shapes
  shapes_read side text (Err fault) shapes is e = refused BadPorts shapes e
  shapes_read side text (Ok ports) shapes is e =
      let are : ArePorts ports = ((says_ports side text ports).0 is).1 in
      subst AreRead (same_answer (map (λ port. port.shape) ports) shapes e)
      (record { few = omega (arith, are.few, length-map ports (λ port. port.shape)); each = All-map IsShape (λ port. port.shape) ports are.shapes })

  side_read : (side : Side) (text : Option (List ℕ)) (shapes : List Shape) → text_reading side text ≡ Ok shapes → AreRead shapes
  side_read side None shapes e = subst AreRead (same_answer [] shapes e) (record { few = omega arith; each = All-nil IsShape })
  side_read side (Some text) shapes e = shapes_read side text (reading side text) shapes refl e

  module _ (pairs : List Pair) (kind : Kind) where
    ports_ok : (component : Component) (inputs outputs : Result (List Shape) GraphFaultKind) → ((shapes : List Shape) → inputs ≡ Ok shapes → AreRead shapes) →
        ((shapes : List Shape) → outputs ≡ Ok shapes → AreRead shapes) → ports_reading component inputs outputs pairs ≡ Ok kind → KindOk kind
    ports_ok component (Err fault) outputs p q e = refused fault kind e
    ports_ok component (Ok inputs) (Err fault) p q e = refused fault kind e
    ports_ok component (Ok inputs) (Ok outputs) p q e = ((rows component inputs outputs pairs kind (p inputs refl) (q outputs refl)).0 e).ok

    component_ok : (component : Component) → component_reading component pairs ≡ Ok kind → KindOk kind
    component_ok component e =
        ports_ok component (side_reading Ins pairs) (side_reading Outs pairs) (side_read Ins (last_value (side_word Ins) pairs)) (side_read Outs (last_value (side_word Outs) pairs))
        (past _ MemoryPort _ kind e).1

    named_ok : (word : List ℕ) (component : Option Component) → named_reading word component pairs ≡ Ok kind → KindOk kind
    named_ok word None e = refused UnknownKind kind (past (is_memory word) MemoryNode (Err UnknownKind) kind e).1
    named_ok word (Some component) e = component_ok component e

    word_ok : (word : Option (List ℕ)) → word_reading word pairs ≡ Ok kind → KindOk kind
    word_ok None e = refused NoKind kind e
    word_ok (Some word) e = named_ok word (component_of word) e

    pub kind_is_ok : kind_reading pairs ≡ Ok kind → KindOk kind
    kind_is_ok e = word_ok (last_value (codes "type") pairs) e
