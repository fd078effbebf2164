-- Nodes of typed graphs by their kinds, and that listed nodes have names that leave room for those of a rule's other nodes.
use Rattle.std.proofs.Common.{◌≡◌, ℕ, ◌<◌, ◌^◌, refl, sym, ap, subst, ◌∙◌, List, [], ◌∷◌, Option, Some, None, IsSome, is_some, true≢false}
use Rattle.std.specs.FinMap as finite
use Rattle.std.specs.List.{AllByRecursion}
use Rattle.std.proofs.lemmas.Option.{none-some, same_Some}
use Rattle.components.specs.declared.kind.Kind.{Kind}
use Rattle.components.specs.Name.{Name, Port, IsName, port_get}
use Rattle.components.specs.Kind.{Shape, KindOk, ins, outs}
use Rattle.components.specs.Node.{Body}
use Rattle.components.specs.NamedGraph.{NamedGraph, IsTyped, HasAllowedNames}
use Rattle.circuits.specs.Circuit.{circuit_of, kind_of_body}
use Rattle.circuits.specs.Replacing.{NoneTwice}
use Rattle.subst_engine.specs.Prefix.{prefix_text, BeginsWith, IsTaken}
use Rattle.drawn_rules.specs.Labels.{AreFree}
pub use Rattle.drawn_rules.specs.Listed.{IsNodeOf}

-- the node that a kind is of
pub record HasBody (g : NamedGraph) (n : Name) (k : Kind) : Type 0 where
  pub body : Body
  pub there : finite.get g.nodes n ≡ Some body
  pub is_kind : body.kind ≡ k

body_by : (g : NamedGraph) (n : Name) (k : Kind) (o : Option Body) → finite.get g.nodes n ≡ o → kind_of_body o ≡ Some k → HasBody g n k
body_by g n k None e f = absurd (none-some k f)
body_by g n k (Some body) e f = record { body = body; there = e; is_kind = same_Some body.kind k f }

pub body_at : (g : NamedGraph) (n : Name) (k : Kind) → (circuit_of g).kind_at n ≡ Some k → HasBody g n k
body_at g n k e = body_by g n k (finite.get g.nodes n) refl e

pub ok_at : (g : NamedGraph) → IsTyped g → (n : Name) (k : Kind) → (circuit_of g).kind_at n ≡ Some k → KindOk k
ok_at g typed n k e = let b = body_at g n k e in subst KindOk b.is_kind (typed.kinds n b.body b.there)

body_some : (g : NamedGraph) (n : Name) (o : Option Body) → finite.get g.nodes n ≡ o → IsSome (kind_of_body o) → (body : Body) × (finite.get g.nodes n ≡ Some body)
body_some g n None e some = absurd (true≢false (sym some))
body_some g n (Some body) e some = (body, e)

pub node_of : (g : NamedGraph) (n : Name) → IsNodeOf g n → (body : Body) × (finite.get g.nodes n ≡ Some body)
node_of g n some = body_some g n (finite.get g.nodes n) refl some

-- what a wire carries is told by the kinds at its ends
pub record Carries (k l : Kind) (output input : ℕ) : Type 0 where
  pub shape : Shape
  pub leaves : port_get (outs k) output ≡ Some shape
  pub enters : port_get (ins l) input ≡ Some shape

pub carries : (g : NamedGraph) → IsTyped g → (target source : Port) (k l : Kind) → finite.get g.feeders target ≡ Some source → (circuit_of g).kind_at source.node ≡ Some k → (circuit_of g).kind_at target.node ≡ Some l →
    Carries k l source.port target.port
carries g typed target source k l fed is_from is_to =
    let w = typed.wires target source fed in
    let from : w.from.kind ≡ k = same_Some w.from.kind k (sym (ap kind_of_body w.is_from) ∙ is_from) in
    let to : w.to.kind ≡ l = same_Some w.to.kind l (sym (ap kind_of_body w.is_to) ∙ is_to) in
    record {
      shape = w.shape;
      leaves = ap (λ z. port_get (outs z) source.port) (sym from) ∙ w.leaves;
      enters = ap (λ z. port_get (ins z) target.port) (sym to) ∙ w.enters;
    }

-- Listed nodes

module _ (g : NamedGraph) (names_allowed : HasAllowedNames g) (ends : ℕ) (fresh : ¬ (IsTaken g ends)) where
  allowed_names : (names : List Name) → AllByRecursion (IsNodeOf g) names → AllByRecursion IsName names
  allowed_names [] h = tt
  allowed_names (n ∷ names) h = let (body, there) = node_of g n h.0 in (names_allowed n body there, allowed_names names h.1)

  names_away : (names : List Name) → AllByRecursion (IsNodeOf g) names → AllByRecursion (λ name. ¬ (BeginsWith (prefix_text ends) name)) names
  names_away [] h = tt
  names_away (n ∷ names) h = let (body, there) = node_of g n h.0 in ((λ begin. fresh (n, ap is_some there, begin)), names_away names h.1)

  pub are_free : (prefix : ℕ) → prefix < 2 ^ 64 → ends < 2 ^ 64 → (names : List Name) → NoneTwice names → AllByRecursion (IsNodeOf g) names → AreFree prefix ends names
  are_free prefix new_number end_number names differ nodes =
      record { new_number = new_number; end_number = end_number; differ = differ; allowed = allowed_names names nodes; away = names_away names nodes }
