-- A wire from an Entry to an Exit: it is typed, and shows a token that is fed and taken, and none that is only taken.
use Rattle.std.proofs.Common.{◌≡◌, ℕ, refl, sym, ap, subst, ◌∙◌, List, [], ◌∷◌, ◌++◌, Some, arith}
use Rattle.port_types.specs.Shape.{IsShape}
use Rattle.port_types.specs.Token.{Fits}
use Rattle.components.specs.declared.kind.Kind.{Kind}
use Rattle.components.specs.declared.kind.Kind.TheVariants.{Entry, Exit}
use Rattle.components.specs.Name.{Name}
use Rattle.components.specs.Kind.{Shape}
use Rattle.components.specs.NamedGraph.{IsTyped}
use Rattle.circuits.specs.PortTokens.{Token, one, at_port, share}
use Rattle.circuits.specs.Circuit.{Circuit, Typed, circuit_of}
use Rattle.circuits.specs.CircuitState.{CircuitState, start}
use Rattle.circuits.specs.Firing.{Label, Label.Feed, Label.Take, Label.Fire}
use Rattle.circuits.specs.Run.{Step, Move, Run, shown, trace, Shows}
use Rattle.circuits.specs.Buffers.{first_port}
use Rattle.circuits.specs.Laws.{GraphIsTyped}
use Rattle.circuits.proofs.Steps.{acts_at, share_same}
use Rattle.circuits.proofs.MadeSteps.{Deed, CanAll, after_all, moves_of, run_made}
use Rattle.circuit_examples.specs.Listed.{fed_at, taken_at}
use Rattle.circuit_examples.specs.LoneWire.{entry_name, exit_name, wire_nodes, wire_wires, lone_wire}
use Rattle.circuit_examples.proofs.Listed.{spelled, is_spelled, each_node, no_in, no_out, one_in, one_out, listed_typed, graph_is_typed}
use Rattle.circuit_examples.proofs.Deeds.{feeding, taking}

-- the circuit, spelled out
abbrev pub wire : Shape → Circuit
wire shape = spelled (wire_nodes shape) wire_wires

pub is_wire : (shape : Shape) → circuit_of (lone_wire shape) ≡ wire shape
is_wire shape = is_spelled (wire_nodes shape) wire_wires

typed : (shape : Shape) → IsShape shape → Typed (wire shape)
typed shape ok =
    listed_typed (wire_nodes shape) wire_wires
    (record {
      kinds = (ok, (ok, tt));
      are_wires = (record { to = Exit shape; from = Entry shape; shape = shape; is_to = refl; is_from = refl; enters = refl; leaves = refl }, tt);
      inputs = (no_in (wire shape) entry_name (Entry shape) refl, (one_in (wire shape) exit_name (Exit shape) shape refl (first_port entry_name) refl, tt));
      outputs = (one_out (wire shape) entry_name (Entry shape) shape refl (first_port exit_name) refl, (no_out (wire shape) exit_name (Exit shape) refl, tt));
      once = (((λ e. refl), tt), tt);
      size = 4;
      names = (omega arith, (omega arith, tt));
    })

pub wire_typed : GraphIsTyped → (shape : Shape) → IsShape shape → IsTyped (lone_wire shape)
wire_typed law shape ok = graph_is_typed law (wire_nodes shape) wire_wires (typed shape ok)

-- the token is fed, and then taken
module _ (shape : Shape) (v : Token) (fit : Fits shape v) where
  abbrev deeds : List Deed
  deeds = feeding entry_name shape v ∷ taking exit_name shape v ∷ []

  can_all : CanAll (wire shape) (start (wire shape)) deeds
  can_all = (
    record { is_kind = refl; acts = (fit, refl, refl, refl); stands = tt },
    (record { is_kind = refl; acts = (refl, refl, refl); stands = (([], refl), tt) }, tt),
  )

  pub wire_shows : Shows (circuit_of (lone_wire shape)) (fed_at entry_name v ∷ taken_at exit_name v ∷ [])
  wire_shows =
      subst (λ c. Shows c (fed_at entry_name v ∷ taken_at exit_name v ∷ [])) (sym (is_wire shape))
      (moves_of deeds, after_all (wire shape) (start (wire shape)) deeds, run_made (wire shape) (start (wire shape)) deeds can_all, refl)

-- each node is the one or the other
pub data Node (shape : Shape) (n : Name) (k : Kind) : Type 0 where
  first : n ≡ entry_name → k ≡ Entry shape → Node shape n k
  last : n ≡ exit_name → k ≡ Exit shape → Node shape n k

abbrev first_label : List Move → Label
first_label [] = Fire 0
first_label (m ∷ ms) = m.label

-- nothing is taken before, whatever comes first
module _ (shape : Shape) where
  pub node : (n : Name) (k : Kind) → (wire shape).kind_at n ≡ Some k → Node shape n k
  node n k e = each_node (λ m j. Node shape m j) (wire_nodes shape) (first refl refl, (last refl refl, tt)) n k e

  pub no_fire : (s : CircuitState) (n : Name) (choice : ℕ) (t : CircuitState) → Step (wire shape) s n (Fire choice) t → ⊥
  no_fire s n choice t st =
      elim (node n st.kind st.is_kind) [
        | first is e ↦ acts_at (wire shape) s n (Fire choice) t st (Entry shape) (st.is_kind ∙ ap Some e)
        | last is e ↦ acts_at (wire shape) s n (Fire choice) t st (Exit shape) (st.is_kind ∙ ap Some e)
      ]

  no_take : (n : Name) (v : Token) (t : CircuitState) → Step (wire shape) (start (wire shape)) n (Take v) t → ⊥
  no_take n v t st =
      elim (node n st.kind st.is_kind) [
        | first is e ↦ acts_at (wire shape) (start (wire shape)) n (Take v) t st (Entry shape) (st.is_kind ∙ ap Some e)
        | last is e ↦
            let (taken, given, same) = acts_at (wire shape) (start (wire shape)) n (Take v) t st (Exit shape) (st.is_kind ∙ ap Some e) in
            let there : share n st.taken (first_port exit_name) ≡ one v = share_same n st.taken (first_port exit_name) (sym is) ∙ ap (λ z. at_port z 1) taken in
            let empty : [] ≡ one v ++ st.between (first_port exit_name) = st.takes (first_port exit_name) ∙ ap (λ z. z ++ st.between (first_port exit_name)) there in
            cc
      ]

  no_other : (v : Token) (ms : List Move) (t : CircuitState) → Run (wire shape) (start (wire shape)) ms t → trace ms ≡ taken_at exit_name v ∷ [] → ⊥
  no_other v [] t run e = cc
  no_other v (m ∷ ms) t run e = at m.node m.label run.0 run.1 e
    where
      at : (n : Name) (l : Label) (mid : CircuitState) → Step (wire shape) (start (wire shape)) n l mid → shown n l (trace ms) ≡ taken_at exit_name v ∷ [] → ⊥
      at n (Feed x) mid st same = let label : Feed x ≡ Take v = ap first_label same in cc
      at n (Take x) mid st same = no_take n x mid st
      at n (Fire x) mid st same = no_fire (start (wire shape)) n x mid st

  pub wire_shows_no_other : (v : Token) → Shows (circuit_of (lone_wire shape)) (taken_at exit_name v ∷ []) → ⊥
  wire_shows_no_other v h =
      let sh : Shows (wire shape) (taken_at exit_name v ∷ []) = subst (λ c. Shows c (taken_at exit_name v ∷ [])) (is_wire shape) h in
      no_other v sh.0 sh.1 sh.2 sh.3
