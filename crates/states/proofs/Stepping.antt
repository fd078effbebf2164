-- A token that comes in, and one that goes out, as steps.
use Rattle.std.proofs.Common.{◌≡◌, ◌≢◌, inl, inr, ℕ, zero, suc, List, [], ◌∷◌, ◌++◌, drop, Option, Some, None, cond, refl, sym, ap, subst, ◌∙◌}
use Rattle.std.proofs.lemmas.List.{append-nil}
use Rattle.std.specs.FinMap as finite
use Rattle.port_types.specs.Token.{Fits}
use Rattle.components.specs.declared.kind.Kind.TheVariants.{Entry, Exit}
use Rattle.components.specs.Kind.{Shape}
use Rattle.components.specs.Name.{Name, Port}
use Rattle.components.specs.NamedGraph.{IsTyped}
use Rattle.components.specs.Orders.{name_cases, port_cases, other_bytes, same_bytes}
use Rattle.circuits.specs.PortTokens.{Token, at_port, one, share, share_from}
use Rattle.circuits.specs.Circuit.{circuit_of}
use Rattle.circuits.specs.Firing.{Label.Feed, Label.Take}
use Rattle.circuits.specs.Run.{Step}
use Rattle.graph_core.specs.declared.place.PortAt.{PortAt}
use Rattle.graph_core.specs.GraphValue.{GraphValue, IsGraph}
use Rattle.states.specs.GraphState.{Places, IsInputAt, queue_of, state_of, with_queue}
use Rattle.states.proofs.Changing.{queue_there, wires_same, wires_other, slots_same}

-- what a node has at a port, by the name of the port's node

pub share_at : (n : Name) (side : List (List Token)) (p : Port) → p.node ≡ n → share n side p ≡ at_port side p.port
share_at n side p same = ap (λ t. cond t (at_port side p.port) []) (same_bytes p.node n same)

pub share_away : (n : Name) (side : List (List Token)) (p : Port) → p.node ≢ n → share n side p ≡ []
share_away n side p other = ap (λ t. cond t (at_port side p.port) []) (other_bytes p.node n other)

pub share_nothing : (n : Name) (p : Port) → share n [] p ≡ []
share_nothing n p = elim (name_cases p.node n) [
  | inl same ↦ share_at n [] p same
  | inr other ↦ share_away n [] p other
]

pub share_from_nothing : (n : Name) (o : Option Port) → share_from n [] o ≡ []
share_from_nothing n None = refl
share_from_nothing n (Some p) = share_nothing n p

-- a side with one token, at this port
pub record HasOne (side : List (List Token)) (port : ℕ) (v : Token) : Type 0 where
  pub here : at_port side port ≡ one v
  pub elsewhere : (j : ℕ) → j ≢ port → at_port side j ≡ []

pub first_one : (v : Token) → HasOne (one v ∷ []) 1 v
first_one v = record { here = refl; elsewhere = no }
  where
    no : (j : ℕ) → j ≢ 1 → at_port (one v ∷ []) j ≡ []
    no zero other = refl
    no (suc zero) other = absurd (other refl)
    no (suc (suc j)) other = refl

module _ (g : GraphValue) (is : IsGraph g) (typed : IsTyped g.graph) (s : Places) (p : PortAt) (n : Name) (at : IsInputAt g s p n) (v : Token) where
  abbrev input : Port
  input = record { node = n; port = p.port }

  -- a token that comes in from an output
  module _ (source : Port) (fed : finite.get g.graph.feeders input ≡ Some source) (side : List (List Token)) (has : HasOne side source.port v) where
    abbrev pushed_state : Places
    pushed_state = with_queue s p (queue_of s p ++ one v)

    pub pushed : (r : Port) → (state_of g pushed_state).wires r ≡ (state_of g s).wires r ++ share_from source.node side (finite.get g.graph.feeders r)
    pushed r = elim (port_cases r input) [
      | inl same ↦
          ap (state_of g pushed_state).wires same ∙ wires_same g is s p n at (queue_of s p ++ one v)
          ∙ ap (λ q. q ++ one v) (sym (ap (state_of g s).wires same ∙ queue_there g is s p n at))
          ∙ ap (λ x. (state_of g s).wires r ++ x) (sym (ap (share_from source.node side) (ap (finite.get g.graph.feeders) same ∙ fed) ∙ share_at source.node side source refl ∙ has.here))
      | inr other ↦
          wires_other g is s p n at (queue_of s p ++ one v) r other ∙ sym (append-nil ((state_of g s).wires r))
          ∙ ap (λ x. (state_of g s).wires r ++ x) (sym (nothing (finite.get g.graph.feeders r) refl other))
    ]
      where
        nothing : (o : Option Port) → finite.get g.graph.feeders r ≡ o → r ≢ input → share_from source.node side o ≡ []
        nothing None e other = refl
        nothing (Some q) e other = elim (name_cases q.node source.node) [
          | inr away ↦ share_away source.node side q away
          | inl near ↦
              let apart : q.port ≢ source.port = λ port.
              other (typed.once r input source (e ∙ ap (λ (x : Port). Some x) (λ i. record { node = near i; port = port i })) fed) in
              share_at source.node side q near ∙ has.elsewhere q.port apart
        ]

  -- the token at the head goes out
  module _ (rest : List Token) (holds : queue_of s p ≡ v ∷ rest) (side : List (List Token)) (has : HasOne side p.port v) where
    abbrev popped_state : Places
    popped_state = with_queue s p (drop 1 (queue_of s p))

    pub popped : (r : Port) → (state_of g s).wires r ≡ share n side r ++ (state_of g popped_state).wires r
    popped r = elim (port_cases r input) [
      | inl same ↦
          ap (state_of g s).wires same ∙ queue_there g is s p n at ∙ holds ∙ ap (λ x. v ∷ x) (sym (ap (drop 1) holds))
          ∙ ap (λ x. x ++ drop 1 (queue_of s p)) (sym (ap (share n side) same ∙ share_at n side input refl ∙ has.here))
          ∙ ap (λ x. share n side r ++ x) (sym (ap (state_of g popped_state).wires same ∙ wires_same g is s p n at (drop 1 (queue_of s p))))
      | inr other ↦
          sym (wires_other g is s p n at (drop 1 (queue_of s p)) r other)
          ∙ ap (λ x. x ++ (state_of g popped_state).wires r) (sym (nothing other))
    ]
      where
        nothing : r ≢ input → share n side r ≡ []
        nothing other = elim (name_cases r.node n) [
          | inr away ↦ share_away n side r away
          | inl near ↦ share_at n side r near ∙ has.elsewhere r.port (λ port. other (λ i. record { node = near i; port = port i }))
        ]

  -- feeding an Entry
  pub fed_step : (m : Name) (shape : Shape) → (circuit_of g.graph).kind_at m ≡ Some (Entry shape) → Fits shape v → finite.get g.graph.feeders input ≡ Some (record { node = m; port = 1 }) →
      Step (circuit_of g.graph) (state_of g s) m (Feed v) (state_of g (with_queue s p (queue_of s p ++ one v)))
  fed_step m shape is_entry fits fed =
      record {
        kind = Entry shape;
        is_kind = is_entry;
        taken = [];
        given = one v ∷ [];
        acts = (fits, refl, refl, slots_same g is s p n at (queue_of s p ++ one v) m);
        between = (state_of g s).wires;
        takes = λ r. ap (λ x. x ++ (state_of g s).wires r) (sym (share_nothing m r));
        gives = pushed (record { node = m; port = 1 }) fed (one v ∷ []) (first_one v);
        others = λ o other. slots_same g is s p n at (queue_of s p ++ one v) o;
      }

  -- taking from an Exit
  pub taken_step : (shape : Shape) → (circuit_of g.graph).kind_at n ≡ Some (Exit shape) → p.port ≡ 1 → (rest : List Token) → queue_of s p ≡ v ∷ rest →
      Step (circuit_of g.graph) (state_of g s) n (Take v) (state_of g (with_queue s p (drop 1 (queue_of s p))))
  taken_step shape is_exit first rest holds =
      let after = with_queue s p (drop 1 (queue_of s p)) in
      record {
        kind = Exit shape;
        is_kind = is_exit;
        taken = one v ∷ [];
        given = [];
        acts = (refl, refl, slots_same g is s p n at (drop 1 (queue_of s p)) n);
        between = (state_of g after).wires;
        takes = popped rest holds (one v ∷ []) (subst (λ k. HasOne (one v ∷ []) k v) (sym first) (first_one v));
        gives = λ r. sym (append-nil ((state_of g after).wires r)) ∙ ap (λ x. (state_of g after).wires r ++ x) (sym (share_from_nothing n (finite.get g.graph.feeders r)));
        others = λ o other. slots_same g is s p n at (drop 1 (queue_of s p)) o;
      }
