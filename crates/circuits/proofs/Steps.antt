-- What a step takes and gives.
use Rattle.std.proofs.Common.{◌≡◌, ◌≢◌, refl, sym, ap, subst, ◌∙◌, true, false, bytes_eq, if◌then◌else◌, List, [], ◌++◌, Option, Some, None, append-nil}
use Rattle.std.proofs.lemmas.Option.{same_Some}
use Rattle.components.specs.declared.kind.Kind.{Kind}
use Rattle.components.specs.Name.{Name, Port}
use Rattle.components.specs.Orders.{same_bytes, other_bytes}
use Rattle.circuits.specs.PortTokens.{Token, share, share_from, at_port}
use Rattle.circuits.specs.Circuit.{Circuit}
use Rattle.circuits.specs.CircuitState.{CircuitState}
use Rattle.circuits.specs.Firing.{Label, Acts}
use Rattle.circuits.specs.Run.{Step}

-- a node acts as its kind does
pub acts_at : (c : Circuit) (s : CircuitState) (n : Name) (l : Label) (t : CircuitState) (st : Step c s n l t) (k : Kind) → c.kind_at n ≡ Some k → Acts k l (s.slots n) st.taken st.given (t.slots n)
acts_at c s n l t st k e =
    subst (λ x. Acts x l (s.slots n) st.taken st.given (t.slots n)) (same_Some st.kind k (sym st.is_kind ∙ e)) st.acts

pub share_none : (n : Name) (p : Port) → share n [] p ≡ []
share_none n p = elim (bytes_eq p.node n) as (λ b. (if b then at_port [] p.port else []) ≡ []) [ true ↦ refl | false ↦ refl ]

pub share_from_none : (n : Name) (o : Option Port) → share_from n [] o ≡ []
share_from_none n None = refl
share_from_none n (Some p) = share_none n p

pub share_other : (n : Name) (side : List (List Token)) (p : Port) → p.node ≢ n → share n side p ≡ []
share_other n side p h = ap (λ b. if b then at_port side p.port else []) (other_bytes p.node n h)

pub share_same : (n : Name) (side : List (List Token)) (p : Port) → p.node ≡ n → share n side p ≡ at_port side p.port
share_same n side p h = ap (λ b. if b then at_port side p.port else []) (same_bytes p.node n h)

pub append_none : (xs ys : List Token) → ys ≡ [] → xs ≡ xs ++ ys
append_none xs ys e = sym (append-nil xs) ∙ ap (λ z. xs ++ z) (sym e)

-- two states are one where they hold the same
pub state_same : (s t : CircuitState) → ((p : Port) → s.wires p ≡ t.wires p) → ((n : Name) → s.slots n ≡ t.slots n) → s ≡ t
state_same s t ws xs = λ i. record { wires = λ p. ws p i; slots = λ n. xs n i }
