-- Steps of a circuit, runs, and what is seen of them.
use Rattle.std.specs.Prelude.{◌≡◌, ◌≢◌, ℕ, List, [], ◌∷◌, ◌++◌, Some, map}
use Rattle.components.specs.declared.kind.Kind.{Kind}
use Rattle.components.specs.Name.{Name, Port}
use Rattle.circuits.specs.PortTokens.{Token, share, share_from}
use Rattle.circuits.specs.Circuit.{Circuit}
use Rattle.circuits.specs.CircuitState.{CircuitState, start}
use Rattle.circuits.specs.Firing.{Label, Label.Feed, Label.Take, Label.Fire, Acts}

-- node n takes c from state s to state t: what it takes stands at the front of its wires, what it gives comes behind what is left
pub record Step (c : Circuit) (s : CircuitState) (n : Name) (l : Label) (t : CircuitState) : Type 0 where
  pub kind : Kind
  pub is_kind : c.kind_at n ≡ Some kind
  pub taken : List (List Token)
  pub given : List (List Token)
  pub acts : Acts kind l (s.slots n) taken given (t.slots n)
  pub between : Port → List Token
  pub takes : (p : Port) → s.wires p ≡ share n taken p ++ between p
  pub gives : (p : Port) → t.wires p ≡ between p ++ share_from n given (c.feeder p)
  pub others : (m : Name) → m ≢ n → t.slots m ≡ s.slots m

-- a step as a run lists it
pub record Move : Type 0 where
  pub node : Name
  pub label : Label

-- the moves lead from s to t, one after another
abbrev pub Run : Circuit → CircuitState → List Move → CircuitState → Type 0
Run c s [] t = s ≡ t
Run c s (m ∷ ms) t = (mid : CircuitState) × Step c s m.node m.label mid × Run c mid ms t

-- a move before others, where it is seen
abbrev pub shown : Name → Label → List Move → List Move
shown n (Feed v) ms = record { node = n; label = Feed v } ∷ ms
shown n (Take v) ms = record { node = n; label = Take v } ∷ ms
shown n (Fire choice) ms = ms

-- the feeds and takes, which are what is seen of a run
abbrev pub trace : List Move → List Move
trace [] = []
trace (m ∷ ms) = shown m.node m.label (trace ms)

-- some run from the start has this trace
abbrev pub Shows : Circuit → List Move → Type 0
Shows c tr = (ms : List Move) × (t : CircuitState) × Run c (start c) ms t × (trace ms ≡ tr)

-- a step that is not seen
pub record Firing : Type 0 where
  pub node : Name
  pub choice : ℕ

abbrev pub move_of : Firing → Move
move_of f = record { node = f.node; label = Fire f.choice }

-- a run of firings alone
abbrev pub Firings : Circuit → CircuitState → List Firing → CircuitState → Type 0
Firings c s fs t = Run c s (map move_of fs) t
