-- Drains: a circuit takes all that is put in at its Entries, and leaves it at its Exits.
use Rattle.std.specs.Prelude.{◌≡◌, ℕ, List, [], ◌++◌, Option, Some, None}
use Rattle.std.specs.List.{AllByRecursion}
use Rattle.port_types.specs.Token.{Fits}
use Rattle.components.specs.declared.kind.Kind.{Kind}
use Rattle.components.specs.declared.kind.Kind.TheVariants.{Entry, Exit, Init}
use Rattle.components.specs.Name.{Name, Port}
use Rattle.components.specs.Kind.{Shape}
use Rattle.circuits.specs.PortTokens.{Token}
use Rattle.circuits.specs.Circuit.{Circuit}
use Rattle.circuits.specs.CircuitState.{CircuitState, start}
use Rattle.circuits.specs.Firing.{Label.Fire}
use Rattle.circuits.specs.Run.{Step, Firing, Firings}
use Rattle.circuits.specs.Buffers.{first_port}
use Rattle.circuits.specs.Root.{PassesThrough, Root}

-- the kind whose output holds a token at the start
abbrev pub IsInit : Kind → Type 0
IsInit (Init value mark) = Unit {0}
IsInit _ = ⊥

-- the root of input p is an Init's output
pub record ComesFromInit (c : Circuit) (p : Port) : Type 0 where
  pub root : Port
  pub is_root : Root c p root
  pub source : Kind
  pub is_source : c.kind_at root.node ≡ Some source
  pub is_init : IsInit source

-- n is a Buffer or a Fork, and its input comes from an Init
pub record Led (c : Circuit) (n : Name) : Type 0 where
  pub kind : Kind
  pub is_kind : c.kind_at n ≡ Some kind
  pub passes : PassesThrough kind
  pub comes : ComesFromInit c (first_port n)

-- from the start the led nodes alone have fired, until none of them can
pub record IsRest (c : Circuit) (s : CircuitState) : Type 0 where
  pub firings : List Firing
  pub led : AllByRecursion (λ f. Led c f.node) firings
  pub leads : Firings c (start c) firings s
  pub ends : (n : Name) (choice : ℕ) (t : CircuitState) → Led c n → ¬ (Step c s n (Fire choice) t)

-- what is put on a wire that node n feeds, by the kind of n
abbrev pub put_by : (Name → List Token) → Option Kind → Name → List Token
put_by ins (Some (Entry shape)) n = ins n
put_by ins _ n = []

-- the same for a wire, by the output that feeds it
abbrev pub put_on : Circuit → (Name → List Token) → Option Port → List Token
put_on c ins None = []
put_on c ins (Some q) = put_by ins (c.kind_at q.node) q.node

-- the start, with tokens put behind on the wires that Entries feed
abbrev pub loaded : Circuit → (Name → List Token) → CircuitState
loaded c ins = record { wires = λ p. (start c).wires p ++ put_on c ins (c.feeder p); slots = (start c).slots }

-- any kind but an Exit
abbrev pub IsNoExit : Kind → Type 0
IsNoExit (Exit shape) = ⊥
IsNoExit _ = Unit {0}

-- some firings take all that is put in at the Entries, leave exactly outs at the Exits, and all else at rest
pub record Drains (c : Circuit) (ins outs : Name → List Token) : Type 0 where
  pub fit_in : (n : Name) (a : Shape) → c.kind_at n ≡ Some (Entry a) → AllByRecursion (Fits a) (ins n)
  pub fit_out : (n : Name) (a : Shape) → c.kind_at n ≡ Some (Exit a) → AllByRecursion (Fits a) (outs n)
  pub rest : CircuitState
  pub is_rest : IsRest c rest
  pub firings : List Firing
  pub end : CircuitState
  pub leads : Firings c (loaded c ins) firings end
  pub slots : (n : Name) (k : Kind) → c.kind_at n ≡ Some k → end.slots n ≡ []
  pub exits : (n : Name) (a : Shape) → c.kind_at n ≡ Some (Exit a) → end.wires (first_port n) ≡ outs n
  pub others : (p : Port) (k : Kind) → c.kind_at p.node ≡ Some k → IsNoExit k → end.wires p ≡ rest.wires p
