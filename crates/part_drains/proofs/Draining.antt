-- What a circuit drains, where the nodes that Inits lead to are told by walks instead of by roots.
use Rattle.std.proofs.Common.{◌≡◌, ℕ, inl, inr, refl, sym, ap, subst, ◌∙◌, List, [], ◌∷◌, ◌++◌, Option, Some, None}
use Rattle.std.specs.List.{AllByRecursion}
use Rattle.port_types.specs.Token.{Fits}
use Rattle.components.specs.declared.kind.Kind.{Kind}
use Rattle.components.specs.declared.kind.Kind.TheVariants.{Entry, Exit, Init}
use Rattle.components.specs.Name.{Name, Port}
use Rattle.components.specs.Kind.{Shape}
use Rattle.circuits.specs.PortTokens.{Token, share, share_from}
use Rattle.circuits.specs.Firing.{Label.Fire}
use Rattle.circuits.specs.Circuit.{Circuit, kind_of}
use Rattle.circuits.specs.CircuitState.{CircuitState, start, initial}
use Rattle.circuits.specs.Run.{Step, Firing, Firings}
use Rattle.circuits.specs.Root.{PassesThrough}
use Rattle.circuits.specs.Drains.{loaded, IsNoExit}
use Rattle.circuits.proofs.Names.{name_cases}
use Rattle.circuits.proofs.Steps.{share_other}

-- back from input p, through Forks and Buffers, stands an Init
pub data InitBehind (c : Circuit) : Port → Type 0 where
  init : {p : Port} (q : Port) (v m : ℕ) → c.feeder p ≡ Some q → c.kind_at q.node ≡ Some (Init v m) → InitBehind c p
  past : {p : Port} (q : Port) (k : Kind) → c.feeder p ≡ Some q → c.kind_at q.node ≡ Some k → PassesThrough k → InitBehind c (record { node = q.node; port = 1 }) → InitBehind c p

pub record LedBy (c : Circuit) (n : Name) : Type 0 where
  pub kind : Kind
  pub is_kind : c.kind_at n ≡ Some kind
  pub tree : PassesThrough kind
  pub comes : InitBehind c (record { node = n; port = 1 })

-- the led nodes alone have fired, until none of them can
pub record RestsAt (c : Circuit) (s : CircuitState) : Type 0 where
  pub firings : List Firing
  pub led : AllByRecursion (λ f. LedBy c f.node) firings
  pub leads : Firings c (start c) firings s
  pub ends : (n : Name) (k : ℕ) (t : CircuitState) → LedBy c n → Step c s n (Fire k) t → ⊥

-- some firings lead from these inputs to these outputs, and leave all else at rest
pub record DrainsTo (c : Circuit) (ins outs : Name → List Token) : Type 0 where
  pub rest : CircuitState
  pub is_rest : RestsAt c rest
  pub firings : List Firing
  pub end : CircuitState
  pub leads : Firings c (loaded c ins) firings end
  pub slots : (n : Name) (k : Kind) → c.kind_at n ≡ Some k → end.slots n ≡ []
  pub exits : (n : Name) (a : Shape) → c.kind_at n ≡ Some (Exit a) → end.wires (record { node = n; port = 1 }) ≡ outs n
  pub others : (p : Port) (k : Kind) → c.kind_at p.node ≡ Some k → IsNoExit k → end.wires p ≡ rest.wires p

pub record HoldsRestBy (c : Circuit) : Type 0 where
  pub inputs : (p q : Port) (a : Shape) (k : Kind) → c.feeder p ≡ Some q → c.kind_at q.node ≡ Some (Entry a) → c.kind_at p.node ≡ Some k → (PassesThrough k → ⊥) × IsNoExit k
  pub outputs : (n : Name) (a : Shape) → c.kind_at n ≡ Some (Exit a) → InitBehind c (record { node = n; port = 1 }) → ⊥

-- the lists for the Entries have fitting tokens
abbrev pub InputsFit : Circuit → (Name → List Token) → Type 0
InputsFit c ins = (n : Name) (a : Shape) → c.kind_at n ≡ Some (Entry a) → AllByRecursion (Fits a) (ins n)

abbrev pub KeepsDrainsTo : Circuit → Circuit → Type 0
KeepsDrainsTo c d = (ins outs : Name → List Token) → InputsFit c ins → DrainsTo c ins outs → DrainsTo d ins outs

-- only wires that come from an Init hold anything when led nodes alone have fired
Comes : Circuit → CircuitState → Type 0
Comes c s = (p : Port) (v : Token) (vs : List Token) → s.wires p ≡ v ∷ vs → InitBehind c p

start_kind : (c : Circuit) (p q : Port) (v : Token) (vs : List Token) → c.feeder p ≡ Some q → (k : Option Kind) → c.kind_at q.node ≡ k → initial k ≡ v ∷ vs → InitBehind c p
start_kind c p q v vs f None e h = cc
start_kind c p q v vs f (Some (Init x m)) e h = init q x m f e
start_kind c p q v vs f (Some _) e h = absurd (nil_cons h)
  where
    nil_cons : [] ≡ v ∷ vs → ⊥
    nil_cons z = cc

pub start_at : (c : Circuit) (p : Port) (v : Token) (vs : List Token) (o : Option Port) → c.feeder p ≡ o → initial (kind_of c o) ≡ v ∷ vs → InitBehind c p
start_at c p v vs None f h = cc
start_at c p v vs (Some q) f h = start_kind c p q v vs f (c.kind_at q.node) refl h

cons_behind : (xs : List Token) (w : Token) (ws : List Token) → (z : Token) × (zs : List Token) × (xs ++ w ∷ ws ≡ z ∷ zs)
cons_behind [] w ws = (w, ws, refl)
cons_behind (x ∷ xs) w ws = (x, xs ++ w ∷ ws, refl)

led_fed : (c : Circuit) (n : Name) (led : LedBy c n) (side : List (List Token)) (p : Port) (v : Token) (vs : List Token) (o : Option Port) → c.feeder p ≡ o → share_from n side o ≡ v ∷ vs → InitBehind c p
led_fed c n led side p v vs None f h = cc
led_fed c n led side p v vs (Some q) f h =
    elim (name_cases q.node n) [
      | inl is ↦ past q led.kind f (ap c.kind_at is.is ∙ led.is_kind) led.tree (subst (λ z. InitBehind c (record { node = z; port = 1 })) (sym is.is) led.comes)
      | inr ne ↦ let z : [] ≡ v ∷ vs = sym (share_other n side q ne.is_not) ∙ h in cc
    ]

pub step_comes_at : (c : Circuit) (s : CircuitState) (n : Name) (k : ℕ) (t : CircuitState) (st : Step c s n (Fire k) t) → LedBy c n → ((p : Port) (v : Token) (vs : List Token) → s.wires p ≡ v ∷ vs → InitBehind c p) → (p : Port) (v : Token) (vs : List Token) (b : List Token) → st.between p ≡ b → b ++ share_from n st.given (c.feeder p) ≡ v ∷ vs → InitBehind c p
step_comes_at c s n k t st led h p v vs [] e f = led_fed c n led st.given p v vs (c.feeder p) refl f
step_comes_at c s n k t st led h p v vs (w ∷ ws) e f =
    let (z, zs, g) = cons_behind (share n st.taken p) w ws in h p z zs (st.takes p ∙ ap (λ x. share n st.taken p ++ x) e ∙ g)

pub led_comes : (c : Circuit) (s : CircuitState) (fs : List Firing) (t : CircuitState) → AllByRecursion (λ f. LedBy c f.node) fs → Firings c s fs t → ((p : Port) (v : Token) (vs : List Token) → s.wires p ≡ v ∷ vs → InitBehind c p) → (p : Port) (v : Token) (vs : List Token) → t.wires p ≡ v ∷ vs → InitBehind c p
led_comes c s [] t led run h p v vs e = h p v vs (ap (λ (z : CircuitState). z.wires p) run ∙ e)
led_comes c s (f ∷ fs) t led run h p v vs e =
    led_comes c run.0 fs t led.1 run.2 (λ q w ws g. step_comes_at c s f.node f.choice run.0 run.1 led.0 h q w ws (run.1.between q) refl (sym (run.1.gives q) ∙ g)) p v vs e
