-- What holds tokens where the led nodes alone have fired.
use Rattle.std.proofs.Common.{◌≡◌, ℕ, inl, inr, refl, sym, ap, subst, ◌∙◌, List, [], ◌∷◌, ◌++◌, Option, Some, None}
use Rattle.std.specs.List.{AllByRecursion}
use Rattle.components.specs.declared.kind.Kind.{Kind}
use Rattle.components.specs.declared.kind.Kind.TheVariants.{Init}
use Rattle.components.specs.Name.{Name, Port}
use Rattle.circuits.specs.PortTokens.{Token, share, share_from}
use Rattle.circuits.specs.Circuit.{Circuit, kind_of}
use Rattle.circuits.specs.CircuitState.{CircuitState, start, initial}
use Rattle.circuits.specs.Firing.{Label.Fire}
use Rattle.circuits.specs.Run.{Step, Firing, Firings}
use Rattle.circuits.specs.Buffers.{first_port}
use Rattle.circuits.specs.Root.{PassesThrough, Root, Root.here, Root.past}
use Rattle.circuits.specs.Drains.{IsInit, ComesFromInit, Led, IsRest}
use Rattle.circuits.proofs.Names.{name_cases}
use Rattle.circuits.proofs.Steps.{share_other}

-- what holds a token at the start is an Init
initial_init : (k : Kind) (v : Token) (vs : List Token) → initial (Some k) ≡ v ∷ vs → IsInit k
initial_init (Init value mark) v vs e = tt
initial_init _ v vs e = let z : [] ≡ v ∷ vs = e in cc

-- no walk goes through an Init
pub init_stays : (k : Kind) → IsInit k → PassesThrough k → ⊥
init_stays (Init value mark) h p = p
init_stays _ h p = absurd h

-- only wires that come from an Init hold anything
abbrev pub Comes : Circuit → CircuitState → Type 0
Comes c s = (p : Port) (v : Token) (vs : List Token) → s.wires p ≡ v ∷ vs → ComesFromInit c p

module _ (c : Circuit) where
  start_kind : (p q : Port) (v : Token) (vs : List Token) → c.feeder p ≡ Some q → (k : Option Kind) → c.kind_at q.node ≡ k → initial k ≡ v ∷ vs → ComesFromInit c p
  start_kind p q v vs f None e h = let z : [] ≡ v ∷ vs = h in cc
  start_kind p q v vs f (Some k) e h =
      let is : IsInit k = initial_init k v vs h in
      record { root = q; is_root = here k f e (init_stays k is); source = k; is_source = e; is_init = is }

  start_at : (p : Port) (v : Token) (vs : List Token) (o : Option Port) → c.feeder p ≡ o → initial (kind_of c o) ≡ v ∷ vs → ComesFromInit c p
  start_at p v vs None f h = let z : [] ≡ v ∷ vs = h in cc
  start_at p v vs (Some q) f h = start_kind p q v vs f (c.kind_at q.node) refl h

  pub start_comes : Comes c (start c)
  start_comes p v vs e = start_at p v vs (c.feeder p) refl e

  fed_by_led : (n : Name) → Led c n → (p q : Port) → c.feeder p ≡ Some q → q.node ≡ n → ComesFromInit c p
  fed_by_led n led p q f is =
      let from = led.comes in
      record {
        root = from.root;
        is_root = past q led.kind f (ap c.kind_at is ∙ led.is_kind) led.passes (subst (λ z. Root c (first_port z) from.root) (sym is) from.is_root);
        source = from.source;
        is_source = from.is_source;
        is_init = from.is_init;
      }

  gift_comes : (n : Name) → Led c n → (side : List (List Token)) (p : Port) (v : Token) (vs : List Token) (o : Option Port) → c.feeder p ≡ o → share_from n side o ≡ v ∷ vs → ComesFromInit c p
  gift_comes n led side p v vs None f h = let z : [] ≡ v ∷ vs = h in cc
  gift_comes n led side p v vs (Some q) f h =
      elim (name_cases q.node n) [
        | inl is ↦ fed_by_led n led p q f is.is
        | inr ne ↦ let z : [] ≡ v ∷ vs = sym (share_other n side q ne.is_not) ∙ h in cc
      ]

  cons_behind : (xs : List Token) (w : Token) (ws : List Token) → (z : Token) × (zs : List Token) × (xs ++ w ∷ ws ≡ z ∷ zs)
  cons_behind [] w ws = (w, ws, refl)
  cons_behind (x ∷ xs) w ws = (x, xs ++ w ∷ ws, refl)

  step_comes_at : (s : CircuitState) (n : Name) (k : ℕ) (t : CircuitState) (st : Step c s n (Fire k) t) → Led c n → Comes c s →
      (p : Port) (v : Token) (vs : List Token) (b : List Token) → st.between p ≡ b → b ++ share_from n st.given (c.feeder p) ≡ v ∷ vs → ComesFromInit c p
  step_comes_at s n k t st led h p v vs [] e f = gift_comes n led st.given p v vs (c.feeder p) refl f
  step_comes_at s n k t st led h p v vs (w ∷ ws) e f =
      let (z, zs, g) = cons_behind (share n st.taken p) w ws in h p z zs (st.takes p ∙ ap (λ x. share n st.taken p ++ x) e ∙ g)

  pub led_comes : (s : CircuitState) (fs : List Firing) (t : CircuitState) → AllByRecursion (λ f. Led c f.node) fs → Firings c s fs t → Comes c s → Comes c t
  led_comes s [] t led run h p v vs e = h p v vs (ap (λ (z : CircuitState). z.wires p) run ∙ e)
  led_comes s (f ∷ fs) t led run h p v vs e =
      led_comes run.0 fs t led.1 run.2 (λ q w ws g. step_comes_at s f.node f.choice run.0 run.1 led.0 h q w ws (run.1.between q) refl (sym (run.1.gives q) ∙ g)) p v vs e

  pub rest_comes : (r : CircuitState) → IsRest c r → (p : Port) (v : Token) (vs : List Token) → r.wires p ≡ v ∷ vs → ComesFromInit c p
  rest_comes r is = led_comes (start c) is.firings r is.led is.leads start_comes
