-- The two notions of what a node is led by, and so of drains, say the same.
use Rattle.std.proofs.Common.{◌≡◌, refl, subst, List, Some}
use Rattle.std.specs.List.{AllByRecursion}
use Rattle.port_types.specs.Token.{Fits}
use Rattle.components.specs.declared.kind.Kind.{Kind}
use Rattle.components.specs.declared.kind.Kind.TheVariants.{Exit, Init}
use Rattle.components.specs.Name.{Name, Port}
use Rattle.components.specs.Kind.{Shape}
use Rattle.circuits.specs.PortTokens.{Token}
use Rattle.circuits.specs.Values.{ValuesFit}
use Rattle.circuits.specs.Circuit.{Circuit, Typed}
use Rattle.circuits.specs.CircuitState.{CircuitState}
use Rattle.circuits.specs.Refines.{SamePorts}
use Rattle.circuits.specs.Buffers.{first_port}
use Rattle.circuits.specs.Root.{Root, here, past}
use Rattle.circuits.specs.Drains.{IsInit, ComesFromInit, Led, IsRest, Drains, loaded}
use Rattle.circuits.proofs.Lists.{each_map}
use Rattle.part_drains.specs.Part.{HoldsRest, KeepsDrains}
use Rattle.part_drains.proofs.Draining.{InitBehind, InitBehind.past, LedBy, RestsAt, DrainsTo, HoldsRestBy, InputsFit, KeepsDrainsTo}
use Rattle.part_drains.proofs.Untouched.{firings_fit}
use Rattle.part_drains.proofs.PartStates.{loaded_fits}

module _ (c : Circuit) where
  from_root : (p q : Port) (k : Kind) → Root c p q → c.kind_at q.node ≡ Some k → IsInit k → InitBehind c p
  from_root p q (Init v m) (here j f e stops) g is = InitBehind.init q v m f g
  from_root p q _ (here j f e stops) g is = absurd is
  from_root p q k (past r j f e pass root) g is = InitBehind.past r j f e pass (from_root (first_port r.node) q k root g is)

  pub behind_of : (p : Port) → ComesFromInit c p → InitBehind c p
  behind_of p h = from_root p h.root h.source h.is_root h.is_source h.is_init

  pub comes_of : (p : Port) → InitBehind c p → ComesFromInit c p
  comes_of p (InitBehind.init q v m f e) =
      record { root = q; is_root = here (Init v m) f e (λ z. z); source = Init v m; is_source = e; is_init = tt }
  comes_of p (InitBehind.past q k f e pass go) =
      let h = comes_of (first_port q.node) go in
      record { root = h.root; is_root = past q k f e pass h.is_root; source = h.source; is_source = h.is_source; is_init = h.is_init }

  led_by : (n : Name) → Led c n → LedBy c n
  led_by n h = record { kind = h.kind; is_kind = h.is_kind; tree = h.passes; comes = behind_of (first_port n) h.comes }

  led_of : (n : Name) → LedBy c n → Led c n
  led_of n h = record { kind = h.kind; is_kind = h.is_kind; passes = h.tree; comes = comes_of (first_port n) h.comes }

  rests_at : (s : CircuitState) → IsRest c s → RestsAt c s
  rests_at s h =
      record {
        firings = h.firings;
        led = each_map (λ f. Led c f.node) (λ f. LedBy c f.node) (λ f l. led_by f.node l) h.firings h.led;
        leads = h.leads;
        ends = λ n k t l st. h.ends n k t (led_of n l) st;
      }

  rest_of : (s : CircuitState) → RestsAt c s → IsRest c s
  rest_of s h =
      record {
        firings = h.firings;
        led = each_map (λ f. LedBy c f.node) (λ f. Led c f.node) (λ f l. led_of f.node l) h.firings h.led;
        leads = h.leads;
        ends = λ n k t l st. h.ends n k t (led_by n l) st;
      }

  pub drains_to : (ins outs : Name → List Token) → Drains c ins outs → DrainsTo c ins outs
  drains_to ins outs d =
      record { rest = d.rest; is_rest = rests_at d.rest d.is_rest; firings = d.firings; end = d.end; leads = d.leads; slots = d.slots; exits = d.exits; others = d.others }

  -- where what comes in and what goes out fits
  pub drains_of : (ins outs : Name → List Token) → InputsFit c ins → ((n : Name) (a : Shape) → c.kind_at n ≡ Some (Exit a) → AllByRecursion (Fits a) (outs n)) →
      DrainsTo c ins outs → Drains c ins outs
  drains_of ins outs fit_in fit_out d =
      record {
        fit_in = fit_in;
        fit_out = fit_out;
        rest = d.rest;
        is_rest = rest_of d.rest d.is_rest;
        firings = d.firings;
        end = d.end;
        leads = d.leads;
        slots = d.slots;
        exits = d.exits;
        others = d.others;
      }

  pub holds_by : HoldsRest c → HoldsRestBy c
  holds_by h = record { inputs = h.inputs; outputs = λ n a e behind. h.outputs n a e (comes_of (first_port n) behind) }

pub keeps_to : ValuesFit → (c d : Circuit) → Typed c → KeepsDrains c d → KeepsDrainsTo c d
keeps_to values c d ty keep ins outs fit h =
    let fits = firings_fit values c ty (loaded c ins) h.firings h.end h.leads (loaded_fits c ty ins fit) in
    drains_to d ins outs
    (keep ins outs
    (drains_of c ins outs fit (λ n a e. subst (AllByRecursion (Fits a)) (h.exits n a e) (fits.wires (first_port n) (Exit a) a e refl)) h))

-- the ends being the same, the outputs fit as they did
pub keeps_of : (c d : Circuit) → SamePorts d c → KeepsDrainsTo c d → KeepsDrains c d
keeps_of c d ports keep ins outs h =
    drains_of d ins outs (λ n a e. h.fit_in n a ((ports.entries n a).0 e)) (λ n a e. h.fit_out n a ((ports.exits n a).0 e))
    (keep ins outs h.fit_in (drains_to c ins outs h))
