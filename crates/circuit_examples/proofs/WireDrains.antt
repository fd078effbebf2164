-- A wire from an Entry to an Exit drains tokens that fit to themselves, and to nothing else.
use Rattle.std.proofs.Common.{◌≡◌, inl, inr, refl, sym, ap, subst, ◌∙◌, if◌then◌else◌, List, [], ◌∷◌, ◌++◌, Some, None}
use Rattle.std.specs.List.{AllByRecursion}
use Rattle.port_types.specs.Token.{Fits}
use Rattle.components.specs.declared.kind.Kind.{Kind}
use Rattle.components.specs.declared.kind.Kind.TheVariants.{Entry, Exit}
use Rattle.components.specs.Name.{Name, Port}
use Rattle.components.specs.Kind.{Shape}
use Rattle.components.specs.Lookups.{other_test}
use Rattle.components.specs.Orders.{port_total, port_same, port_cases}
use Rattle.circuits.specs.PortTokens.{Token}
use Rattle.circuits.specs.Circuit.{circuit_of, kind_of}
use Rattle.circuits.specs.CircuitState.{CircuitState, start, initial}
use Rattle.circuits.specs.Run.{Firing, Firings}
use Rattle.circuits.specs.Buffers.{first_port}
use Rattle.circuits.specs.Laws.{RestsWithoutInit}
use Rattle.circuits.specs.Drains.{IsInit, put_on, loaded, IsNoExit, Drains}
use Rattle.circuit_examples.specs.LoneWire.{entry_name, exit_name, lone_wire}
use Rattle.circuit_examples.proofs.LoneWire.{wire, is_wire, Node, Node.first, Node.last, node, no_fire}

-- the shape of an Entry or an Exit
shape_of : Shape → Kind → Shape
shape_of other (Entry a) = a
shape_of other (Exit a) = a
shape_of other _ = other

names_apart : entry_name ≡ exit_name → ⊥
names_apart e = cc

no_init : (shape : Shape) (n : Name) (k : Kind) → Node shape n k → IsInit k → ⊥
no_init shape n k (first is e) h = subst IsInit e h
no_init shape n k (last is e) h = subst IsInit e h

module _ (shape : Shape) (ins outs : Name → List Token) where
  entry_fits : AllByRecursion (Fits shape) (ins entry_name) → (n : Name) (a : Shape) → Node shape n (Entry a) → AllByRecursion (Fits a) (ins n)
  unfolding shape_of
  entry_fits fit n a (first is e) =
      subst (λ x. AllByRecursion (Fits x) (ins n)) (sym (ap (shape_of shape) e)) (subst (λ x. AllByRecursion (Fits shape) (ins x)) (sym is) fit)
  entry_fits fit n a (last is e) = let z : Entry a ≡ Exit shape = e in cc

  exit_fits : AllByRecursion (Fits shape) (outs exit_name) → (n : Name) (a : Shape) → Node shape n (Exit a) → AllByRecursion (Fits a) (outs n)
  unfolding shape_of
  exit_fits fit n a (last is e) =
      subst (λ x. AllByRecursion (Fits x) (outs n)) (sym (ap (shape_of shape) e)) (subst (λ x. AllByRecursion (Fits shape) (outs x)) (sym is) fit)
  exit_fits fit n a (first is e) = let z : Exit a ≡ Entry shape = e in cc

  at_exit : outs exit_name ≡ ins entry_name → (n : Name) (a : Shape) → Node shape n (Exit a) → (loaded (wire shape) ins).wires (first_port n) ≡ outs n
  at_exit same n a (last is e) = ap (λ x. (loaded (wire shape) ins).wires (first_port x)) is ∙ sym same ∙ ap outs (sym is)
  at_exit same n a (first is e) = let z : Exit a ≡ Entry shape = e in cc

  elsewhere : (p : Port) (k : Kind) → Node shape p.node k → IsNoExit k → (loaded (wire shape) ins).wires p ≡ (start (wire shape)).wires p
  elsewhere p k (last is e) no_exit = absurd (subst IsNoExit e no_exit)
  elsewhere p k (first is e) no_exit =
      elim (port_cases p (first_port exit_name)) [
        | inl same ↦ absurd (names_apart (sym is ∙ ap (λ (x : Port). x.node) same))
        | inr other ↦
            let test = other_test port_total port_same p (first_port exit_name) other in
            ap (λ b. initial (kind_of (wire shape) (if b then Some (first_port entry_name) else None)) ++ put_on (wire shape) ins (if b then Some (first_port entry_name) else None)) test
            ∙ ap (λ b. initial (kind_of (wire shape) (if b then Some (first_port entry_name) else None))) (sym test)
      ]

  drains : RestsWithoutInit → AllByRecursion (Fits shape) (ins entry_name) → outs exit_name ≡ ins entry_name → Drains (wire shape) ins outs
  drains law fit same =
      record {
        fit_in = λ n a e. entry_fits fit n a (node shape n (Entry a) e);
        fit_out = λ n a e. exit_fits (subst (AllByRecursion (Fits shape)) (sym same) fit) n a (node shape n (Exit a) e);
        rest = start (wire shape);
        is_rest = law (wire shape) (λ n k e. no_init shape n k (node shape n k e));
        firings = [];
        end = loaded (wire shape) ins;
        leads = refl;
        slots = λ n k e. refl;
        exits = λ n a e. at_exit same n a (node shape n (Exit a) e);
        others = λ p k e no_exit. elsewhere p k (node shape p.node k e) no_exit;
      }

  nothing_fires : (s t : CircuitState) (fs : List Firing) → Firings (wire shape) s fs t → s ≡ t
  nothing_fires s t [] run = run
  nothing_fires s t (f ∷ fs) run = absurd (no_fire shape s f.node f.choice run.0 run.1)

  to_itself : Drains (wire shape) ins outs → outs exit_name ≡ ins entry_name
  to_itself d =
      sym (d.exits exit_name shape refl) ∙ ap (λ (s : CircuitState). s.wires (first_port exit_name)) (sym (nothing_fires (loaded (wire shape) ins) d.end d.firings d.leads))

pub wire_drains : RestsWithoutInit → (shape : Shape) (ins outs : Name → List Token) → AllByRecursion (Fits shape) (ins entry_name) → outs exit_name ≡ ins entry_name → Drains (circuit_of (lone_wire shape)) ins outs
wire_drains law shape ins outs fit same = subst (λ c. Drains c ins outs) (sym (is_wire shape)) (drains shape ins outs law fit same)

pub wire_drains_only : (shape : Shape) (ins outs : Name → List Token) → Drains (circuit_of (lone_wire shape)) ins outs → AllByRecursion (Fits shape) (ins entry_name) × (outs exit_name ≡ ins entry_name)
wire_drains_only shape ins outs h =
    let d : Drains (wire shape) ins outs = subst (λ c. Drains c ins outs) (is_wire shape) h in (d.fit_in entry_name shape refl, to_itself shape ins outs d)
