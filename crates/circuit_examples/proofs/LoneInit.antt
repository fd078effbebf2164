-- An Init with a Buffer behind it: it is typed, it has a rest state, and it drains bits to its value followed by them.
use Rattle.std.proofs.Common.{◌≡◌, ◌≢◌, ℕ, zero, suc, ◌≤◌, ◌<◌, ◌⊎◌, inl, inr, true, false, refl, sym, ap, subst, ◌∙◌, if◌then◌else◌, slice_index_or, List, [], ◌∷◌, ◌++◌, Some, None, append-nil, append_assoc, arith}
use Rattle.std.specs.Ordering.{eq_by_cmp}
use Rattle.std.specs.List.{AllByRecursion}
use Rattle.std.proofs.lemmas.Option.{same_Some}
use Rattle.port_types.specs.Token.{Fits}
use Rattle.components.specs.declared.kind.Kind.{Kind}
use Rattle.components.specs.declared.kind.Kind.TheVariants.{Entry, Exit, Buffer, Init}
use Rattle.components.specs.Name.{Name, Port, port_cmp}
use Rattle.components.specs.Kind.{Shape, field, KindOk}
use Rattle.components.specs.NamedGraph.{IsTyped}
use Rattle.components.specs.Lookups.{other_test}
use Rattle.components.specs.Orders.{port_total, port_same, port_cases, same_bytes}
use Rattle.circuits.specs.PortTokens.{Token, single, one, at_port, share, share_from}
use Rattle.circuits.specs.Circuit.{Circuit, Typed, circuit_of, kind_of}
use Rattle.circuits.specs.CircuitState.{Slot, CircuitState, start, initial}
use Rattle.circuits.specs.Firing.{Label.Fire, Fires}
use Rattle.circuits.specs.Run.{Step, Firing, Firings}
use Rattle.circuits.specs.Buffers.{first_port}
use Rattle.circuits.specs.Root.{Root.here}
use Rattle.circuits.specs.Laws.{GraphIsTyped, RestIsOne}
use Rattle.circuits.specs.Drains.{Led, IsRest, put_on, loaded, IsNoExit, Drains}
use Rattle.circuit_examples.specs.LoneInit.{bits, init, passer, out, init_nodes, init_wires, lone_init}
use Rattle.circuits.proofs.Names.{name_cases}
use Rattle.circuits.proofs.Steps.{acts_at, share_same, share_other}
use Rattle.circuit_examples.proofs.Listed.{spelled, is_spelled, each_node, no_in, no_out, one_in, one_out, other_node, listed_typed, graph_is_typed}

module _ (value mark : ℕ) where
  abbrev c : Circuit
  c = spelled (init_nodes value mark) init_wires

  bits_init : bits ≢ init
  bits_init e = let z : false ≡ true = same_bytes bits init e in cc

  bits_passer : bits ≢ passer
  bits_passer e = let z : false ≡ true = same_bytes bits passer e in cc

  init_passer : init ≢ passer
  init_passer e = let z : false ≡ true = same_bytes init passer e in cc

  narrow : (k d : ℕ) → k < 1 → slice_index_or (field 1) k d ≤ 64
  narrow zero d below = omega arith
  narrow (suc k) d below = absurd (omega (arith, below))

  bit_ok : KindOk (Entry (field 1))
  bit_ok = record { some = omega arith; few = omega arith; narrow = narrow }

  typed : KindOk (Init value mark) → Typed c
  typed ok =
      listed_typed (init_nodes value mark) init_wires
      (record {
        kinds = (bit_ok, (ok, (bit_ok, (bit_ok, tt))));
        are_wires = (
          record { to = Init value mark; from = Entry (field 1); shape = field 1; is_to = refl; is_from = refl; enters = refl; leaves = refl },
          (
            record { to = Buffer (field 1); from = Init value mark; shape = field 1; is_to = refl; is_from = refl; enters = refl; leaves = refl },
            (record { to = Exit (field 1); from = Buffer (field 1); shape = field 1; is_to = refl; is_from = refl; enters = refl; leaves = refl }, tt),
          ),
        );
        inputs = (
          no_in c bits (Entry (field 1)) refl,
          (
            one_in c init (Init value mark) (field 1) refl (first_port bits) refl,
            (one_in c passer (Buffer (field 1)) (field 1) refl (first_port init) refl, (one_in c out (Exit (field 1)) (field 1) refl (first_port passer) refl, tt)),
          ),
        );
        outputs = (
          one_out c bits (Entry (field 1)) (field 1) refl (first_port init) refl,
          (
            one_out c init (Init value mark) (field 1) refl (first_port passer) refl,
            (one_out c passer (Buffer (field 1)) (field 1) refl (first_port out) refl, (no_out c out (Exit (field 1)) refl, tt)),
          ),
        );
        once = (
          ((λ e. refl), (other_node _ _ _ _ (λ e. bits_init (sym e)), (other_node _ _ _ _ (λ e. bits_passer (sym e)), tt))),
          (
            (other_node _ _ _ _ bits_init, ((λ e. refl), (other_node _ _ _ _ (λ e. init_passer (sym e)), tt))),
            ((other_node _ _ _ _ bits_passer, (other_node _ _ _ _ init_passer, ((λ e. refl), tt))), tt),
          ),
        );
        size = 7;
        names = (omega arith, (omega arith, (omega arith, (omega arith, tt))));
      })

  pub init_typed : GraphIsTyped → KindOk (Init value mark) → IsTyped (lone_init value mark)
  init_typed law ok = graph_is_typed law (init_nodes value mark) init_wires (typed ok)

  -- the state in which the wires into the Init, the Buffer and the Exit hold these
  abbrev held : List Token → List Token → List Token → Port → List Token
  held xs ys zs p =
      if eq_by_cmp port_cmp p (first_port init) then xs else (if eq_by_cmp port_cmp p (first_port passer) then ys else (if eq_by_cmp port_cmp p (first_port out) then zs else []))

  abbrev at : List Token → List Token → List Token → CircuitState
  at xs ys zs = record { wires = held xs ys zs; slots = λ n. [] }

  -- no wire enters this port
  record Elsewhere (p : Port) : Type 0 where
    no_init : p ≢ first_port init
    no_passer : p ≢ first_port passer
    empty : (xs ys zs : List Token) → held xs ys zs p ≡ []
    unfed : c.feeder p ≡ None

  -- each port is one of these, or is elsewhere
  by_port : (P : Port → Type 0) → P (first_port init) → P (first_port passer) → P (first_port out) → ((p : Port) → Elsewhere p → P p) → (p : Port) → P p
  by_port P at_init at_passer at_out else_ p =
      elim (port_cases p (first_port init)) [
        | inl is ↦ subst P (sym is) at_init
        | inr a ↦ elim (port_cases p (first_port passer)) [
          | inl is ↦ subst P (sym is) at_passer
          | inr b ↦ elim (port_cases p (first_port out)) [
            | inl is ↦ subst P (sym is) at_out
            | inr d ↦
                let a_test = other_test port_total port_same p (first_port init) a in
                let b_test = other_test port_total port_same p (first_port passer) b in
                let d_test = other_test port_total port_same p (first_port out) d in
                else_ p
                (record {
                  no_init = a;
                  no_passer = b;
                  empty = λ xs ys zs i. if a_test i then xs else (if b_test i then ys else (if d_test i then zs else []));
                  unfed = λ i. if a_test i then Some (first_port bits) else (if b_test i then Some (first_port init) else (if d_test i then Some (first_port passer) else None));
                })
          ]
        ]
      ]

  one_at : (v : Token) (i : ℕ) → i ≢ 1 → at_port (one v ∷ []) i ≡ []
  one_at v zero h = refl
  one_at v (suc zero) h = absurd (h refl)
  one_at v (suc (suc i)) h = refl

  none_else : (n : Name) (v : Token) (p : Port) → p ≢ first_port n → share n (one v ∷ []) p ≡ []
  none_else n v p ne =
      elim (name_cases p.node n) [
        | inl is ↦ share_same n (one v ∷ []) p is.is ∙ one_at v p.port (λ e. ne (λ i. record { node = is.is i; port = e i }))
        | inr away ↦ share_other n (one v ∷ []) p away.is_not
      ]

  -- the Init and the Buffer pass a token each
  init_passes : (v : Token) (xs ys zs : List Token) → Step c (at (v ∷ xs) ys zs) init (Fire 0) (at xs (ys ++ one v) zs)
  init_passes v xs ys zs =
      record {
        kind = Init value mark;
        is_kind = refl;
        taken = one v ∷ [];
        given = one v ∷ [];
        acts = (v, refl, refl, refl, refl);
        between = held xs ys zs;
        takes = by_port (λ p. held (v ∷ xs) ys zs p ≡ share init (one v ∷ []) p ++ held xs ys zs p) refl refl refl
            (λ p away. away.empty (v ∷ xs) ys zs ∙ (λ i. sym (none_else init v p away.no_init) i ++ sym (away.empty xs ys zs) i));
        gives = by_port (λ p. held xs (ys ++ one v) zs p ≡ held xs ys zs p ++ share_from init (one v ∷ []) (c.feeder p)) (sym (append-nil xs)) refl (sym (append-nil zs))
            (λ p away. away.empty xs (ys ++ one v) zs ∙ (λ i. sym (away.empty xs ys zs) i ++ share_from init (one v ∷ []) (sym away.unfed i)));
        others = λ m ne. refl;
      }

  passer_passes : (v : Token) (xs ys zs : List Token) → Step c (at xs (v ∷ ys) zs) passer (Fire 0) (at xs ys (zs ++ one v))
  passer_passes v xs ys zs =
      record {
        kind = Buffer (field 1);
        is_kind = refl;
        taken = one v ∷ [];
        given = one v ∷ [];
        acts = (v, refl, refl, refl, refl);
        between = held xs ys zs;
        takes = by_port (λ p. held xs (v ∷ ys) zs p ≡ share passer (one v ∷ []) p ++ held xs ys zs p) refl refl refl
            (λ p away. away.empty xs (v ∷ ys) zs ∙ (λ i. sym (none_else passer v p away.no_passer) i ++ sym (away.empty xs ys zs) i));
        gives = by_port (λ p. held xs ys (zs ++ one v) p ≡ held xs ys zs p ++ share_from passer (one v ∷ []) (c.feeder p)) (sym (append-nil xs)) (sym (append-nil ys)) refl
            (λ p away. away.empty xs ys (zs ++ one v) ∙ (λ i. sym (away.empty xs ys zs) i ++ share_from passer (one v ∷ []) (sym away.unfed i)));
        others = λ m ne. refl;
      }

  -- the states at the start
  start_is : start c ≡ at [] (one (single value)) []
  start_is = λ i. record { wires = λ p. wires_are p i; slots = λ n. [] }
    where
      wires_are : (p : Port) → (start c).wires p ≡ held [] (one (single value)) [] p
      wires_are = by_port (λ p. (start c).wires p ≡ held [] (one (single value)) [] p) refl refl refl
          (λ p away. ap (λ o. initial (kind_of c o)) away.unfed ∙ sym (away.empty [] (one (single value)) []))

  loaded_is : (given : Name → List Token) → loaded c given ≡ at (given bits) (one (single value)) []
  loaded_is given = λ i. record { wires = λ p. wires_are p i; slots = λ n. [] }
    where
      wires_are : (p : Port) → (loaded c given).wires p ≡ held (given bits) (one (single value)) [] p
      wires_are = by_port (λ p. (loaded c given).wires p ≡ held (given bits) (one (single value)) [] p) refl refl refl
          (λ p away. ap (λ o. initial (kind_of c o) ++ put_on c given o) away.unfed ∙ sym (away.empty (given bits) (one (single value)) []))

  -- only the Init and the Buffer fire, and each passes a token
  abbrev NeverFires : Kind → Type 0
  NeverFires k = (choice : ℕ) (old : List Slot) (taken given : List (List Token)) (new : List Slot) → Fires k choice old taken given new → ⊥

  abbrev Sort : Name → Kind → Type 0
  Sort n k = NeverFires k ⊎ ((n ≡ init) ⊎ (n ≡ passer))

  sorts : AllByRecursion (λ node. Sort node.name node.kind) (init_nodes value mark)
  sorts = (
    inl (λ choice old taken given new h. h),
    (inr (inl refl), (inr (inr refl), (inl (λ choice old taken given new h. h), tt))),
  )

  -- the node n passes a token
  record Passed (s : CircuitState) (n : Name) (choice : ℕ) (t : CircuitState) : Type 0 where
    step : Step c s n (Fire choice) t
    token : Token
    is_taken : step.taken ≡ one token ∷ []
    is_given : step.given ≡ one token ∷ []

  passed : (s : CircuitState) (n : Name) (choice : ℕ) (t : CircuitState) → Step c s n (Fire choice) t → Passed s init choice t ⊎ Passed s passer choice t
  passed s n choice t st =
      elim (each_node Sort (init_nodes value mark) sorts n st.kind st.is_kind) [
        | inl none ↦ absurd (none choice (s.slots n) st.taken st.given (t.slots n) st.acts)
        | inr (inl is) ↦ inl (by_init (subst (λ z. Step c s z (Fire choice) t) is st))
        | inr (inr is) ↦ inr (by_passer (subst (λ z. Step c s z (Fire choice) t) is st))
      ]
    where
      by_init : Step c s init (Fire choice) t → Passed s init choice t
      by_init its =
          let (v, z, et, eg, en) = acts_at c s init (Fire choice) t its (Init value mark) refl in
          record { step = its; token = v; is_taken = et; is_given = eg }

      by_passer : Step c s passer (Fire choice) t → Passed s passer choice t
      by_passer its =
          let (v, z, et, eg, en) = acts_at c s passer (Fire choice) t its (Buffer (field 1)) refl in
          record { step = its; token = v; is_taken = et; is_given = eg }

  -- the first token on its wire
  first_is : (s : CircuitState) (n : Name) (choice : ℕ) (t : CircuitState) (h : Passed s n choice t) → s.wires (first_port n) ≡ h.token ∷ h.step.between (first_port n)
  first_is s n choice t h =
      h.step.takes (first_port n)
      ∙ ap (λ z. z ++ h.step.between (first_port n)) (share_same n h.step.taken (first_port n) refl ∙ ap (λ z. at_port z 1) h.is_taken)

  none_passes : (zs : List Token) (n : Name) (choice : ℕ) (t : CircuitState) → Step c (at [] [] zs) n (Fire choice) t → ⊥
  none_passes zs n choice t st =
      elim (passed (at [] [] zs) n choice t st) [
        | inl h ↦ empty h.token (h.step.between (first_port init)) (first_is (at [] [] zs) init choice t h)
        | inr h ↦ empty h.token (h.step.between (first_port passer)) (first_is (at [] [] zs) passer choice t h)
      ]
    where
      empty : (v : Token) (vs : List Token) → [] ≡ v ∷ vs → ⊥
      empty v vs e = cc

  -- at rest
  rest : CircuitState
  rest = at [] [] (one (single value))

  led : Led c passer
  led =
      record {
        kind = Buffer (field 1);
        is_kind = refl;
        passes = tt;
        comes =
            record {
              root = first_port init;
              is_root = here (Init value mark) refl refl (λ h. h);
              source = Init value mark;
              is_source = refl;
              is_init = tt;
            };
      }

  rests : IsRest c rest
  unfolding rest
  rests =
      record {
        firings = record { node = passer; choice = 0 } ∷ [];
        led = (led, tt);
        leads = (rest, subst (λ s. Step c s passer (Fire 0) rest) (sym start_is) (passer_passes (single value) [] [] []), refl);
        ends = λ n choice t is st. none_passes (one (single value)) n choice t st;
      }

  pub init_rests : (r : CircuitState) × IsRest (circuit_of (lone_init value mark)) r × (r.wires (first_port out) ≡ one (single value))
  unfolding rest
  init_rests = (rest, subst (λ z. IsRest z rest) (sym (is_spelled (init_nodes value mark) init_wires)) rests, refl)

  -- all that comes in leaves
  flush : (xs zs : List Token) → (fs : List Firing) × Firings c (at xs [] zs) fs (at [] [] (zs ++ xs))
  flush [] zs = ([], ap (at [] []) (sym (append-nil zs)))
  flush (v ∷ xs) zs =
      let (fs, run) = flush xs (zs ++ one v) in (
        record { node = init; choice = 0 } ∷ record { node = passer; choice = 0 } ∷ fs,
        (
          at xs (one v) zs,
          init_passes v xs [] zs,
          (at xs [] (zs ++ one v), passer_passes v xs [] zs, subst (λ z. Firings c (at xs [] (zs ++ one v)) fs (at [] [] z)) (append_assoc zs (one v) xs) run),
        ),
      )

  abbrev shape_of : Kind → Shape
  shape_of (Entry a) = a
  shape_of (Exit a) = a
  shape_of _ = []

  module _ (given gotten : Name → List Token) where
    abbrev FitsIn : Name → Kind → Type 0
    FitsIn n k = (a : Shape) → k ≡ Entry a → AllByRecursion (Fits a) (given n)

    fits_in : AllByRecursion (Fits (field 1)) (given bits) → AllByRecursion (λ node. FitsIn node.name node.kind) (init_nodes value mark)
    fits_in fit = (
      (λ a e. subst (λ z. AllByRecursion (Fits z) (given bits)) (ap shape_of e) fit),
      ((λ a e. let z : Init value mark ≡ Entry a = e in cc), ((λ a e. let z : Buffer (field 1) ≡ Entry a = e in cc), ((λ a e. let z : Exit (field 1) ≡ Entry a = e in cc), tt))),
    )

    -- at the Exit stands the value, followed by what was put in
    abbrev end : CircuitState
    end = at [] [] (one (single value) ++ given bits)

    abbrev AtExit : Name → Kind → Type 0
    AtExit n k = (a : Shape) → k ≡ Exit a → AllByRecursion (Fits a) (gotten n) × (end.wires (first_port n) ≡ gotten n)

    at_exit : AllByRecursion (Fits (field 1)) (gotten out) → one (single value) ++ given bits ≡ gotten out → AllByRecursion (λ node. AtExit node.name node.kind) (init_nodes value mark)
    at_exit fit is = (
      (λ a e. let z : Entry (field 1) ≡ Exit a = e in cc),
      (
        (λ a e. let z : Init value mark ≡ Exit a = e in cc),
        ((λ a e. let z : Buffer (field 1) ≡ Exit a = e in cc), ((λ a e. (subst (λ z. AllByRecursion (Fits z) (gotten out)) (ap shape_of e) fit, is)), tt)),
      ),
    )

    at_rest : (p : Port) → (k : Kind) → c.kind_at p.node ≡ Some k → IsNoExit k → end.wires p ≡ rest.wires p
    unfolding rest
    at_rest =
        by_port (λ p. (k : Kind) → c.kind_at p.node ≡ Some k → IsNoExit k → end.wires p ≡ rest.wires p)
        (λ k e no_exit. refl) (λ k e no_exit. refl)
        (λ k e no_exit. absurd (subst IsNoExit (sym (same_Some (Exit (field 1)) k e)) no_exit))
        (λ p away k e no_exit. away.empty [] [] (one (single value) ++ given bits) ∙ sym (away.empty [] [] (one (single value))))

    drains : KindOk (Init value mark) → AllByRecursion (Fits (field 1)) (given bits) → gotten out ≡ single value ∷ given bits → Drains c given gotten
    drains ok fit is =
        let (fs, run) = flush (given bits) (one (single value)) in
        let value_fits : Fits (field 1) (single value) = (omega (arith, ok.0), tt) in
        let exit = at_exit (subst (AllByRecursion (Fits (field 1))) (sym is) (value_fits, fit)) (sym is) in
        record {
          fit_in = λ n a e. each_node FitsIn (init_nodes value mark) (fits_in fit) n (Entry a) e a refl;
          fit_out = λ n a e. (each_node AtExit (init_nodes value mark) exit n (Exit a) e a refl).0;
          rest = rest;
          is_rest = rests;
          firings = record { node = passer; choice = 0 } ∷ fs;
          end = end;
          leads = (
            at (given bits) [] (one (single value)),
            subst (λ s. Step c s passer (Fire 0) (at (given bits) [] (one (single value)))) (sym (loaded_is given)) (passer_passes (single value) (given bits) [] []),
            run,
          );
          slots = λ n k e. refl;
          exits = λ n a e. (each_node AtExit (init_nodes value mark) exit n (Exit a) e a refl).1;
          others = at_rest;
        }

    -- no firing changes what stands on the wires together
    abbrev all_of : CircuitState → List Token
    all_of s = s.wires (first_port out) ++ (s.wires (first_port passer) ++ s.wires (first_port init))

    init_keeps : (s : CircuitState) (choice : ℕ) (t : CircuitState) → Passed s init choice t → all_of s ≡ all_of t
    init_keeps s choice t h =
        let x = h.step.between (first_port init) in
        let y = h.step.between (first_port passer) in
        let z = h.step.between (first_port out) in
        (λ i. h.step.takes (first_port out) i ++ (h.step.takes (first_port passer) i ++ first_is s init choice t h i))
        ∙ ap (λ w. z ++ w) (sym (append_assoc y (one h.token) x))
        ∙ sym (λ i. (h.step.gives (first_port out) ∙ append-nil z) i
        ++ ((h.step.gives (first_port passer) ∙ ap (λ w. y ++ at_port w 1) h.is_given) i ++ (h.step.gives (first_port init) ∙ append-nil x) i))

    passer_keeps : (s : CircuitState) (choice : ℕ) (t : CircuitState) → Passed s passer choice t → all_of s ≡ all_of t
    passer_keeps s choice t h =
        let x = h.step.between (first_port init) in
        let y = h.step.between (first_port passer) in
        let z = h.step.between (first_port out) in
        (λ i. h.step.takes (first_port out) i ++ (first_is s passer choice t h i ++ h.step.takes (first_port init) i))
        ∙ sym (append_assoc z (one h.token) (y ++ x))
        ∙ sym (λ i. (h.step.gives (first_port out) ∙ ap (λ w. z ++ at_port w 1) h.is_given) i
        ++ ((h.step.gives (first_port passer) ∙ append-nil y) i ++ (h.step.gives (first_port init) ∙ append-nil x) i))

    firings_keep : (s : CircuitState) (fs : List Firing) (t : CircuitState) → Firings c s fs t → all_of s ≡ all_of t
    firings_keep s [] t run = ap all_of run
    firings_keep s (f ∷ fs) t run =
        elim (passed s f.node f.choice run.0 run.1) [ inl h ↦ init_keeps s f.choice run.0 h | inr h ↦ passer_keeps s f.choice run.0 h ] ∙ firings_keep run.0 fs t run.2

    drains_only : RestIsOne → Drains c given gotten → AllByRecursion (Fits (field 1)) (given bits) × (gotten out ≡ single value ∷ given bits)
    unfolding rest
    drains_only law d =
        let same : d.rest ≡ rest = law c d.rest rest d.is_rest rests in
        let no_init : d.end.wires (first_port init) ≡ [] = d.others (first_port init) (Init value mark) refl tt ∙ ap (λ (s : CircuitState). s.wires (first_port init)) same in
        let no_passer : d.end.wires (first_port passer) ≡ [] = d.others (first_port passer) (Buffer (field 1)) refl tt ∙ ap (λ (s : CircuitState). s.wires (first_port passer)) same in
        let kept : single value ∷ given bits ≡ all_of d.end = sym (ap all_of (loaded_is given)) ∙ firings_keep (loaded c given) d.firings d.end d.leads in (
          d.fit_in bits (field 1) refl,
          sym (d.exits out (field 1) refl) ∙ sym (append-nil (d.end.wires (first_port out)))
              ∙ (λ i. d.end.wires (first_port out) ++ (sym no_passer i ++ sym no_init i)) ∙ sym kept,
        )

pub init_drains : (value mark : ℕ) (given gotten : Name → List Token) → KindOk (Init value mark) → AllByRecursion (Fits (field 1)) (given bits) → gotten out ≡ single value ∷ given bits →
    Drains (circuit_of (lone_init value mark)) given gotten
init_drains value mark given gotten ok fit is =
    subst (λ z. Drains z given gotten) (sym (is_spelled (init_nodes value mark) init_wires)) (drains value mark given gotten ok fit is)

pub init_drains_only : RestIsOne → (value mark : ℕ) (given gotten : Name → List Token) → Drains (circuit_of (lone_init value mark)) given gotten →
    AllByRecursion (Fits (field 1)) (given bits) × (gotten out ≡ single value ∷ given bits)
init_drains_only law value mark given gotten d =
    drains_only value mark given gotten law (subst (λ z. Drains z given gotten) (is_spelled (init_nodes value mark) init_wires) d)
