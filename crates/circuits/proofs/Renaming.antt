-- Circuits whose names are exchanged in pairs.
use Rattle.std.proofs.Common.{◌≡◌, inl, inr, refl, sym, ap, subst, ◌∙◌, bytes_eq, if◌then◌else◌, List, [], ◌∷◌, ◌++◌, Option, Some, None}
use Rattle.components.specs.declared.kind.Kind.{Kind}
use Rattle.components.specs.Name.{Name, Port}
use Rattle.components.specs.Orders.{same_bytes, other_bytes}
use Rattle.circuits.specs.PortTokens.{Token, share, share_from, at_port}
use Rattle.circuits.specs.Circuit.{Circuit, kind_of, Typed}
use Rattle.circuits.specs.CircuitState.{CircuitState, start, initial}
use Rattle.circuits.specs.Firing.{Label, Label.Feed, Label.Take, Label.Fire, Acts}
use Rattle.circuits.specs.Run.{Step, Move, Run, trace, shown, Shows}
use Rattle.circuits.specs.Plug.{PlugLink, link, link_all, redirect, plug, beside, or_else, as_buffer}
use Rattle.circuits.specs.Renaming.{Swap, port_to, fed_to, renamed}
use Rattle.circuits.proofs.Names.{name_cases}
use Rattle.circuits.proofs.Beside.{unfed}

abbrev pub state_to : Swap → CircuitState → CircuitState
state_to x s = record { wires = λ p. s.wires (port_to x p); slots = λ n. s.slots (x.to n) }

abbrev pub move_to : Swap → Move → Move
move_to x m = record { node = x.to m.node; label = m.label }

abbrev pub moves_to : Swap → List Move → List Move
moves_to x [] = []
moves_to x (m ∷ ms) = move_to x m ∷ moves_to x ms

abbrev pub link_to : Swap → PlugLink → PlugLink
link_to x l = record { exit = x.to l.exit; entry = x.to l.entry }

abbrev pub links_to : Swap → List PlugLink → List PlugLink
links_to x [] = []
links_to x (l ∷ ls) = link_to x l ∷ links_to x ls

-- the tests of names
pub to_inj : (x : Swap) (a b : Name) → x.to a ≡ x.to b → a ≡ b
to_inj x a b e = sym (x.back a) ∙ ap x.to e ∙ x.back b

test_both : (x : Swap) (a b : Name) → bytes_eq (x.to a) (x.to b) ≡ bytes_eq a b
test_both x a b =
    elim (name_cases a b) [
      | inl is ↦ same_bytes (x.to a) (x.to b) (ap x.to is.is) ∙ sym is.test
      | inr ne ↦ other_bytes (x.to a) (x.to b) (λ e. ne.is_not (to_inj x a b e)) ∙ sym ne.test
    ]

pub test_to : (x : Swap) (a b : Name) → bytes_eq a (x.to b) ≡ bytes_eq (x.to a) b
test_to x a b = ap (λ z. bytes_eq z (x.to b)) (sym (x.back a)) ∙ test_both x (x.to a) b

share_to : (x : Swap) (n : Name) (side : List (List Token)) (p : Port) → share (x.to n) side p ≡ share n side (port_to x p)
share_to x n side p = ap (λ b. if b then at_port side p.port else []) (test_to x p.node n)

share_from_to : (x : Swap) (n : Name) (side : List (List Token)) (o : Option Port) → share_from (x.to n) side (fed_to x o) ≡ share_from n side o
share_from_to x n side None = refl
share_from_to x n side (Some q) = ap (λ b. if b then at_port side q.port else []) (test_both x q.node n)

pub step_to : (x : Swap) (c : Circuit) (s : CircuitState) (n : Name) (l : Label) (t : CircuitState) → Step c s n l t → Step (renamed x c) (state_to x s) (x.to n) l (state_to x t)
step_to x c s n l t st =
    record {
      kind = st.kind;
      is_kind = ap c.kind_at (x.back n) ∙ st.is_kind;
      taken = st.taken;
      given = st.given;
      acts = subst (λ z. Acts st.kind l (s.slots z) st.taken st.given (t.slots z)) (sym (x.back n)) st.acts;
      between = λ p. st.between (port_to x p);
      takes = λ p. st.takes (port_to x p) ∙ ap (λ z. z ++ st.between (port_to x p)) (sym (share_to x n st.taken p));
      gives = λ p. st.gives (port_to x p) ∙ ap (λ z. st.between (port_to x p) ++ z) (sym (share_from_to x n st.given (c.feeder (port_to x p))));
      others = λ m h. st.others (x.to m) (λ e. h (sym (x.back m) ∙ ap x.to e));
    }

run_to : (x : Swap) (c : Circuit) (s : CircuitState) (ms : List Move) (t : CircuitState) → Run c s ms t → Run (renamed x c) (state_to x s) (moves_to x ms) (state_to x t)
run_to x c s [] t e = ap (state_to x) e
run_to x c s (m ∷ ms) t h = (state_to x h.0, step_to x c s m.node m.label h.0 h.1, run_to x c h.0 ms t h.2)

shown_to : (x : Swap) (n : Name) (l : Label) (ms : List Move) → shown (x.to n) l (moves_to x ms) ≡ moves_to x (shown n l ms)
shown_to x n (Feed v) ms = refl
shown_to x n (Take v) ms = refl
shown_to x n (Fire c) ms = refl

trace_to : (x : Swap) (ms : List Move) → trace (moves_to x ms) ≡ moves_to x (trace ms)
trace_to x [] = refl
trace_to x (m ∷ ms) = ap (shown (x.to m.node) m.label) (trace_to x ms) ∙ shown_to x m.node m.label (trace ms)

initial_to : (x : Swap) (c : Circuit) (o : Option Port) → initial (kind_of (renamed x c) (fed_to x o)) ≡ initial (kind_of c o)
initial_to x c None = refl
initial_to x c (Some q) = ap (λ z. initial (c.kind_at z)) (x.back q.node)

pub start_to : (x : Swap) (c : Circuit) → start (renamed x c) ≡ state_to x (start c)
start_to x c = λ i. record { wires = λ p. initial_to x c (c.feeder (port_to x p)) i; slots = λ n. [] }

-- a renamed circuit shows the renamed traces
pub shows_to : (x : Swap) (c : Circuit) (tr : List Move) → Shows c tr → Shows (renamed x c) (moves_to x tr)
shows_to x c tr h = (
  moves_to x h.0,
  state_to x h.1,
  subst (λ z. Run (renamed x c) z (moves_to x h.0) (state_to x h.1)) (sym (start_to x c)) (run_to x c (start c) h.0 h.1 h.2),
  trace_to x h.0 ∙ ap (moves_to x) h.3,
)

-- renaming and plugging commute
pub circuit_same : (c d : Circuit) → ((n : Name) → c.kind_at n ≡ d.kind_at n) → ((p : Port) → c.feeder p ≡ d.feeder p) → c ≡ d
circuit_same c d k f = λ i. record { kind_at = λ n. k n i; feeder = λ p. f p i }

or_else_to : (x : Swap) (a b : Option Port) → fed_to x (or_else a b) ≡ or_else (fed_to x a) (fed_to x b)
or_else_to x None b = refl
or_else_to x (Some p) b = refl

beside_to : (x : Swap) (c d : Circuit) → renamed x (beside c d) ≡ beside (renamed x c) (renamed x d)
beside_to x c d = circuit_same _ _ (λ n. refl) (λ p. or_else_to x (c.feeder (port_to x p)) (d.feeder (port_to x p)))

redirect_to : (x : Swap) (l : PlugLink) (o : Option Port) → fed_to x (redirect l o) ≡ redirect (link_to x l) (fed_to x o)
redirect_to x l None = refl
redirect_to x l (Some q) =
    elim (name_cases q.node l.entry) [
      | inl is ↦ rw (test_both x q.node l.entry, is.test)
      | inr ne ↦ rw (test_both x q.node l.entry, ne.test)
    ]

link_kind_to : (x : Swap) (l : PlugLink) (c : Circuit) (n : Name) → (renamed x (link l c)).kind_at n ≡ (link (link_to x l) (renamed x c)).kind_at n
link_kind_to x l c n =
    (λ i. if sym (test_to x n l.entry) i then None else (if sym (test_to x n l.exit) i then as_buffer (c.kind_at (x.to n)) else c.kind_at (x.to n)))

link_renamed : (x : Swap) (l : PlugLink) (c : Circuit) → renamed x (link l c) ≡ link (link_to x l) (renamed x c)
link_renamed x l c = circuit_same _ _ (link_kind_to x l c) (λ p. redirect_to x l (c.feeder (port_to x p)))

link_all_to : (x : Swap) (ls : List PlugLink) (c : Circuit) → renamed x (link_all ls c) ≡ link_all (links_to x ls) (renamed x c)
link_all_to x [] c = refl
link_all_to x (l ∷ ls) c = link_all_to x ls (link l c) ∙ ap (link_all (links_to x ls)) (link_renamed x l c)

pub plug_to : (x : Swap) (c : Circuit) (ls : List PlugLink) (g : Circuit) → renamed x (plug c ls g) ≡ plug (renamed x c) (links_to x ls) (renamed x g)
plug_to x c ls g = link_all_to x ls (beside c g) ∙ ap (link_all (links_to x ls)) (beside_to x c g)

-- twice is not at all
pub renamed_back : (x : Swap) (c : Circuit) → renamed x (renamed x c) ≡ c
renamed_back x c = circuit_same _ _ (λ n. ap c.kind_at (x.back n)) (λ p. ap (λ z. fed_to x (fed_to x (c.feeder z))) (port_back p) ∙ fed_back (c.feeder p))
  where
    port_back : (p : Port) → port_to x (port_to x p) ≡ p
    port_back p = λ i. record { node = x.back p.node i; port = p.port }

    fed_back : (o : Option Port) → fed_to x (fed_to x o) ≡ o
    fed_back None = refl
    fed_back (Some q) = ap Some (port_back q)

pub moves_back : (x : Swap) (ms : List Move) → moves_to x (moves_to x ms) ≡ ms
moves_back x [] = refl
moves_back x (m ∷ ms) = λ i. record { node = x.back m.node i; label = m.label } ∷ moves_back x ms i

pub links_back : (x : Swap) (ls : List PlugLink) → links_to x (links_to x ls) ≡ ls
links_back x [] = refl
links_back x (l ∷ ls) = λ i. record { exit = x.back l.exit i; entry = x.back l.entry i } ∷ links_back x ls i

-- where the names of c stay, c stays
none_to_at : (x : Swap) (c : Circuit) → ((n : Name) (k : Kind) → c.kind_at n ≡ Some k → x.to n ≡ n) → (n : Name) → (o o' : Option Kind) → c.kind_at n ≡ o → c.kind_at (x.to n) ≡ o' → c.kind_at (x.to n) ≡ c.kind_at n
none_to_at x c fixed n (Some k) o' e f = ap c.kind_at (fixed n k e)
none_to_at x c fixed n None None e f = f ∙ sym e
none_to_at x c fixed n None (Some k) e f = ap c.kind_at (sym (fixed (x.to n) k f) ∙ x.back n)

kind_fixed : (x : Swap) (c : Circuit) → ((n : Name) (k : Kind) → c.kind_at n ≡ Some k → x.to n ≡ n) → (n : Name) → c.kind_at (x.to n) ≡ c.kind_at n
kind_fixed x c fixed n = none_to_at x c fixed n (c.kind_at n) (c.kind_at (x.to n)) refl refl

feeder_fixed_at : (x : Swap) (c : Circuit) → Typed c → ((n : Name) (k : Kind) → c.kind_at n ≡ Some k → x.to n ≡ n) → (p : Port) (o : Option Kind) → c.kind_at p.node ≡ o → c.feeder (port_to x p) ≡ c.feeder p
feeder_fixed_at x c ty fixed p (Some k) e = ap (λ z. c.feeder (record { node = z; port = p.port })) (fixed p.node k e)
feeder_fixed_at x c ty fixed p None e = unfed c ty (port_to x p) (kind_fixed x c fixed p.node ∙ e) ∙ sym (unfed c ty p e)

source_fixed : (x : Swap) (c : Circuit) → Typed c → ((n : Name) (k : Kind) → c.kind_at n ≡ Some k → x.to n ≡ n) → (p : Port) (o : Option Port) → c.feeder p ≡ o → fed_to x o ≡ o
source_fixed x c ty fixed p None f = refl
source_fixed x c ty fixed p (Some q) f = let w = ty.wires p q f in λ i. Some (record { node = fixed q.node w.from w.is_from i; port = q.port })

pub renamed_fixed : (x : Swap) (c : Circuit) → Typed c → ((n : Name) (k : Kind) → c.kind_at n ≡ Some k → x.to n ≡ n) → renamed x c ≡ c
renamed_fixed x c ty fixed =
    circuit_same _ _ (kind_fixed x c fixed) (λ p. ap (fed_to x) (feeder_fixed_at x c ty fixed p (c.kind_at p.node) refl) ∙ source_fixed x c ty fixed p (c.feeder p) refl)
