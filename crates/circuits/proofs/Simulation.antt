-- A simulation gives trace inclusion.
use Rattle.std.proofs.Common.{◌≡◌, ℕ, refl, sym, ap, subst, ◌∙◌, List, [], ◌∷◌, ◌++◌, Some, map}
use Rattle.std.proofs.lemmas.List.{map-append}
use Rattle.port_types.specs.Token.{Fits}
use Rattle.components.specs.declared.kind.Kind.TheVariants.{Exit}
use Rattle.components.specs.Name.{Name}
use Rattle.components.specs.Kind.{Shape}
use Rattle.circuits.specs.PortTokens.{Token}
use Rattle.circuits.specs.Circuit.{Circuit}
use Rattle.circuits.specs.CircuitState.{CircuitState, start}
use Rattle.circuits.specs.Firing.{Label, Label.Feed, Label.Take, Label.Fire}
use Rattle.circuits.specs.Run.{Step, Move, Run, trace, shown, Shows, Firing, move_of, Firings}

run_append : (c : Circuit) (s : CircuitState) (ms : List Move) (m : CircuitState) (ns : List Move) (t : CircuitState) → Run c s ms m → Run c m ns t → Run c s (ms ++ ns) t
run_append c s [] m ns t e k = subst (λ x. Run c x ns t) (sym e) k
run_append c s (f ∷ fs) m ns t h k = (h.0, h.1, run_append c h.0 fs m ns t h.2 k)

pub firings_then : (c : Circuit) (s : CircuitState) (fs : List Firing) (m : CircuitState) (gs : List Firing) (t : CircuitState) → Firings c s fs m → Firings c m gs t → Firings c s (fs ++ gs) t
firings_then c s fs m gs t h k =
    subst (λ ms. Run c s ms t) (sym (map-append move_of fs gs)) (run_append c s (map move_of fs) m (map move_of gs) t h k)

-- firings that lead from s to t
pub record Inner (c : Circuit) (s t : CircuitState) : Type 0 where
  pub firings : List Firing
  pub leads : Firings c s firings t

pub inner_none : (c : Circuit) (s : CircuitState) → Inner c s s
inner_none c s = record { firings = []; leads = refl }

pub inner_then : (c : Circuit) (s m t : CircuitState) → Inner c s m → Inner c m t → Inner c s t
inner_then c s m t h k =
    record {
      firings = h.firings ++ k.firings;
      leads = firings_then c s h.firings m k.firings t h.leads k.leads;
    }

pub inner_one : (c : Circuit) (s t : CircuitState) (n : Name) (k : ℕ) → Step c s n (Fire k) t → Inner c s t
inner_one c s t n k h = record { firings = record { node = n; choice = k } ∷ []; leads = (t, h, refl) }

-- c goes from s to t and shows tr
pub record Goes (c : Circuit) (s : CircuitState) (tr : List Move) (t : CircuitState) : Type 0 where
  pub moves : List Move
  pub run : Run c s moves t
  pub shows : trace moves ≡ tr

shown_append : (n : Name) (l : Label) (ms ns : List Move) → shown n l (ms ++ ns) ≡ shown n l ms ++ ns
shown_append n (Feed v) ms ns = refl
shown_append n (Take v) ms ns = refl
shown_append n (Fire c) ms ns = refl

trace_append : (ms ns : List Move) → trace (ms ++ ns) ≡ trace ms ++ trace ns
trace_append [] ns = refl
trace_append (m ∷ ms) ns = ap (shown m.node m.label) (trace_append ms ns) ∙ shown_append m.node m.label (trace ms) (trace ns)

pub goes_then : (c : Circuit) (s : CircuitState) (a : List Move) (m : CircuitState) (b : List Move) (t : CircuitState) → Goes c s a m → Goes c m b t → Goes c s (a ++ b) t
goes_then c s a m b t h k =
    record {
      moves = h.moves ++ k.moves;
      run = run_append c s h.moves m k.moves t h.run k.run;
      shows = trace_append h.moves k.moves ∙ (λ i. h.shows i ++ k.shows i);
    }

pub goes_one : (c : Circuit) (s : CircuitState) (n : Name) (l : Label) (t : CircuitState) → Step c s n l t → Goes c s (shown n l []) t
goes_one c s n l t h = record { moves = record { node = n; label = l } ∷ []; run = (t, h, refl); shows = refl }

-- nothing is seen of firings
trace_firings : (fs : List Firing) → trace (map move_of fs) ≡ []
trace_firings [] = refl
trace_firings (f ∷ fs) = trace_firings fs

pub goes_inner : (c : Circuit) (s t : CircuitState) → Inner c s t → Goes c s [] t
goes_inner c s t h = record { moves = map move_of h.firings; run = h.leads; shows = trace_firings h.firings }

-- each step of the new circuit h is matched in the old one g
pub record Sim (h g : Circuit) : Type 1 where
  pub R : CircuitState → CircuitState → Type 0
  pub begins : R (start h) (start g)
  pub feeds : (s t u : CircuitState) (n : Name) (v : Token) → R s t → Step h s n (Feed v) u → (w : CircuitState) × Step g t n (Feed v) w × R u w
  pub takes : (s t u : CircuitState) (n : Name) (v : Token) → R s t → Step h s n (Take v) u → (m w : CircuitState) × Inner g t m × Step g m n (Take v) w × R u w
  pub fires : (s t u : CircuitState) (n : Name) (c : ℕ) → R s t → Step h s n (Fire c) u → (w : CircuitState) × Inner g t w × R u w
  pub fits : (s t u : CircuitState) (n : Name) (v : Token) (a : Shape) → R s t → h.kind_at n ≡ Some (Exit a) → Step h s n (Take v) u → Fits a v

-- one step, whatever its label
matched : (h g : Circuit) (sim : Sim h g) (s t u : CircuitState) (n : Name) (l : Label) → sim.R s t → Step h s n l u → (w : CircuitState) × Goes g t (shown n l []) w × sim.R u w
matched h g sim s t u n (Feed v) r st =
    let (w, st2, r2) = sim.feeds s t u n v r st in (w, goes_one g t n (Feed v) w st2, r2)
matched h g sim s t u n (Take v) r st =
    let (m, w, inn, st2, r2) = sim.takes s t u n v r st in
    (w, goes_then g t [] m (shown n (Take v) []) w (goes_inner g t m inn) (goes_one g m n (Take v) w st2), r2)
matched h g sim s t u n (Fire c) r st =
    let (w, inn, r2) = sim.fires s t u n c r st in (w, goes_inner g t w inn, r2)

run_matched : (h g : Circuit) (sim : Sim h g) (s t : CircuitState) (ms : List Move) (u : CircuitState) → sim.R s t → Run h s ms u → (w : CircuitState) × Goes g t (trace ms) w × sim.R u w
run_matched h g sim s t [] u r e = (t, record { moves = []; run = refl; shows = refl }, subst (λ x. sim.R x t) e r)
run_matched h g sim s t (m ∷ ms) u r run =
    let (w, goes, r2) = matched h g sim s t run.0 m.node m.label r run.1 in
    let (x, goes2, r3) = run_matched h g sim run.0 w ms u r2 run.2 in
    (x, subst (λ tr. Goes g t tr x) (sym (shown_append m.node m.label [] (trace ms))) (goes_then g t (shown m.node m.label []) w (trace ms) x goes goes2), r3)

-- what h shows, g shows
pub sim_shows : (h g : Circuit) → Sim h g → (tr : List Move) → Shows h tr → Shows g tr
sim_shows h g sim tr sh =
    let (w, goes, r) = run_matched h g sim (start h) (start g) sh.0 sh.1 sim.begins sh.2 in
    (goes.moves, w, goes.run, goes.shows ∙ sh.3)

pub inner_matched : (h g : Circuit) (sim : Sim h g) (s t : CircuitState) (fs : List Firing) (u : CircuitState) → sim.R s t → Firings h s fs u → (w : CircuitState) × Inner g t w × sim.R u w
inner_matched h g sim s t [] u r e = (t, inner_none g t, subst (λ x. sim.R x t) e r)
inner_matched h g sim s t (f ∷ fs) u r run =
    let (w, inn, r2) = sim.fires s t run.0 f.node f.choice r run.1 in
    let (x, inn2, r3) = inner_matched h g sim run.0 w fs u r2 run.2 in
    (x, inner_then g t w x inn inn2, r3)
