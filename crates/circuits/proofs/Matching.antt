-- What the author of a rule shows, and that it gives refinement. That the values of operators fit is a law of `op_table`, which a law function calls.
use Rattle.std.proofs.Common.{ℕ, map}
use Rattle.circuits.specs.Values.{ValuesFit}
use Rattle.components.specs.Name.{Name}
use Rattle.circuits.specs.PortTokens.{Token}
use Rattle.circuits.specs.Circuit.{Circuit, Typed}
use Rattle.circuits.specs.CircuitState.{CircuitState, start, IsStateOf}
use Rattle.circuits.specs.Firing.{Label.Feed, Label.Take, Label.Fire}
use Rattle.circuits.specs.Run.{Step, move_of}
use Rattle.circuits.specs.Refines.{SamePorts, Refines}
use Rattle.circuits.proofs.Simulation.{Inner, Sim}
use Rattle.circuits.proofs.Fitting.{step_fits, run_fits, start_fits, take_fits}
use Rattle.circuits.proofs.Refining.{sim_refines}

pub inner_fits : ValuesFit → (c : Circuit) → Typed c → (s t : CircuitState) → Inner c s t → IsStateOf c s → IsStateOf c t
inner_fits values c ty s t k h = run_fits values c ty s (map move_of k.firings) t k.leads h

-- what the author of a rule shows: each step of the new circuit is matched in the old one, from states whose tokens fit
pub record Matches (h g : Circuit) : Type 1 where
  pub R : CircuitState → CircuitState → Type 0
  pub begins : R (start h) (start g)
  pub feeds : (s t u : CircuitState) (n : Name) (v : Token) → IsStateOf h s → IsStateOf g t → R s t → Step h s n (Feed v) u → (w : CircuitState) × Step g t n (Feed v) w × R u w
  pub takes : (s t u : CircuitState) (n : Name) (v : Token) → IsStateOf h s → IsStateOf g t → R s t → Step h s n (Take v) u → (m w : CircuitState) × Inner g t m × Step g m n (Take v) w × R u w
  pub fires : (s t u : CircuitState) (n : Name) (c : ℕ) → IsStateOf h s → IsStateOf g t → R s t → Step h s n (Fire c) u → (w : CircuitState) × Inner g t w × R u w

pub sim_of : ValuesFit → (h g : Circuit) → Typed h → Typed g → Matches h g → Sim h g
sim_of values h g th tg m =
    record {
      R = λ s t. IsStateOf h s × IsStateOf g t × m.R s t;
      begins = (start_fits h th, start_fits g tg, m.begins);
      feeds = λ s t u n v r st.
          let (w, st2, r2) = m.feeds s t u n v r.0 r.1 r.2 st in
          (w, st2, (step_fits values h th s n (Feed v) u st r.0, step_fits values g tg t n (Feed v) w st2 r.1, r2));
      takes = λ s t u n v r st.
          let (x, w, inn, st2, r2) = m.takes s t u n v r.0 r.1 r.2 st in
          (x, w, inn, st2, (step_fits values h th s n (Take v) u st r.0, step_fits values g tg x n (Take v) w st2 (inner_fits values g tg t x inn r.1), r2));
      fires = λ s t u n c r st.
          let (w, inn, r2) = m.fires s t u n c r.0 r.1 r.2 st in
          (w, inn, (step_fits values h th s n (Fire c) u st r.0, inner_fits values g tg t w inn r.1, r2));
      fits = λ s t u n v a r e st. take_fits h s n v a u e st r.0;
    }

pub matches_refines : ValuesFit → (h g : Circuit) → Typed h → Typed g → SamePorts h g → Matches h g → Refines h g
matches_refines values h g th tg same m = sim_refines values h g th tg same (sim_of values h g th tg m)
