-- A circuit under other names: it shows the same where its Entries and Exits keep theirs, and what refines another circuit refines it under other names.
use Rattle.std.proofs.Common.{◌≡◌, ◌↔◌, ◌⊎◌, inl, inr, sym, ap, subst, ◌∙◌, List, [], ◌∷◌, Some}
use Rattle.std.specs.List.{AllByRecursion}
use Rattle.components.specs.declared.kind.Kind.{Kind}
use Rattle.components.specs.declared.kind.Kind.TheVariants.{Entry, Exit}
use Rattle.components.specs.Name.{Name}
use Rattle.circuits.specs.Values.{ValuesFit}
use Rattle.circuits.specs.PortTokens.{Token}
use Rattle.circuits.specs.Circuit.{Circuit, Typed}
use Rattle.circuits.specs.CircuitState.{CircuitState, Slot}
use Rattle.circuits.specs.Firing.{Label, Label.Feed, Label.Take, Label.Fire, Acts}
use Rattle.circuits.specs.Run.{Step, Move, Shows}
use Rattle.circuits.specs.Plug.{PlugLink, plug, Joins, CanPlug}
use Rattle.circuits.specs.Refines.{SamePorts, Refines}
use Rattle.circuits.specs.Replacing.{IsEnd}
use Rattle.circuits.specs.Renaming.{Swap, renamed, KeepsEnds}
use Rattle.circuits.proofs.Steps.{state_same}
use Rattle.circuits.proofs.Simulation.{inner_none, inner_one}
use Rattle.circuits.proofs.Matching.{Matches, matches_refines}
use Rattle.circuits.proofs.Renaming.{state_to, moves_to, link_to, links_to, step_to, start_to, shows_to, plug_to, renamed_back, moves_back, links_back}
use Rattle.circuits.proofs.Transitive.{port_back, typed_to, once_to}

-- circuits, what surrounds them and the links, all under other names
module _ (x : Swap) where
  joins_to : (c g : Circuit) (l : PlugLink) → Joins l c g → Joins (link_to x l) (renamed x c) (renamed x g)
  joins_to c g l j =
      record { shape = j.shape; exit = ap c.kind_at (x.back l.exit) ∙ j.exit; entry = ap g.kind_at (x.back l.entry) ∙ j.entry }

  joins_all_to : (c g : Circuit) (ls : List PlugLink) → AllByRecursion (λ l. Joins l c g ⊎ Joins l g c) ls → AllByRecursion (λ l. Joins l (renamed x c) (renamed x g) ⊎ Joins l (renamed x g) (renamed x c)) (links_to x ls)
  joins_all_to c g [] h = tt
  joins_all_to c g (l ∷ ls) h =
      (elim h.0 [ inl j ↦ inl (joins_to c g l j) | inr j ↦ inr (joins_to g c l j) ], joins_all_to c g ls h.1)

  can_to : (c : Circuit) (ls : List PlugLink) (g : Circuit) → CanPlug c ls g → CanPlug (renamed x c) (links_to x ls) (renamed x g)
  can_to c ls g can =
      record { apart = λ n k m e f. can.apart (x.to n) k m e f; joins = joins_all_to c g ls can.joins; once = once_to x ls can.once }

  pub ports_to : (h g : Circuit) → SamePorts h g → SamePorts (renamed x h) (renamed x g)
  ports_to h g s = record { entries = λ n a. s.entries (x.to n) a; exits = λ n a. s.exits (x.to n) a }

  renamed_claim : (h g : Circuit) → Refines h g → (c : Circuit) (ls : List PlugLink) (tr : List Move) → Typed c → CanPlug c ls (renamed x h) → CanPlug c ls (renamed x g) → Shows (plug c ls (renamed x h)) tr → Shows (plug c ls (renamed x g)) tr
  renamed_claim h g r c ls tr tc ch cg sh =
      let can_h : CanPlug (renamed x c) (links_to x ls) h = subst (CanPlug (renamed x c) (links_to x ls)) (renamed_back x h) (can_to c ls (renamed x h) ch) in
      let can_g : CanPlug (renamed x c) (links_to x ls) g = subst (CanPlug (renamed x c) (links_to x ls)) (renamed_back x g) (can_to c ls (renamed x g) cg) in
      let there : renamed x (plug c ls (renamed x h)) ≡ plug (renamed x c) (links_to x ls) h =
      plug_to x c ls (renamed x h) ∙ ap (plug (renamed x c) (links_to x ls)) (renamed_back x h) in
      let first : Shows (plug (renamed x c) (links_to x ls) h) (moves_to x tr) = subst (λ z. Shows z (moves_to x tr)) there (shows_to x (plug c ls (renamed x h)) tr sh) in
      let last : Shows (plug (renamed x c) (links_to x ls) g) (moves_to x tr) = r.shows (renamed x c) (links_to x ls) (moves_to x tr) (typed_to x c tc) can_h can_g first in
      let again : renamed x (plug (renamed x c) (links_to x ls) g) ≡ plug c ls (renamed x g) =
      plug_to x (renamed x c) (links_to x ls) g ∙ (λ i. plug (renamed_back x c i) (links_back x ls i) (renamed x g)) in
      subst (λ z. Shows (plug c ls (renamed x g)) z) (moves_back x tr)
      (subst (λ z. Shows z (moves_to x (moves_to x tr))) again (shows_to x (plug (renamed x c) (links_to x ls) g) (moves_to x tr) last))

  -- what refines refines under other names too
  pub renamed_refines : (h g : Circuit) → Refines h g → Refines (renamed x h) (renamed x g)
  renamed_refines h g r =
      record {
        new_typed = typed_to x h r.new_typed;
        old_typed = typed_to x g r.old_typed;
        ports = ports_to h g r.ports;
        shows = renamed_claim h g r;
      }

-- an Entry is fed, and an Exit is taken from
fed_end : (k : Kind) (v : Token) (old : List Slot) (taken given : List (List Token)) (new : List Slot) → Acts k (Feed v) old taken given new → IsEnd k
fed_end (Entry a) v old taken given new acts = tt
fed_end _ v old taken given new acts = absurd acts

taken_end : (k : Kind) (v : Token) (old : List Slot) (taken given : List (List Token)) (new : List Slot) → Acts k (Take v) old taken given new → IsEnd k
taken_end (Exit a) v old taken given new acts = tt
taken_end _ v old taken given new acts = absurd acts

-- where Entries and Exits keep their names, a circuit shows the same
module _ (x : Swap) (c : Circuit) (ty : Typed c) (keeps : KeepsEnds x c) where
  keeps_back : (n : Name) (k : Kind) → c.kind_at (x.to n) ≡ Some k → IsEnd k → x.to n ≡ n
  keeps_back n k e end = sym (keeps (x.to n) k e end) ∙ x.back n

  end_same : (n : Name) (k : Kind) → IsEnd k → (c.kind_at (x.to n) ≡ Some k) ↔ (c.kind_at n ≡ Some k)
  end_same n k end =
      ((λ e. ap c.kind_at (sym (keeps_back n k e end)) ∙ e), (λ e. ap c.kind_at (keeps n k e end) ∙ e))

  -- the states of the one under the names of the other
  state_back : (s : CircuitState) → state_to x (state_to x s) ≡ s
  state_back s = state_same _ _ (λ p. ap s.wires (port_back x p)) (λ n. ap s.slots (x.back n))

  same_step : (s t u : CircuitState) (n : Name) (l : Label) → s ≡ state_to x t → Step (renamed x c) s n l u → Step c t (x.to n) l (state_to x u)
  same_step s t u n l is st =
      let there : Step (renamed x (renamed x c)) (state_to x s) (x.to n) l (state_to x u) = step_to x (renamed x c) s n l u st in
      let here : Step c (state_to x s) (x.to n) l (state_to x u) = subst (λ d. Step d (state_to x s) (x.to n) l (state_to x u)) (renamed_back x c) there in
      subst (λ z. Step c z (x.to n) l (state_to x u)) (ap (state_to x) is ∙ state_back t) here

  same_name : (t w : CircuitState) (n : Name) (l : Label) → x.to n ≡ n → Step c t (x.to n) l w → Step c t n l w
  same_name t w n l is st = subst (λ m. Step c t m l w) is st

  renamed_matches : Matches (renamed x c) c
  renamed_matches =
      record {
        R = λ s t. s ≡ state_to x t;
        begins = start_to x c;
        feeds = λ s t u n v fit_s fit_t is st.
            let stays : x.to n ≡ n = keeps_back n st.kind st.is_kind (fed_end st.kind v (s.slots n) st.taken st.given (u.slots n) st.acts) in
            (state_to x u, same_name t (state_to x u) n (Feed v) stays (same_step s t u n (Feed v) is st), sym (state_back u));
        takes = λ s t u n v fit_s fit_t is st.
            let stays : x.to n ≡ n = keeps_back n st.kind st.is_kind (taken_end st.kind v (s.slots n) st.taken st.given (u.slots n) st.acts) in
            (t, state_to x u, inner_none c t, same_name t (state_to x u) n (Take v) stays (same_step s t u n (Take v) is st), sym (state_back u));
        fires = λ s t u n k fit_s fit_t is st.
            (state_to x u, inner_one c t (state_to x u) (x.to n) k (same_step s t u n (Fire k) is st), sym (state_back u));
      }

  pub renamed_refines_old : ValuesFit → Refines (renamed x c) c
  renamed_refines_old fits =
      matches_refines fits (renamed x c) c (typed_to x c ty) ty
      (record { entries = λ n a. end_same n (Entry a) tt; exits = λ n a. end_same n (Exit a) tt }) renamed_matches

pub old_refines_renamed : ValuesFit → (x : Swap) (c : Circuit) → Typed c → KeepsEnds x c → Refines c (renamed x c)
old_refines_renamed fits x c ty keeps =
    subst (λ d. Refines d (renamed x c)) (renamed_back x c)
    (renamed_refines_old x (renamed x c) (typed_to x c ty) (λ n k e end. keeps_back x c ty keeps n k e end) fits)
