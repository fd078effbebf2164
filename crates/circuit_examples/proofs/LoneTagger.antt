-- A Tagger alone: it is typed, and gives results in the order in which tokens came.
use Rattle.std.proofs.Common.{◌≡◌, ◌≢◌, ℕ, zero, suc, refl, sym, subst, List, [], ◌∷◌, Some, None, arith}
use Rattle.std.specs.List.{AllByRecursion}
use Rattle.port_types.specs.Token.{Fits}
use Rattle.components.specs.declared.kind.Kind.TheVariants.{Entry, Exit, Tagger}
use Rattle.components.specs.Name.{Port}
use Rattle.components.specs.Kind.{Shape, tagged, KindOk}
use Rattle.components.specs.NamedGraph.{IsTyped}
use Rattle.circuits.specs.PortTokens.{Token, one}
use Rattle.circuits.specs.Circuit.{Circuit, Typed, circuit_of}
use Rattle.circuits.specs.CircuitState.{Slot, start}
use Rattle.circuits.specs.Firing.{Label.Fire, waiting, finished}
use Rattle.circuits.specs.Run.{Move, Shows}
use Rattle.circuits.specs.Buffers.{first_port}
use Rattle.circuits.specs.Laws.{GraphIsTyped}
use Rattle.circuit_examples.specs.Listed.{fed_at, taken_at}
use Rattle.circuit_examples.specs.LoneTagger.{fresh, work, back, results, tagger, second_port, tagger_nodes, tagger_wires, lone_tagger}
use Rattle.circuit_examples.proofs.Listed.{spelled, is_spelled, InputsFed, OutputsFeed, no_in, no_out, one_in, one_out, other_node, other_port, listed_typed, graph_is_typed}
use Rattle.circuit_examples.proofs.Deeds.{feeding, taking}
use Rattle.circuits.proofs.MadeSteps.{Deed, CanAll, after_all, moves_of, run_made}

abbrev pub alone : Shape → ℕ → Circuit
alone shape tags = spelled (tagger_nodes shape tags) tagger_wires

-- its ports are on wires
module _ (shape : Shape) (tags : ℕ) where
  tagger_in : InputsFed (alone shape tags) tagger (Tagger shape tags)
  tagger_in zero a f = let z : None ≡ Some a = f in cc
  tagger_in (suc zero) a f = (first_port fresh, refl)
  tagger_in (suc (suc zero)) a f = (first_port back, refl)
  tagger_in (suc (suc (suc i))) a f = let z : None ≡ Some a = f in cc

  tagger_out : OutputsFeed (alone shape tags) tagger (Tagger shape tags)
  tagger_out zero a f = let z : None ≡ Some a = f in cc
  tagger_out (suc zero) a f = (first_port work, refl)
  tagger_out (suc (suc zero)) a f = (first_port results, refl)
  tagger_out (suc (suc (suc i))) a f = let z : None ≡ Some a = f in cc

fresh_tagger : fresh ≢ tagger
fresh_tagger e = cc

fresh_back : fresh ≢ back
fresh_back e = cc

back_tagger : back ≢ tagger
back_tagger e = cc

ports_differ : ◌≢◌ {A = ℕ} 1 2
ports_differ e = cc

-- no output feeds two inputs
abbrev Once : Port → Port → Type 0
Once source target = AllByRecursion (λ other. other.source ≡ source → target ≡ other.target) tagger_wires

by_fresh : Once (first_port fresh) (first_port tagger)
by_fresh = (
  (λ e. refl),
  (other_node _ _ _ _ (λ e. fresh_tagger (sym e)), (other_node _ _ _ _ (λ e. fresh_back (sym e)), (other_node _ _ _ _ (λ e. fresh_tagger (sym e)), tt))),
)

by_first : Once (first_port tagger) (first_port work)
by_first = (
  other_node _ _ _ _ fresh_tagger,
  ((λ e. refl), (other_node _ _ _ _ back_tagger, (other_port _ _ _ _ (λ e. ports_differ (sym e)), tt))),
)

by_back : Once (first_port back) (second_port tagger)
by_back = (
  other_node _ _ _ _ fresh_back,
  (other_node _ _ _ _ (λ e. back_tagger (sym e)), ((λ e. refl), (other_node _ _ _ _ (λ e. back_tagger (sym e)), tt))),
)

by_second : Once (second_port tagger) (first_port results)
by_second = (
  other_node _ _ _ _ fresh_tagger,
  (other_port _ _ _ _ ports_differ, (other_node _ _ _ _ back_tagger, ((λ e. refl), tt))),
)

pub alone_typed : (shape : Shape) (tags : ℕ) → KindOk (Tagger shape tags) → Typed (alone shape tags)
alone_typed shape tags ok =
    let c = alone shape tags in
    listed_typed (tagger_nodes shape tags) tagger_wires
    (record {
      kinds = (ok.0, (ok.1, (ok.1, (ok.0, (ok, tt)))));
      are_wires = (
        record { to = Tagger shape tags; from = Entry shape; shape = shape; is_to = refl; is_from = refl; enters = refl; leaves = refl },
        (
          record { to = Exit (tagged tags shape); from = Tagger shape tags; shape = tagged tags shape; is_to = refl; is_from = refl; enters = refl; leaves = refl },
          (
            record { to = Tagger shape tags; from = Entry (tagged tags shape); shape = tagged tags shape; is_to = refl; is_from = refl; enters = refl; leaves = refl },
            (record { to = Exit shape; from = Tagger shape tags; shape = shape; is_to = refl; is_from = refl; enters = refl; leaves = refl }, tt),
          ),
        ),
      );
      inputs = (
        no_in c fresh (Entry shape) refl,
        (
          one_in c work (Exit (tagged tags shape)) (tagged tags shape) refl (first_port tagger) refl,
          (
            no_in c back (Entry (tagged tags shape)) refl,
            (one_in c results (Exit shape) shape refl (second_port tagger) refl, (tagger_in shape tags, tt)),
          ),
        ),
      );
      outputs = (
        one_out c fresh (Entry shape) shape refl (first_port tagger) refl,
        (
          no_out c work (Exit (tagged tags shape)) refl,
          (
            one_out c back (Entry (tagged tags shape)) (tagged tags shape) refl (second_port tagger) refl,
            (no_out c results (Exit shape) refl, (tagger_out shape tags, tt)),
          ),
        ),
      );
      once = (by_fresh, (by_first, (by_back, (by_second, tt))));
      size = 8;
      names = (omega arith, (omega arith, (omega arith, (omega arith, (omega arith, tt)))));
    })

pub tagger_typed : GraphIsTyped → (shape : Shape) (tags : ℕ) → KindOk (Tagger shape tags) → IsTyped (lone_tagger shape tags)
tagger_typed law shape tags ok = graph_is_typed law (tagger_nodes shape tags) tagger_wires (alone_typed shape tags ok)

-- what it does
module _ (shape : Shape) where
  abbrev tagging : ℕ → Token → List Slot → Deed
  tagging tag v new = record { node = tagger; kind = Tagger shape 2; label = Fire (suc (suc tag)); taken = one v ∷ []; given = one (tag ∷ v) ∷ []; new = new }

  abbrev returning : ℕ → Token → List Slot → Deed
  returning tag v new = record { node = tagger; kind = Tagger shape 2; label = Fire 1; taken = [] ∷ one (tag ∷ v) ∷ []; given = []; new = new }

  abbrev giving : Token → List Slot → Deed
  giving v new = record { node = tagger; kind = Tagger shape 2; label = Fire 0; taken = []; given = [] ∷ one v ∷ []; new = new }

-- two tokens are worked on, the second result comes back first, and the results leave in order
module _ (shape : Shape) (v u a b : Token) (fv : Fits shape v) (fu : Fits shape u) (fa : Fits shape a) (fb : Fits shape b) where
  abbrev deeds : List Deed
  deeds =
      feeding fresh shape v ∷
      feeding fresh shape u ∷
      tagging shape 0 v (waiting 0 ∷ []) ∷
      tagging shape 1 u (waiting 0 ∷ waiting 1 ∷ []) ∷
      taking work (tagged 2 shape) (0 ∷ v) ∷
      taking work (tagged 2 shape) (1 ∷ u) ∷
      feeding back (tagged 2 shape) (1 ∷ b) ∷
      feeding back (tagged 2 shape) (0 ∷ a) ∷
      returning shape 1 b (waiting 0 ∷ finished 1 b ∷ []) ∷
      returning shape 0 a (finished 0 a ∷ finished 1 b ∷ []) ∷
      giving shape a (finished 1 b ∷ []) ∷
      giving shape b [] ∷
      taking results shape a ∷
      taking results shape b ∷ []

  can_all : CanAll (alone shape 2) (start (alone shape 2)) deeds
  can_all = (
    record { is_kind = refl; acts = (fv, refl, refl, refl); stands = tt },
    (
      record { is_kind = refl; acts = (fu, refl, refl, refl); stands = tt },
      (
        record { is_kind = refl; acts = (v, omega arith, tt, refl, refl, refl); stands = ((one u, refl), tt) },
        (
          record { is_kind = refl; acts = (u, omega arith, ((λ e. cc), tt), refl, refl, refl); stands = (([], refl), tt) },
          (
            record { is_kind = refl; acts = (refl, refl, refl); stands = ((one (1 ∷ u), refl), tt) },
            (
              record { is_kind = refl; acts = (refl, refl, refl); stands = (([], refl), tt) },
              (
                record { is_kind = refl; acts = ((omega arith, fb), refl, refl, refl); stands = tt },
                (
                  record { is_kind = refl; acts = ((omega arith, fa), refl, refl, refl); stands = tt },
                  (
                    record { is_kind = refl; acts = (1, b, waiting 0 ∷ [], [], refl, refl, refl, refl); stands = (([], refl), ((one (0 ∷ a), refl), tt)) },
                    (
                      record { is_kind = refl; acts = (0, a, [], finished 1 b ∷ [], refl, refl, refl, refl); stands = (([], refl), (([], refl), tt)) },
                      (
                        record { is_kind = refl; acts = (0, a, refl, refl, refl); stands = tt },
                        (
                          record { is_kind = refl; acts = (1, b, refl, refl, refl); stands = tt },
                          (
                            record { is_kind = refl; acts = (refl, refl, refl); stands = ((one b, refl), tt) },
                            (record { is_kind = refl; acts = (refl, refl, refl); stands = (([], refl), tt) }, tt),
                          ),
                        ),
                      ),
                    ),
                  ),
                ),
              ),
            ),
          ),
        ),
      ),
    ),
  )

  abbrev seen : List Move
  seen =
      fed_at fresh v ∷ fed_at fresh u ∷ taken_at work (0 ∷ v) ∷ taken_at work (1 ∷ u) ∷
      fed_at back (1 ∷ b) ∷ fed_at back (0 ∷ a) ∷ taken_at results a ∷ taken_at results b ∷ []

  pub tagger_shows : Shows (circuit_of (lone_tagger shape 2)) seen
  tagger_shows =
      subst (λ c. Shows c seen) (sym (is_spelled (tagger_nodes shape 2) tagger_wires))
      (moves_of deeds, after_all (alone shape 2) (start (alone shape 2)) deeds, run_made (alone shape 2) (start (alone shape 2)) deeds can_all, refl)
