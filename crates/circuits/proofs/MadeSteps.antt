-- A step, and a run, told by what each node takes and gives: the states follow.
use Rattle.std.proofs.Common.{◌≡◌, ℕ, zero, suc, inl, inr, refl, sym, ap, subst, ◌∙◌, if◌then◌else◌, bytes_eq, length, map, drop, List, [], ◌∷◌, ◌++◌, Some}
use Rattle.std.proofs.Math.Seq.{drop-append_seam}
use Rattle.components.specs.declared.kind.Kind.{Kind}
use Rattle.components.specs.Name.{Name, Port}
use Rattle.components.specs.Orders.{same_bytes, other_bytes}
use Rattle.circuits.specs.PortTokens.{Token, at_port, share, share_from}
use Rattle.circuits.specs.Circuit.{Circuit}
use Rattle.circuits.specs.CircuitState.{Slot, CircuitState}
use Rattle.circuits.specs.Firing.{Label, Acts}
use Rattle.circuits.specs.Run.{Step, Move, Run}
use Rattle.circuits.proofs.Names.{name_cases}
use Rattle.circuits.proofs.Steps.{share_same, share_other}

-- what a node does: its kind, its label, what it takes and gives, and the slots after
pub record Deed : Type 0 where
  pub node : Name
  pub kind : Kind
  pub label : Label
  pub taken : List (List Token)
  pub given : List (List Token)
  pub new : List Slot

-- what is left of each wire, and the state after
abbrev pub left : Deed → CircuitState → Port → List Token
left d s p = drop (length (share d.node d.taken p)) (s.wires p)

abbrev pub after : Circuit → CircuitState → Deed → CircuitState
after c s d =
    record {
      wires = λ p. left d s p ++ share_from d.node d.given (c.feeder p);
      slots = λ m. if bytes_eq m d.node then d.new else s.slots m;
    }

-- what is taken stands at the front of each wire
abbrev pub Stands : List Token → List Token → Type 0
Stands front wire = (behind : List Token) × (wire ≡ front ++ behind)

-- the same at each port of a side, from port 1 on
abbrev pub StandEach : (ℕ → List Token) → List (List Token) → Type 0
StandEach wire [] = Unit {0}
StandEach wire (front ∷ fronts) = Stands front (wire 1) × StandEach (λ i. wire (suc i)) fronts

stands_at : (wire : ℕ → List Token) (side : List (List Token)) → StandEach wire side → (i : ℕ) → Stands (at_port side i) (wire i)
stands_at wire [] h i = (wire i, refl)
stands_at wire (front ∷ fronts) h zero = (wire 0, refl)
stands_at wire (front ∷ fronts) h (suc zero) = h.0
stands_at wire (front ∷ fronts) h (suc (suc i)) = stands_at (λ k. wire (suc k)) fronts h.1 (suc i)

-- the node can do so
pub record Can (c : Circuit) (s : CircuitState) (d : Deed) : Type 0 where
  pub is_kind : c.kind_at d.node ≡ Some d.kind
  pub acts : Acts d.kind d.label (s.slots d.node) d.taken d.given d.new
  pub stands : StandEach (λ i. s.wires (record { node = d.node; port = i })) d.taken

module _ (c : Circuit) (s : CircuitState) (d : Deed) (can : Can c s d) where
  front_left : (front wire : List Token) → Stands front wire → wire ≡ front ++ drop (length front) wire
  front_left front wire (behind, e) = e ∙ ap (λ z. front ++ z) (sym (ap (drop (length front)) e ∙ drop-append_seam front behind))

  takes : (p : Port) → s.wires p ≡ share d.node d.taken p ++ left d s p
  takes p =
      elim (name_cases p.node d.node) [
        | inl is ↦
            subst (λ z. s.wires p ≡ z ++ drop (length z) (s.wires p)) (sym (share_same d.node d.taken p is.is))
            (front_left (at_port d.taken p.port) (s.wires p)
            (subst (λ z. Stands (at_port d.taken p.port) (s.wires (record { node = z; port = p.port }))) (sym is.is)
            (stands_at (λ i. s.wires (record { node = d.node; port = i })) d.taken can.stands p.port)))
        | inr ne ↦ subst (λ z. s.wires p ≡ z ++ drop (length z) (s.wires p)) (sym (share_other d.node d.taken p ne.is_not)) refl
      ]

  pub step_made : Step c s d.node d.label (after c s d)
  step_made =
      record {
        kind = d.kind;
        is_kind = can.is_kind;
        taken = d.taken;
        given = d.given;
        acts = subst (λ b. Acts d.kind d.label (s.slots d.node) d.taken d.given (if b then d.new else s.slots d.node)) (sym (same_bytes d.node d.node refl)) can.acts;
        between = left d s;
        takes = takes;
        gives = λ p. refl;
        others = λ m ne. ap (λ b. if b then d.new else s.slots m) (other_bytes m d.node ne);
      }

-- one after another
abbrev pub CanAll : Circuit → CircuitState → List Deed → Type 0
CanAll c s [] = Unit {0}
CanAll c s (d ∷ ds) = Can c s d × CanAll c (after c s d) ds

abbrev pub after_all : Circuit → CircuitState → List Deed → CircuitState
after_all c s [] = s
after_all c s (d ∷ ds) = after_all c (after c s d) ds

abbrev pub moves_of : List Deed → List Move
moves_of ds = map (λ d. record { node = d.node; label = d.label }) ds

pub run_made : (c : Circuit) (s : CircuitState) (ds : List Deed) → CanAll c s ds → Run c s (moves_of ds) (after_all c s ds)
run_made c s [] can = refl
run_made c s (d ∷ ds) can = (after c s d, step_made c s d can.0, run_made c (after c s d) ds can.1)
