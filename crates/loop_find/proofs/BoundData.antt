-- Where not all data come from feeders, some lane's data are made of what comes in.
use Rattle.std.proofs.Common.{◌≡◌, ◌⊎◌, inl, inr, refl, sym, ap, subst, ◌∙◌, List, [], ◌∷◌, Some, Bool}
use Rattle.std.proofs.lemmas.Option.{same_Some}
use Rattle.components.specs.declared.kind.Kind.TheVariants.{Branch}
use Rattle.components.specs.Kind.{Shape}
use Rattle.components.specs.Name.{Name, Port}
use Rattle.circuits.specs.Circuit.{Circuit, Typed}
use Rattle.circuits.specs.Replacing.{In, head, tail}
use Rattle.loop_laws.specs.Reached.{port_at, HasKind, IsLane, Reached}
use Rattle.loop_laws.specs.BackPath.{IsBuffer, BranchOf}
use Rattle.loop_laws.specs.Feeders.{Feeder}
use Rattle.loop_laws.specs.Faults.{Inside, FirstBranch, Row}
use Rattle.loop_laws.specs.declared.fault.LoopFaultKind.TheVariants.{FreeData}
use Rattle.loop_laws.proofs.BackPaths.{same_start}

module _ (c : Circuit) (typed : Typed c) (m : Name) (goes_back : Bool) where
  -- a lane's Branch is no Buffer, so a lane has one
  no_buffer : (r : Name) (shape : Shape) → c.kind_at r ≡ Some (Branch shape) → HasKind c IsBuffer r → ⊥
  no_buffer r shape is h = subst IsBuffer (same_Some h.0 (Branch shape) (sym h.1 ∙ is)) h.2

  pub one_branch : (lane r s : Name) → BranchOf c m goes_back lane r → BranchOf c m goes_back lane s → r ≡ s
  one_branch lane r s a b = ap (λ (z : Port). z.node) (same_start c _ a.back b.back _ _ a.path b.path (no_buffer r a.shape a.is_branch) (no_buffer s b.shape b.is_branch)).0

  -- the lane's data come from the lanes or what is reached from them
  pub record Bound (lane : Name) : Type 0 where
    pub branch : Name
    pub its : BranchOf c m goes_back lane branch
    pub source : Port
    pub fed : c.feeder (port_at branch 1) ≡ Some source
    pub bound : IsLane c m source.node ⊎ Reached c m source.node

  abbrev Free : Name → Type 0
  Free lane = (r : Name) → BranchOf c m goes_back lane r → (q : Port) → c.feeder (port_at r 1) ≡ Some q → Feeder c m goes_back q.node

  module _ (ends : (lane : Name) → IsLane c m lane → (r : Name) × BranchOf c m goes_back lane r)
      (inside : (lane r : Name) (q : Port) → BranchOf c m goes_back lane r → c.feeder (port_at r 1) ≡ Some q → Inside c m goes_back q.node) where
    free_or_bound : (lane r : Name) (its : BranchOf c m goes_back lane r) (q : Port) → c.feeder (port_at r 1) ≡ Some q → Inside c m goes_back q.node → Bound lane ⊎ Free lane
    free_or_bound lane r its q fed (inl also) = inl (record { branch = r; its = its; source = q; fed = fed; bound = inl also })
    free_or_bound lane r its q fed (inr (inl reached)) = inl (record { branch = r; its = its; source = q; fed = fed; bound = inr reached })
    free_or_bound lane r its q fed (inr (inr feeder)) =
        inr
        (λ s other p p_fed.
        let same : r ≡ s = one_branch lane r s its other in
        subst (λ (z : Port). Feeder c m goes_back z.node) (same_Some q p (sym fed ∙ ap (λ z. c.feeder (port_at z 1)) same ∙ p_fed)) feeder)

    one : (lane : Name) → IsLane c m lane → Bound lane ⊎ Free lane
    one lane is =
        let (r, its) = ends lane is in
        let (q, fed) = typed.inputs (port_at r 1) (Branch its.shape) its.shape its.is_branch refl in
        free_or_bound lane r its q fed (inside lane r q its fed)

    abbrev pub SomeBound : Type 0
    SomeBound = (lane : Name) × Bound lane

    either : (lane : Name) (lanes : List Name) → Free lane → ((n : Name) → In n lanes → Free n) → (n : Name) → In n (lane ∷ lanes) → Free n
    either lane lanes free rest n (head e) = subst Free (sym e) free
    either lane lanes free rest n (tail i) = rest n i

    each : (lanes : List Name) → ((n : Name) → In n lanes → IsLane c m n) → SomeBound ⊎ ((n : Name) → In n lanes → Free n)
    each [] are = inr (λ n i. elim i [ ])
    each (lane ∷ lanes) are =
        elim (one lane (are lane (head refl))) [
          | inl bound ↦ inl (lane, bound)
          | inr free ↦
              elim (each lanes (λ n i. are n (tail i))) [
                | inl bound ↦ inl bound
                | inr rest ↦ inr (λ n i. either lane lanes free rest n i)
              ]
        ]

    pub some_bound : (lanes : List Name) → ((n : Name) → In n lanes → IsLane c m n) → ((n : Name) → IsLane c m n → In n lanes) →
        (r : Name) → FirstBranch c m goes_back r → ¬ (Row c m goes_back FreeData r) → SomeBound
    some_bound lanes are all r first no_row =
        elim (each lanes are) [
          | inl bound ↦ bound
          | inr free ↦ absurd (no_row (first, (λ lane s its q fed. free lane (all lane its.is_lane) s its q fed)))
        ]
