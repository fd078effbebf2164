-- Uses of rules on the way from a graph to one with a loop tagged: when they are instances, and what they make.
use Rattle.std.specs.Prelude.{◌≡◌, ◌≢◌, ◌⊎◌, ℕ, zero, suc, ◌≤◌, if◌then◌else◌, List, [], ◌∷◌, ◌++◌, map, length, Option, Some, None}
use Rattle.components.specs.Name.{Name, Port, port_get}
use Rattle.components.specs.declared.kind.Kind.{Kind}
use Rattle.components.specs.declared.kind.Kind.TheVariants.{Join, Split, Mux, Source0}
use Rattle.circuits.specs.Circuit.{Circuit}
use Rattle.circuits.specs.Replacing.{In, NoneTwice}
use Rattle.circuits.specs.Root.{PassesThrough, Root}
use Rattle.loop_laws.specs.Faults.{IsMux, IsBranch}
use Rattle.loop_laws.specs.Loop.{Lane, Loop, shapes_of}
use Rattle.loop_laws.specs.Polarity.{back_in}
use Rattle.loop_laws.specs.Reached.{port_at, HasKind, IsPure, FedBy}
use Rattle.loop_laws.specs.Weight.{weight_of}
use Rattle.loop_turns.specs.Lanes.{fed_lane, port_or, lane_place, fresh_of, tuple_shape}
use Rattle.loop_turns.specs.Rebuilt.{rebuilt}

-- a walk along wires between these nodes, of at least one wire
pub data PathIn (g : Circuit) (ns : List Name) (a : Name) : Name → Type 0 where
  wire : {b : Name} (i : ℕ) (q : Port) → q.node ≡ a → In a ns → g.feeder (port_at b i) ≡ Some q → In b ns → PathIn g ns a b
  further : {b : Name} (i : ℕ) (q : Port) → PathIn g ns a q.node → g.feeder (port_at b i) ≡ Some q → In b ns → PathIn g ns a b

-- an input of a t, or the select of an x
abbrev pub IsTreeInput : List Name → List Name → Port → Type 0
IsTreeInput ts xs p = In p.node ts ⊎ ((p.port ≡ 1) × In p.node xs)

-- the Forks and Buffers ts and the Muxes xs can be combined: one tree, fed from outside at one input, leads to the selects alone
pub record CanCombineMuxes (g : Circuit) (ts xs : List Name) : Type 0 where
  pub different : NoneTwice (ts ++ xs)
  pub trees : (n : Name) → In n ts → HasKind g PassesThrough n
  pub muxes : (n : Name) → In n xs → HasKind g IsMux n
  pub some : 1 ≤ length xs
  pub entry : Port
  pub is_input : IsTreeInput ts xs entry
  pub source : Port
  pub fed : g.feeder entry ≡ Some source
  pub from_outside : In source.node (ts ++ xs) → ⊥
  pub others : (p q : Port) → IsTreeInput ts xs p → p ≢ entry → g.feeder p ≡ Some q → In q.node ts
  pub leads : (p q : Port) → In q.node ts → g.feeder p ≡ Some q → IsTreeInput ts xs p
  pub no_cycle : (n : Name) → PathIn g ts n n → ⊥
  pub away : (p q : Port) → In q.node xs → g.feeder p ≡ Some q → In p.node (ts ++ xs) → ⊥

-- the new nodes of combined Muxes
pub data CombineNode : Type 0 where
  lanes_in lanes_back lanes_mux lanes_vars : CombineNode

abbrev pub combine_nodes : List CombineNode
combine_nodes = lanes_in ∷ lanes_back ∷ lanes_mux ∷ lanes_vars ∷ []

abbrev pub combine_kind : Loop → CombineNode → Kind
combine_kind l lanes_in = Join (shapes_of l)
combine_kind l lanes_back = Join (shapes_of l)
combine_kind l lanes_mux = Mux (tuple_shape l)
combine_kind l lanes_vars = Split (shapes_of l)

abbrev pub combine_out : Loop → (CombineNode → Name) → Port → Port
combine_out l name q = port_or (lane_place (λ (x : Lane). x.mux) l.lanes q.node) (name lanes_vars) q

abbrev pub back_of : Loop → Lane → Port
back_of l x = port_at x.mux (back_in l.goes_back)

abbrev pub combine_source : Circuit → Name → Loop → (CombineNode → Name) → CombineNode → ℕ → Option Port
combine_source g m l name lanes_in j = fed_lane g (combine_out l name) (port_get l.lanes j) (fresh_of l) None
combine_source g m l name lanes_back j = fed_lane g (combine_out l name) (port_get l.lanes j) (back_of l) None
combine_source g m l name lanes_mux (suc zero) = Some (port_at m 1)
combine_source g m l name lanes_mux (suc (suc zero)) = if l.goes_back then Some (port_at (name lanes_in) 1) else Some (port_at (name lanes_back) 1)
combine_source g m l name lanes_mux (suc (suc (suc zero))) = if l.goes_back then Some (port_at (name lanes_back) 1) else Some (port_at (name lanes_in) 1)
combine_source g m l name lanes_vars (suc zero) = Some (port_at (name lanes_mux) 1)
combine_source g m l name _ _ = None

-- g with the Muxes of the loop l at m, and its tree, combined
abbrev pub combined_graph : Circuit → Name → Loop → (CombineNode → Name) → Circuit
combined_graph g m l name =
    rebuilt g (l.tree ++ map (λ (x : Lane). x.mux) l.lanes) name combine_nodes (combine_kind l) (combine_source g m l name) (combine_out l name)

abbrev pub IsSplit : Kind → Type 0
IsSplit (Split bs) = Unit {0}
IsSplit _ = ⊥

abbrev pub IsSource : Kind → Type 0
IsSource (Source0 a) = Unit {0}
IsSource _ = ⊥

-- reached from v by wires through these nodes
pub data ReachedFrom (g : Circuit) (v : Name) (bs : List Name) : Name → Type 0 where
  from_v : {n : Name} (i : ℕ) (q : Port) → q.node ≡ v → g.feeder (port_at n i) ≡ Some q → In n bs → ReachedFrom g v bs n
  from_b : {n : Name} (i : ℕ) (q : Port) → ReachedFrom g v bs q.node → g.feeder (port_at n i) ≡ Some q → In n bs → ReachedFrom g v bs n

-- each takes its inputs from those before it
abbrev pub FromEarlier : Circuit → List Name → List Name → Type 0
FromEarlier g before [] = Unit {0}
FromEarlier g before (b ∷ bs) = FedBy g (λ n. In n before) b × FromEarlier g (b ∷ before) bs

-- the Split v and the nodes bs can be gathered, where the Branches rs and the Init m take what leaves them
pub record CanGather (g : Circuit) (v : Name) (bs rs : List Name) (m : Name) : Type 0 where
  pub different : NoneTwice (v ∷ (bs ++ (rs ++ m ∷ [])))
  pub split : HasKind g IsSplit v
  pub kinds : (n : Name) → In n bs → HasKind g IsPure n ⊎ HasKind g IsSource n
  pub in_order : FromEarlier g (v ∷ []) bs
  pub branches : (n : Name) → In n rs → HasKind g IsBranch n
  pub leaves : (p q : Port) → In q.node (v ∷ bs) → g.feeder p ≡ Some q → In p.node bs ⊎ (In p.node rs ⊎ (p ≡ port_at m 1))
  pub data_fed : (r : Name) → In r rs → FedBy g (λ n. In n (v ∷ bs)) r
  pub mark_fed : (q : Port) → g.feeder (port_at m 1) ≡ Some q → In q.node (v ∷ bs)
  pub root : Port
  pub roots : (r : Name) → In r rs → Root g (port_at r 2) root
  pub mark_root : Root g (port_at m 1) root
  pub bound_root : (root.node ≡ v) ⊎ ReachedFrom g v bs root.node
  pub data_branch : Name
  pub is_branch : In data_branch rs
  pub data_source : Port
  pub is_data : g.feeder (port_at data_branch 1) ≡ Some data_source
  pub bound_data : (data_source.node ≡ v) ⊎ ReachedFrom g v bs data_source.node
  pub few : length bs ≤ 4096
  pub light : weight_of g bs ≤ 16384
