-- What tag_loop and expand make of a gathered loop, by ports.
use Rattle.std.specs.Prelude.{ℕ, zero, suc, Bool, if◌then◌else◌, List, [], ◌∷◌, ◌++◌, length, Option, Some, None, bytes_eq, nat_eq}
use Rattle.port_types.specs.Tag.{tag_width}
use Rattle.components.specs.Kind.{Shape}
use Rattle.components.specs.Name.{Name, Port, port_get}
use Rattle.components.specs.declared.kind.Kind.{Kind}
use Rattle.components.specs.declared.kind.Kind.TheVariants.{Join, Split, Sink0, Branch, Merge, Tagger, Pure}
use Rattle.fun_expr.specs.Function.{Function}
use Rattle.circuits.specs.Circuit.{Circuit}
use Rattle.loop_laws.specs.Loop.{Lane, Loop, shapes_of}
use Rattle.loop_laws.specs.Polarity.{back_out, exit_out, fresh_in}
use Rattle.loop_laws.specs.Reached.{port_at}
use Rattle.loop_turns.specs.Gathered.{GatherNode, GatherNode.one_in, GatherNode.one_mux, GatherNode.one_pure, GatherNode.one_pair, GatherNode.one_cond, GatherNode.one_branch, GatherNode.one_out, gathered_graph}
use Rattle.loop_turns.specs.Lanes.{port_or, lane_place, fed_lane, data_of, condition_of, tuple_shape}
use Rattle.loop_turns.specs.Rebuilt.{new_at, has_name, kind_or, source_or, moved}
use Rattle.loop_turns.specs.Tagged.{TagNode, TagNode.new_in, TagNode.new_tagger, TagNode.new_merge, TagNode.new_tag, TagNode.new_vars, TagNode.new_next, TagNode.new_retag, TagNode.new_branch, TagNode.new_out, TagNode.new_sink}

-- the new nodes of a tagged loop in place
pub data RingUse : Type 0 where
  ring_tagger ring_merge ring_tag ring_pure ring_pair ring_retag ring_branch : RingUse

abbrev pub ring_uses : List RingUse
ring_uses = ring_tagger ∷ ring_merge ∷ ring_tag ∷ ring_pure ∷ ring_pair ∷ ring_retag ∷ ring_branch ∷ []

abbrev pub ring_kind : Shape → Function → ℕ → RingUse → Kind
ring_kind a f n ring_tagger = Tagger a n
ring_kind a f n ring_merge = Merge (tag_width n ∷ a) 2
ring_kind a f n ring_tag = Split ((tag_width n ∷ []) ∷ a ∷ [])
ring_kind a f n ring_pure = Pure f (a ++ 1 ∷ [])
ring_kind a f n ring_pair = Split (a ∷ (1 ∷ []) ∷ [])
ring_kind a f n ring_retag = Join ((tag_width n ∷ []) ∷ a ∷ [])
ring_kind a f n ring_branch = Branch (tag_width n ∷ a)

-- what the exit of the old Branch fed, out2 of the Tagger feeds
abbrev pub ring_out : Name → (RingUse → Name) → Port → Port
ring_out branch name q = if bytes_eq q.node branch then port_at (name ring_tagger) 2 else q

abbrev pub ring_source : Circuit → Name → Name → Bool → (RingUse → Name) → RingUse → ℕ → Option Port
ring_source h mux branch d name ring_tagger (suc zero) = moved (ring_out branch name) (h.feeder (port_at mux (fresh_in d)))
ring_source h mux branch d name ring_tagger (suc (suc zero)) = Some (port_at (name ring_branch) (exit_out d))
ring_source h mux branch d name ring_merge (suc zero) = Some (port_at (name ring_tagger) 1)
ring_source h mux branch d name ring_merge (suc (suc zero)) = Some (port_at (name ring_branch) (back_out d))
ring_source h mux branch d name ring_tag (suc zero) = Some (port_at (name ring_merge) 1)
ring_source h mux branch d name ring_pure (suc zero) = Some (port_at (name ring_tag) 2)
ring_source h mux branch d name ring_pair (suc zero) = Some (port_at (name ring_pure) 1)
ring_source h mux branch d name ring_retag (suc zero) = Some (port_at (name ring_tag) 1)
ring_source h mux branch d name ring_retag (suc (suc zero)) = Some (port_at (name ring_pair) 1)
ring_source h mux branch d name ring_branch (suc zero) = Some (port_at (name ring_retag) 1)
ring_source h mux branch d name ring_branch (suc (suc zero)) = Some (port_at (name ring_pair) 2)
ring_source h mux branch d name _ _ = None

-- h with the in-order loop of these nodes tagged
abbrev pub ring_made : Circuit → Name → Name → Name → Name → Name → Name → Bool → ℕ → Shape → Function → (RingUse → Name) → Circuit
ring_made h m mux pure pair cond branch d n a f name =
    record {
      kind_at = λ k. kind_or (ring_kind a f n) (new_at name ring_uses k) (if has_name (m ∷ mux ∷ pure ∷ pair ∷ cond ∷ branch ∷ []) k then None else h.kind_at k);
      feeder = λ p.
          source_or (ring_source h mux branch d name) (new_at name ring_uses p.node) p.port
          (if has_name (m ∷ mux ∷ pure ∷ pair ∷ cond ∷ branch ∷ []) p.node then None else moved (ring_out branch name) (h.feeder p));
    }

-- the new nodes of an expanded body
pub data ExpandUse : Type 0 where
  expand_vars expand_next : ExpandUse
  expand_sink : ℕ → ExpandUse

abbrev pub expand_sinks : ℕ → ℕ → List ExpandUse
expand_sinks i zero = []
expand_sinks i (suc k) = expand_sink i ∷ expand_sinks (suc i) k

abbrev pub expand_uses : Loop → List ExpandUse
expand_uses l = expand_vars ∷ expand_next ∷ expand_sinks 1 (length l.lanes)

abbrev pub expand_kind : Loop → ExpandUse → Kind
expand_kind l expand_vars = Split (shapes_of l)
expand_kind l expand_next = Join (shapes_of l)
expand_kind l (expand_sink j) = Sink0 (1 ∷ [])

-- the body's producers, with vars for the lanes
abbrev pub expand_out : Loop → (ExpandUse → Name) → Port → Port
expand_out l name q = port_or (lane_place (λ (x : Lane). x.mux) l.lanes q.node) (name expand_vars) q

abbrev pub expand_source : Circuit → Circuit → Name → Loop → Name → (ExpandUse → Name) → ExpandUse → ℕ → Option Port
expand_source h g m l pure name expand_vars (suc zero) = h.feeder (port_at pure 1)
expand_source h g m l pure name expand_next j = fed_lane g (expand_out l name) (port_get l.lanes j) data_of None
expand_source h g m l pure name (expand_sink j) (suc zero) =
    fed_lane g (expand_out l name) (port_get l.lanes (suc j)) condition_of (moved (expand_out l name) (g.feeder (port_at m 1)))
expand_source h g m l pure name _ _ = None

-- what out1 of pair fed, next feeds; what out2 fed, the producer of the first condition
abbrev pub expand_taken : Circuit → Loop → Name → (ExpandUse → Name) → Option Port → Option Port
expand_taken g l pair name None = None
expand_taken g l pair name (Some q) =
    if bytes_eq q.node pair then (if nat_eq q.port 1 then Some (port_at (name expand_next) 1) else fed_lane g (expand_out l name) (port_get l.lanes 1) condition_of None) else Some q

-- h with pure and pair expanded to the body that the loop l at m had in g
abbrev pub expand_made : Circuit → Circuit → Name → Loop → Name → Name → (ExpandUse → Name) → Circuit
expand_made h g m l pure pair name =
    record {
      kind_at = λ n.
          kind_or (expand_kind l) (new_at name (expand_uses l) n)
          (if has_name l.body n then g.kind_at n else (if has_name (pure ∷ pair ∷ []) n then None else h.kind_at n));
      feeder = λ p.
          source_or (expand_source h g m l pure name) (new_at name (expand_uses l) p.node) p.port
          (if has_name l.body p.node then moved (expand_out l name) (g.feeder p) else (if has_name (pure ∷ pair ∷ []) p.node then None else expand_taken g l pair name (h.feeder p)));
    }

-- the names of the new nodes from a gathered loop to a tagged one
pub data LastNode : Type 0 where
  l_in l_mux l_pure l_pair l_cond l_branch l_out l_tagger l_merge l_tag l_retag l_vars l_next : LastNode
  l_sink : ℕ → LastNode

abbrev pub last_sinks : ℕ → ℕ → List LastNode
last_sinks i zero = []
last_sinks i (suc k) = l_sink i ∷ last_sinks (suc i) k

abbrev pub last_nodes : Loop → List LastNode
last_nodes l = l_in ∷ l_mux ∷ l_pure ∷ l_pair ∷ l_cond ∷ l_branch ∷ l_out ∷ l_tagger ∷ l_merge ∷ l_tag ∷ l_retag ∷ l_vars ∷ l_next ∷ last_sinks 1 (length l.lanes)

abbrev pub gathered_at : GatherNode → LastNode
gathered_at one_in = l_in
gathered_at one_mux = l_mux
gathered_at one_pure = l_pure
gathered_at one_pair = l_pair
gathered_at one_cond = l_cond
gathered_at one_branch = l_branch
gathered_at one_out = l_out

abbrev pub ring_at : RingUse → LastNode
ring_at ring_tagger = l_tagger
ring_at ring_merge = l_merge
ring_at ring_tag = l_tag
ring_at ring_pure = l_pure
ring_at ring_pair = l_pair
ring_at ring_retag = l_retag
ring_at ring_branch = l_branch

abbrev pub expand_at : ExpandUse → LastNode
expand_at expand_vars = l_vars
expand_at expand_next = l_next
expand_at (expand_sink j) = l_sink j

abbrev pub tagged_at : TagNode → LastNode
tagged_at new_in = l_in
tagged_at new_tagger = l_tagger
tagged_at new_merge = l_merge
tagged_at new_tag = l_tag
tagged_at new_vars = l_vars
tagged_at new_next = l_next
tagged_at new_retag = l_retag
tagged_at new_branch = l_branch
tagged_at new_out = l_out
tagged_at (new_sink j) = l_sink j

-- the gathered loop after tag_loop and expand
abbrev pub tag_chain : Circuit → Name → Loop → Function → (LastNode → Name) → Circuit
tag_chain g m l f name =
    expand_made
    (ring_made (gathered_graph g m l f (λ x. name (gathered_at x))) m (name l_mux) (name l_pure) (name l_pair) (name l_cond) (name l_branch) l.goes_back l.tags (tuple_shape l) f (λ x. name (ring_at x)))
    g m l (name l_pure) (name l_pair) (λ x. name (expand_at x))
