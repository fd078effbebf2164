-- The names of new nodes, and marked loops tagged or gathered one after the other.
use Rattle.std.specs.Prelude.{◌≡◌, ℕ, ◌<◌, length, List, [], ◌∷◌, ◌++◌, Some, codes}
use Rattle.std.specs.Fmt.{decimal}
use Rattle.fun_expr.specs.Function.{Function}
use Rattle.components.specs.declared.kind.Kind.{Kind}
use Rattle.components.specs.Name.{Name}
use Rattle.circuits.specs.Circuit.{Circuit}
use Rattle.circuits.specs.Replacing.{In}
use Rattle.loop_laws.specs.Polarity.{IsMark}
use Rattle.loop_laws.specs.Loop.{Loop}
use Rattle.loop_laws.specs.OffCycle.{HasLoops, AllOffCycle}
use Rattle.tagged_loop.specs.LoopFunction.{IsLoopFunction}
use Rattle.loop_turns.specs.Lanes.{tuple_shape}
use Rattle.loop_turns.specs.Tagged.{TagNode, new_in, new_tagger, new_merge, new_tag, new_vars, new_next, new_retag, new_branch, new_out, new_sink, tagged_graph}
use Rattle.loop_turns.specs.Gathered.{GatherNode, one_in, one_mux, one_pure, one_pair, one_cond, one_branch, one_out, gathered_graph}

-- the word of a new node of a tagged loop
abbrev pub tag_word : TagNode → List ℕ
tag_word new_in = codes "in"
tag_word new_tagger = codes "tagger"
tag_word new_merge = codes "merge"
tag_word new_tag = codes "tag"
tag_word new_vars = codes "vars"
tag_word new_next = codes "next"
tag_word new_retag = codes "retag"
tag_word new_branch = codes "branch"
tag_word new_out = codes "out"
tag_word (new_sink j) = codes "s" ++ decimal j

-- and of a gathered loop
abbrev pub gather_word : GatherNode → List ℕ
gather_word one_in = codes "in"
gather_word one_mux = codes "mux"
gather_word one_pure = codes "pure"
gather_word one_pair = codes "pair"
gather_word one_cond = codes "cond"
gather_word one_branch = codes "branch"
gather_word one_out = codes "out"

-- the names: a prefix, and the word
abbrev pub tag_name : Name → TagNode → Name
tag_name prefix x = prefix ++ tag_word x

abbrev pub gather_name : Name → GatherNode → Name
gather_name prefix x = prefix ++ gather_word x

-- no node's name begins with it
abbrev pub IsFreshPrefix : Circuit → Name → Type 0
IsFreshPrefix g prefix = (rest : Name) (k : Kind) → g.kind_at (prefix ++ rest) ≡ Some k → ⊥

-- the prefix of this number
abbrev pub numbered : ℕ → Name
numbered k = codes "ooo_" ++ (decimal k ++ codes "_")

-- the least number whose prefix is fresh
abbrev pub IsFreshNumber : Circuit → ℕ → Type 0
IsFreshNumber g k = IsFreshPrefix g (numbered k) × ((j : ℕ) → j < k → IsFreshPrefix g (numbered j) → ⊥)

-- h is g with the loops at these marks tagged, one after the other
abbrev pub TaggedAll : Circuit → (Name → Loop) → List Name → Circuit → Type 0
TaggedAll g loops [] h = g ≡ h
TaggedAll g loops (m ∷ ms) h = (k : ℕ) × IsFreshNumber g k × TaggedAll (tagged_graph g m (loops m) (tag_name (numbered k))) loops ms h

-- a mark, and the function of its loop's body
pub record Gathering : Type 0 where
  pub mark : Name
  pub fun : Function

-- the marks, in turn
abbrev pub marks_of : List Gathering → List Name
marks_of [] = []
marks_of (t ∷ ts) = t.mark ∷ marks_of ts

-- h is g with the loops at these marks gathered, one after the other
abbrev pub GatheredAll : Circuit → (Name → Loop) → List Gathering → Circuit → Type 0
GatheredAll g loops [] h = g ≡ h
GatheredAll g loops (t ∷ ts) h =
    (k : ℕ) × IsFreshNumber g k × GatheredAll (gathered_graph g t.mark (loops t.mark) t.fun (gather_name (numbered k))) loops ts h

-- each is a mark with a function that its loop can have
abbrev pub CanGatherAll : Circuit → (Name → Loop) → List Gathering → Type 0
CanGatherAll g loops ts =
    (t : Gathering) → In t ts → IsMark g t.mark × IsLoopFunction (tuple_shape (loops t.mark)) t.fun

-- each mark of h that was not gathered has its old loop, and each that was has one of one lane
pub record LoopsAfter (g h : Circuit) (loops : Name → Loop) (marks : List Name) : Type 0 where
  pub after : Name → Loop
  pub has : HasLoops h after
  pub others : (n : Name) → (In n marks → ⊥) → after n ≡ loops n
  pub one_lane : (n : Name) → In n marks → length (after n).lanes ≡ 1
  pub off : AllOffCycle g loops → AllOffCycle h after
