-- The rule tag_loop: a tagged loop in the place of an in-order loop.
use Rattle.std.specs.Prelude.{◌≡◌, ℕ, ◌≤◌, List, [], ◌++◌, length, codes, slice_index_or}
use Rattle.components.specs.Name.{Name}
use Rattle.components.specs.NamedGraph.{NamedGraph}
use Rattle.circuits.specs.Replacing.{NoneTwice}
use Rattle.circuits.specs.ReplacedGraph.{Matches}
use Rattle.tagged_loop.specs.InOrderLoop.{InOrderNode, LoopParts, entry, init, mux, pure, pair, cond, branch, exit, in_order_loop}
use Rattle.tagged_loop.specs.TaggedLoop.{TaggedNode, new_entry, tagger, merge, tag, new_pure, new_pair, retag, new_branch, new_exit, tagged_loop}
use Rattle.subst_engine.specs.declared.word.RuleWord.TheVariants.{TagLoop}
use Rattle.subst_engine.specs.Prefix.{prefix_text}
use Rattle.subst_engine.specs.Rule.{NamedRule}
use Rattle.drawn_rules.specs.EndNames.{entry_name, exit_name}

-- the name at a place of the list
abbrev pub nth : List Name → ℕ → Name
nth names place = slice_index_or names place []

-- the names of the in-order loop, where those of the listed nodes are given in the order of the rule
abbrev pub old_name : List Name → InOrderNode → Name
old_name names entry = entry_name names
old_name names init = nth names 0
old_name names mux = nth names 1
old_name names pure = nth names 2
old_name names pair = nth names 3
old_name names cond = nth names 4
old_name names branch = nth names 5
old_name names exit = exit_name names

-- the names of the tagged loop, with the prefix of this number
abbrev pub new_name : ℕ → List Name → TaggedNode → Name
new_name prefix names new_entry = entry_name names
new_name prefix names tagger = prefix_text prefix ++ codes "tagger"
new_name prefix names merge = prefix_text prefix ++ codes "merge"
new_name prefix names tag = prefix_text prefix ++ codes "tag"
new_name prefix names new_pure = prefix_text prefix ++ codes "pure"
new_name prefix names new_pair = prefix_text prefix ++ codes "pair"
new_name prefix names retag = prefix_text prefix ++ codes "retag"
new_name prefix names new_branch = prefix_text prefix ++ codes "branch"
new_name prefix names new_exit = exit_name names

-- the rule at nodes of these names that make this loop
abbrev pub tag_loop : ℕ → ℕ → List Name → LoopParts → NamedRule
tag_loop prefix tags names loop =
    record { word = TagLoop; left = in_order_loop loop (old_name names); right = tagged_loop loop tags (new_name prefix names) }

-- an instance: six different names of nodes of g that make an in-order loop there, with its kinds and exactly its wires between them; 1 to 256 tags; and no new node has the name of a node that stays
pub record IsInstance (g : NamedGraph) (prefix tags : ℕ) (names : List Name) (loop : LoopParts) : Type 0 where
  pub some : 1 ≤ tags
  pub few : tags ≤ 256
  pub six : length names ≡ 6
  pub differ : NoneTwice names
  pub matches : Matches g (in_order_loop loop (old_name names)) (tagged_loop loop tags (new_name prefix names))

-- the rule at an instance
pub record IsTagLoop (g : NamedGraph) (prefix tags : ℕ) (names : List Name) (rule : NamedRule) : Type 0 where
  pub loop : LoopParts
  pub at : IsInstance g prefix tags names loop
  pub is : rule ≡ tag_loop prefix tags names loop

-- there is an instance
abbrev pub HasInstance : NamedGraph → ℕ → ℕ → List Name → Type 0
HasInstance g prefix tags names = (loop : LoopParts) × IsInstance g prefix tags names loop

-- Laws

-- where the rule was made it matches
abbrev pub TagLoopMatches : Type 0
TagLoopMatches = (g : NamedGraph) (prefix tags : ℕ) (names : List Name) (rule : NamedRule) → IsTagLoop g prefix tags names rule → Matches g rule.left rule.right
