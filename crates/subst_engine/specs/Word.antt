-- The words of rules.
use Rattle.std.specs.Prelude.{ℕ, List, codes}
use Rattle.subst_engine.specs.declared.word.RuleWord.{RuleWord}
use Rattle.subst_engine.specs.declared.word.RuleWord.TheVariants.{DropBuffer, SplitJoin, TrimFork, MuxCombine, MuxCombine0, Gather, BranchCombine, BranchCombine0, TagLoop, Expand}

abbrev pub word_text : RuleWord → List ℕ
word_text DropBuffer = codes "drop_buffer"
word_text SplitJoin = codes "split_join"
word_text TrimFork = codes "trim_fork"
word_text MuxCombine = codes "mux_combine"
word_text MuxCombine0 = codes "mux_combine0"
word_text Gather = codes "gather"
word_text BranchCombine = codes "branch_combine"
word_text BranchCombine0 = codes "branch_combine0"
word_text TagLoop = codes "tag_loop"
word_text Expand = codes "expand"
