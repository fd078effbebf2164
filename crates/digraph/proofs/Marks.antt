-- Vertices that are marked.
use Rattle.std.proofs.Common.{◌≡◌, ◌⊎◌, inl, inr, ℕ, zero, suc, ◌+◌, ◌<◌, sym, ap, subst, ◌∙◌, List, [], ◌∷◌, length, set, get_or, replicate, Some, Bool, true, false, true≢false, arith}
use Rattle.std.specs.Prelude.{slice_get}
use Rattle.std.proofs.lemmas.Bool.Decides.{eqb_tells}
use Rattle.std.proofs.lemmas.Option.{same_Some, none-some}
use Rattle.digraph.specs.Cycles.{IsMarked}
use Rattle.digraph.specs.Grouping.{count_unmarked}
use Rattle.digraph.proofs.Places.{set_here, set_elsewhere, got_or, repeated}

module _ (marks : List Bool) (v : ℕ) where
  pub marked_here : v < length marks → IsMarked (set marks v true) v
  marked_here less = set_here marks v true less

  pub marked_only : (w : ℕ) → IsMarked (set marks v true) w → IsMarked marks w ⊎ (w ≡ v)
  marked_only w m = elim (eqb_tells w v) [ inl same ↦ inr same.1 | inr other ↦ inl (sym (set_elsewhere marks v w true other.1) ∙ m) ]

  pub marked_still : v < length marks → (w : ℕ) → IsMarked marks w → IsMarked (set marks v true) w
  marked_still less w m = elim (eqb_tells w v) [ inl same ↦ subst (IsMarked (set marks v true)) (sym same.1) (marked_here less) | inr other ↦ set_elsewhere marks v w true other.1 ∙ m ]

  -- a vertex of which a test says that it has a mark, or none
  pub has_mark : (d : Bool) → v < length marks → get_or marks v d ≡ true → IsMarked marks v
  has_mark d less is = got_or marks v d less ∙ ap Some is

  pub lacks_mark : (d : Bool) → v < length marks → get_or marks v d ≡ false → slice_get marks v ≡ Some false
  lacks_mark d less is = got_or marks v d less ∙ ap Some is

  pub no_mark : slice_get marks v ≡ Some false → ¬ (IsMarked marks v)
  no_mark is m = absurd (true≢false (sym (same_Some false true (sym is ∙ m))))

pub none_marked : (n v : ℕ) → ¬ (IsMarked (replicate n false) v)
none_marked n v m = absurd (true≢false (repeated n v false true m))

pub one_unmarked_less : (marks : List Bool) (v : ℕ) → slice_get marks v ≡ Some false → count_unmarked marks ≡ count_unmarked (set marks v true) + 1
one_unmarked_less [] v is = absurd (none-some false is)
one_unmarked_less (true ∷ marks) zero is = absurd (true≢false (same_Some true false is))
one_unmarked_less (false ∷ marks) zero is = omega arith
one_unmarked_less (true ∷ marks) (suc v) is = one_unmarked_less marks v is
one_unmarked_less (false ∷ marks) (suc v) is = let less = one_unmarked_less marks v is in omega (arith, less)
