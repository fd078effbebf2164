use Rattle.std.proofs.Common.{◌≡◌, ◌+◌, ◌<◌, ℕ, Option, Some, None, MatchOption, refl, subst, sym, ◌∙◌, arith}
use Rattle.subst_engine.specs.declared.prefix.TheConstants.{WINDOW}
use Rattle.subst_engine.specs.PrefixNumber.{HasNumber, IsFirstFree}
use Rattle.subst_engine.proofs.Marks.{each_marked, first_unmarked}
use Rattle.subst_engine.proofs.prefix.free_place.Goals as goal

pub returns : goal.returns
returns c = by c.first_free.result refl
  where
    by : (o : Option ℕ) → c.first_free.result ≡ o → MatchOption o ((place : ℕ) → place < WINDOW → HasNumber c.args.g.now (c.args.base + place)) (IsFirstFree c.args.g.now c.args.base)
    by None none = λ place below. (c.taken_from-taken.ensures.taken place below).0
        (each_marked c.taken_from-taken.result (sym c.first_free.ensures ∙ none) place (subst (λ n. place < n) (sym c.taken_from-taken.ensures.size) below))
    by (Some place) some =
        let first = first_unmarked c.taken_from-taken.result place (sym c.first_free.ensures ∙ some) in
        let within : place < WINDOW = subst (λ n. place < n) c.taken_from-taken.ensures.size first.within in
        record {
          free = λ has. first.here ((c.taken_from-taken.ensures.taken place within).1 has);
          taken = λ lesser below. (c.taken_from-taken.ensures.taken lesser (omega arith)).0 (first.before lesser below);
        }
