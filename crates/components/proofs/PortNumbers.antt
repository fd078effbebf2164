-- A port is there exactly where its number is one of theirs.
use Rattle.std.proofs.Common.{◌≡◌, ℕ, ◌<◌, ◌≤◌, List, length, sym, subst, arith}
use Rattle.std.specs.Prelude.{◌↔◌, IsTrue, IsSome, nat_le}
use Rattle.std.proofs.lemmas.Bool.{leb-true, le-leb}
use Rattle.components.specs.Name.{port_get}
use Rattle.components.specs.Numbered.{within, there}

pub there_where_counted : {A : Type 0} (xs : List A) (count i : ℕ) → count ≡ length xs → 1 ≤ i → IsTrue (nat_le i count) ↔ IsSome (port_get xs i)
there_where_counted xs count i same some = (
  λ few. there xs i (record { some = some; few = subst (λ n. i ≤ n) same (leb-true i count few) }),
  λ is_there. le-leb i count (subst (λ n. i ≤ n) (sym same) (within xs i is_there).few),
)

-- none has the number 0
pub none_at_zero : {A : Type 0} (xs : List A) (i : ℕ) → i < 1 → ¬ (IsSome (port_get xs i))
none_at_zero xs i below is_there = let number = within xs i is_there in absurd (omega (arith, below, number.some))
