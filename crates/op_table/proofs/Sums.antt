-- Adding and subtracting undo each other.
use Rattle.std.proofs.Common.{◌≡◌, ℕ, ◌+◌, ◌-◌, ◌%◌, ◌^◌, ◌<◌, pos, negsuc, ◌-ℤ◌, ap, ◌∙◌, inl, inr, arith}
use Rattle.std.proofs.Math.Nat.{mod-eq_of_lt, add-mod_left}
use Rattle.std.proofs.lemmas.Bool.{cases_lt}
use Rattle.std.proofs.lemmas.Int.{ints}
use Rattle.op_table.specs.Value.{modulo, op_value}
use Rattle.op_table.specs.Laws.{SubUndoesAdd, AddUndoesSub}

-- a number that is the power less some
modulo-less : (width n : ℕ) → n < 2 ^ width → modulo width (negsuc n) ≡ 2 ^ width - 1 - n
modulo-less width n fits = ap (λ r. 2 ^ width - 1 - r) (mod-eq_of_lt fits)

pub sub_undoes_add : SubUndoesAdd
unfolding op_value
sub_undoes_add width a b first second =
    elim (cases_lt (a + b) (2 ^ width)) [
      | inl within ↦
          let sum : (a + b) % 2 ^ width ≡ a + b = mod-eq_of_lt within in
          let whole : pos (a + b) -ℤ pos b ≡ pos a = omega (arith, ints) in
          rw (sum, whole) (mod-eq_of_lt first)
      | inr past ↦
          let back : a + b ≡ 2 ^ width + (a + b - 2 ^ width) = omega arith in
          let low : (a + b - 2 ^ width) % 2 ^ width ≡ a + b - 2 ^ width = mod-eq_of_lt (omega arith) in
          let sum : (a + b) % 2 ^ width ≡ a + b - 2 ^ width = ap (λ n. n % 2 ^ width) back ∙ add-mod_left (2 ^ width) (a + b - 2 ^ width) ∙ low in
          let whole : pos (a + b - 2 ^ width) -ℤ pos b ≡ negsuc (2 ^ width - 1 - a) = omega (arith, ints) in
          rw (sum, whole) (modulo-less width (2 ^ width - 1 - a) (omega arith) ∙ omega arith)
    ]

pub add_undoes_sub : AddUndoesSub
unfolding op_value
add_undoes_sub width a b first second =
    elim (cases_lt a b) [
      | inl less ↦
          let whole : pos a -ℤ pos b ≡ negsuc (b - a - 1) = omega (arith, ints) in
          let rest = modulo-less width (b - a - 1) (omega arith) in
          let sum : (2 ^ width - 1 - (b - a - 1)) + b ≡ 2 ^ width + a = omega arith in
          rw whole (rw (rest, sum) (add-mod_left (2 ^ width) a ∙ mod-eq_of_lt first))
      | inr least ↦
          let whole : pos a -ℤ pos b ≡ pos (a - b) = omega (arith, ints) in
          let rest : (a - b) % 2 ^ width ≡ a - b = mod-eq_of_lt (omega arith) in
          let sum : (a - b) + b ≡ a = omega arith in
          rw whole (rw (rest, sum) (mod-eq_of_lt first))
    ]
