-- Numbers that digits write.
use Rattle.std.proofs.Common.{◌≡◌, ℕ, ◌<◌, ◌≤◌, ◌^◌, Bool, true, false, cond, Some, None, refl, sym, ap, ◌∙◌, arith}
use Rattle.std.specs.Prelude.{nat_lt}
use Rattle.std.proofs.lemmas.Bool.{ltb-true, lt-ltb}
use Rattle.std.proofs.lemmas.Bool.Decides.{nat_tests}
use Rattle.port_types.specs.Numeral.{in_word}

-- no number above one that is too great is in a word
pub past_word : (a b : ℕ) → a ≤ b → in_word a ≡ None → in_word b ≡ None
past_word a b le none = grind (arith, nat_tests)

some_only : (b : Bool) (a n : ℕ) → cond b (Some a) None ≡ Some n → (b ≡ true) × (n ≡ a)
some_only true a n some = (refl, cc)
some_only false a n some = absurd (cc)

pub word_is : (a n : ℕ) → in_word a ≡ Some n → (n ≡ a) × (n < 2 ^ 64)
word_is a n some =
    let only = some_only (nat_lt a (2 ^ 64)) a n some in
    let small = ltb-true a (2 ^ 64) only.0 in
    (only.1, omega (arith, only.1, small))

pub word_some : (a n : ℕ) → n ≡ a → n < 2 ^ 64 → Some n ≡ in_word a
word_some a n is small = ap (λ (m : ℕ). Some m) is ∙ sym (ap (λ (b : Bool). cond b (Some a) None) (lt-ltb a (2 ^ 64) (omega arith)))
