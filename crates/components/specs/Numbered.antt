-- The ports of a side have the numbers from 1 to their count.
use Rattle.std.proofs.Common.{◌≡◌, ℕ, zero, suc, ◌<◌, ◌≤◌, true, List, [], ◌∷◌, length, Some, is_some, refl, sym, true≢false}
use Rattle.std.specs.Prelude.{◌^◌}
use Rattle.std.specs.Fmt.{decimal}
use Rattle.std.proofs.Math.Bridge.{no_suc-le-zero}
use Rattle.std.proofs.Math.Nat.{le_refl, suc-le-suc_iff, zero-lt-suc}
use Rattle.std.proofs.lemmas.Option.{none-some}
use Rattle.std.proofs.lemmas.Fmt.{decimal_injective}
use Rattle.std.proofs.lemmas.List.{append_cancel_left}
use Rattle.port_types.specs.declared.side.Side.{Side}
use Rattle.port_types.specs.PortText.{side_word, port_name}
use Rattle.components.specs.Name.{port_get}

-- the number of a port that is there
pub record Within {A : Type 0} (xs : List A) (i : ℕ) : Type 0 where
  pub some : 1 ≤ i
  pub few : i ≤ length xs

pub within : {A : Type 0} (xs : List A) (i : ℕ) → is_some (port_get xs i) ≡ true → Within xs i
within [] i e = absurd (true≢false (sym e))
within (x ∷ xs) zero e = absurd (true≢false (sym e))
within (x ∷ xs) (suc zero) e = record { some = le_refl 1; few = zero-lt-suc (length xs) }
within (x ∷ xs) (suc (suc i)) e = record { some = zero-lt-suc (suc i); few = suc-le-suc_iff.1 (within xs (suc i) e).few }

pub there : {A : Type 0} (xs : List A) (i : ℕ) → Within xs i → is_some (port_get xs i) ≡ true
there [] zero number = absurd (no_suc-le-zero number.some)
there [] (suc i) number = absurd (no_suc-le-zero number.few)
there (x ∷ xs) zero number = absurd (no_suc-le-zero number.some)
there (x ∷ xs) (suc zero) number = refl
there (x ∷ xs) (suc (suc i)) number = there xs (suc i) (record { some = zero-lt-suc i; few = suc-le-suc_iff.0 number.few })

-- the one port of a side has number 1
pub single_port : {A : Type 0} (x y : A) (i : ℕ) → port_get (x ∷ []) i ≡ Some y → i ≡ 1
single_port x y zero e = absurd (none-some y e)
single_port x y (suc zero) e = refl
single_port x y (suc (suc i)) e = absurd (none-some y e)

-- ports of a side with one name have one number
pub one_number : (side : Side) (a b : ℕ) → a < 2 ^ 64 → b < 2 ^ 64 → port_name side a ≡ port_name side b → a ≡ b
one_number side a b fits_a fits_b is = decimal_injective a b fits_a fits_b (append_cancel_left (side_word side) (decimal a) (decimal b) is)
