-- Names made longer, so that they are new.
use Rattle.std.proofs.Common.{◌≡◌, ℕ, ◌+◌, ◌<◌, inl, inr, sym, ap, ◌∙◌, bytes_eq, if◌then◌else◌, ◌++◌, length, drop, replicate, Option, Some, None, arith, length-append}
use Rattle.std.proofs.Math.Seq.{drop-append_seam}
use Rattle.std.proofs.lemmas.List.{length-replicate}
use Rattle.std.proofs.lemmas.Option.{same_Some}
use Rattle.components.specs.Name.{Name}
use Rattle.components.specs.Orders.{same_bytes, other_bytes}
use Rattle.circuits.proofs.Names.{name_cases}
use Rattle.circuits.proofs.Beside.{none_some}

-- size zeros before the name
pub lengthen : ℕ → Name → Name
lengthen size n = replicate size 0 ++ n

-- the name without them, where it begins with them
pub shorten : ℕ → Name → Option Name
shorten size n = if bytes_eq (lengthen size (drop size n)) n then Some (drop size n) else None

pub lengthen_length : (size : ℕ) (n : Name) → length (lengthen size n) ≡ size + length n
unfolding lengthen
lengthen_length size n = length-append (replicate size 0) n ∙ ap (λ z. z + length n) (length-replicate size 0)

drop_lengthen : (size : ℕ) (n : Name) → drop size (lengthen size n) ≡ n
unfolding lengthen
drop_lengthen size n = ap (λ z. drop z (replicate size 0 ++ n)) (sym (length-replicate size 0)) ∙ drop-append_seam (replicate size 0) n

pub shorten_lengthen : (size : ℕ) (n : Name) → shorten size (lengthen size n) ≡ Some n
unfolding shorten
shorten_lengthen size n =
    ap (λ b. if b then Some (drop size (lengthen size n)) else None) (same_bytes _ _ (ap (lengthen size) (drop_lengthen size n))) ∙ ap Some (drop_lengthen size n)

pub lengthen_inj : (size : ℕ) (n m : Name) → lengthen size n ≡ lengthen size m → n ≡ m
lengthen_inj size n m e = sym (drop_lengthen size n) ∙ ap (drop size) e ∙ drop_lengthen size m

pub shorten_some : (size : ℕ) (n m : Name) → shorten size n ≡ Some m → n ≡ lengthen size m
unfolding shorten
shorten_some size n m e =
    elim (name_cases (lengthen size (drop size n)) n) [
      | inl is ↦ sym is.is ∙ ap (lengthen size) (same_Some (drop size n) m (sym (ap (λ b. if b then Some (drop size n) else None) is.test) ∙ e))
      | inr ne ↦ absurd (none_some (shorten size n) m (ap (λ b. if b then Some (drop size n) else None) ne.test) e)
    ]

pub shorten_none : (size : ℕ) (n : Name) → length n < size → shorten size n ≡ None
unfolding shorten
shorten_none size n h =
    ap (λ b. if b then Some (drop size n) else None)
    (other_bytes (lengthen size (drop size n)) n (λ e. let same : length (lengthen size (drop size n)) ≡ length n = ap length e in absurd (omega (arith, same, lengthen_length size (drop size n), h))))
