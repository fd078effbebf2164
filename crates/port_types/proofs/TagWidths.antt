-- The first width in which tags are told apart is the least.
use Rattle.std.proofs.Common.{◌≡◌, ℕ, zero, suc, ◌+◌, ◌^◌, ◌≤◌, ◌<◌, ◌⊎◌, inl, inr, Bool, true, false, refl, subst, arith}
use Rattle.std.specs.Prelude.{nat_le, if◌then◌else◌}
use Rattle.std.proofs.lemmas.Bool.{leb-true, leb-false}
use Rattle.port_types.specs.Tag.{tag_width, tag_width_from, IsTagWidth}

-- in no lesser width the tags have different numbers
TooFew : ℕ → ℕ → Type 0
TooFew width tags = (other : ℕ) → 1 ≤ other → other < width → 2 ^ other < tags

least : (width tags other : ℕ) → TooFew width tags → 1 ≤ other → tags ≤ 2 ^ other → (b : Bool) → nat_le width other ≡ b → width ≤ other
unfolding TooFew
least width tags other few one fits true e = leb-true width other e
least width tags other few one fits false e =
    let short : 2 ^ other < tags = few other one (leb-false width other e) in
    absurd (omega (arith, short, fits))

next : (width tags : ℕ) → TooFew width tags → 2 ^ width < tags → TooFew (width + 1) tags
unfolding TooFew
next width tags few short other one below = last (nat_le width other) refl
  where
    last : (b : Bool) → nat_le width other ≡ b → 2 ^ other < tags
    last true e =
        let same : width ≡ other = omega (arith, leb-true width other e, below) in
        subst (λ n. 2 ^ n < tags) same short
    last false e = few other one (leb-false width other e)

step : (more width tags : ℕ) → 1 ≤ width → TooFew width tags → (b : Bool) → nat_le tags (2 ^ width) ≡ b →
    (TooFew (width + 1) tags → IsTagWidth tags (tag_width_from more (width + 1) tags)) →
    IsTagWidth tags (if b then width else tag_width_from more (width + 1) tags)
step more width tags one few true e later =
    record { some = one; enough = leb-true tags (2 ^ width) e; least = λ other some fits. least width tags other few some fits (nat_le width other) refl }
step more width tags one few false e later = later (next width tags few (leb-false tags (2 ^ width) e))

from_width : (more width tags : ℕ) → 1 ≤ width → TooFew width tags → tags ≤ 2 ^ (width + more) → IsTagWidth tags (tag_width_from more width tags)
from_width zero width tags one few fits =
    let same : width + 0 ≡ width = omega arith in
    record { some = one; enough = subst (λ n. tags ≤ 2 ^ n) same fits; least = λ other some enough. least width tags other few some enough (nat_le width other) refl }
from_width (suc more) width tags one few fits =
    let same : width + suc more ≡ (width + 1) + more = omega arith in
    step more width tags one few (nat_le tags (2 ^ width)) refl
    (λ later. from_width more (width + 1) tags (omega (arith, one)) later (subst (λ n. tags ≤ 2 ^ n) same fits))

pub tag_width_is : (tags : ℕ) → tags ≤ 256 → IsTagWidth tags (tag_width tags)
unfolding TooFew
tag_width_is tags few = from_width 7 1 tags (omega arith) (λ other one below. absurd (omega (arith, one, below))) few
