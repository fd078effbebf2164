-- Two names are one, or they are not, with what the test of them says.
use Rattle.std.proofs.Common.{◌≡◌, ◌≢◌, ◌⊎◌, inl, inr, true, false, bytes_eq}
use Rattle.components.specs.Name.{Name}
use Rattle.components.specs.Orders as orders

pub record Same (a b : Name) : Type 0 where
  pub test : bytes_eq a b ≡ true
  pub is : a ≡ b

pub record Other (a b : Name) : Type 0 where
  pub test : bytes_eq a b ≡ false
  pub is_not : a ≢ b

pub name_cases : (a b : Name) → Same a b ⊎ Other a b
name_cases a b =
    elim (orders.name_cases a b) [
      | inl one ↦ inl (record { test = orders.same_bytes a b one; is = one })
      | inr two ↦ inr (record { test = orders.other_bytes a b two; is_not = two })
    ]
