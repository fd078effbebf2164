-- Sorts of nodes: Entries, Exits and inner nodes.
use Rattle.std.proofs.Common.{◌≡◌, ◌⊎◌, inl, inr, refl, sym, true, false, Bool, Option, Some, None, true≢false}
use Rattle.components.specs.declared.kind.Kind.{Kind}
use Rattle.components.specs.declared.kind.Kind.TheVariants.{Entry, Exit}
use Rattle.components.specs.Kind.{Shape}
use Rattle.circuits.specs.Replacing.{is_inner, is_entry, IsEnd}

-- each kind is of one of three sorts
pub data View : Kind → Type 0 where
  entry : (a : Shape) → View (Entry a)
  exit : (a : Shape) → View (Exit a)
  inner : {k : Kind} → is_inner (Some k) ≡ true → View k

pub view : (k : Kind) → View k
view (Entry a) = entry a
view (Exit a) = exit a
view _ = inner refl

pub inner_some_at : (o : Option Kind) → is_inner o ≡ true → (k : Kind) × (o ≡ Some k) × (is_inner (Some k) ≡ true)
inner_some_at None e = absurd (true≢false (sym e))
inner_some_at (Some k) e = (k, refl, e)

pub bool_cases : (b : Bool) → (b ≡ true) ⊎ (b ≡ false)
bool_cases true = inl refl
bool_cases false = inr refl

pub inner_no_entry : (k : Kind) → is_inner (Some k) ≡ true → is_entry (Some k) ≡ false
inner_no_entry (Entry a) i = absurd (true≢false (sym i))
inner_no_entry _ i = refl

pub end_not_inner : (k : Kind) → IsEnd k → is_inner (Some k) ≡ false
end_not_inner (Entry a) e = refl
end_not_inner (Exit a) e = refl
end_not_inner _ e = absurd e
