-- Nodes of some kinds, and tests of kinds.
use Rattle.std.proofs.Common.{◌≡◌, ◌⊎◌, inl, inr, true, false, refl, sym, ap, subst, Option, Some, None}
use Rattle.std.proofs.lemmas.Bool.{false≢true}
use Rattle.std.proofs.lemmas.Option.{none-some}
use Rattle.components.specs.declared.kind.Kind.{Kind}
use Rattle.components.specs.declared.kind.Kind.TheVariants.{Buffer, Fork, Mux, Branch}
use Rattle.components.specs.Kind.{Shape}
use Rattle.circuits.specs.Root.{PassesThrough}
use Rattle.loop_laws.specs.Faults.{IsMux, IsBranch}
use Rattle.loop_find.specs.Walks.{is_branch, is_mux, passes_through}

-- o is a kind of which this holds
abbrev pub Some_of : (Kind → Type 0) → Option Kind → Type 0
Some_of P o = (kind : Kind) × (o ≡ Some kind) × P kind

module _ (P : Kind → Type 0) where
  abbrev holds : Option Kind → Type 0
  holds None = ⊥
  holds (Some kind) = P kind

  pub of_some : (kind : Kind) → Some_of P (Some kind) → P kind
  of_some kind h = subst holds (sym h.1) h.2

  -- where P can be told of each kind it can be told of what may be a kind
  pub of_kind : ((kind : Kind) → P kind ⊎ ¬ (P kind)) → (o : Option Kind) → Some_of P o ⊎ ¬ (Some_of P o)
  of_kind tell None = inr (λ h. none-some h.0 h.1)
  of_kind tell (Some kind) = elim (tell kind) [ inl p ↦ inl (kind, refl, p) | inr never ↦ inr (λ h. never (of_some kind h)) ]

pub tell_through : (kind : Kind) → PassesThrough kind ⊎ ¬ (PassesThrough kind)
tell_through (Buffer shape) = inl tt
tell_through (Fork shape count) = inl tt
tell_through _ = inr (λ h. h)

pub no_branch : (o : Option Kind) → ((shape : Shape) → ¬ (o ≡ Some (Branch shape))) → is_branch o ≡ false
no_branch (Some (Branch shape)) h = absurd (h shape refl)
no_branch _ h = refl

pub tell_branch : (o : Option Kind) → ((shape : Shape) × (o ≡ Some (Branch shape))) ⊎ ¬ ((shape : Shape) × (o ≡ Some (Branch shape)))
tell_branch (Some (Branch shape)) = inl (shape, refl)
tell_branch _ = inr (λ h. false≢true (ap is_branch h.1))

pub tell_mux : (kind : Kind) → IsMux kind ⊎ ¬ (IsMux kind)
tell_mux (Mux shape) = inl tt
tell_mux _ = inr (λ h. h)

pub tell_is_branch : (kind : Kind) → IsBranch kind ⊎ ¬ (IsBranch kind)
tell_is_branch (Branch shape) = inl tt
tell_is_branch _ = inr (λ h. h)

-- what the tests say

pub mux_says : (o : Option Kind) → (is_mux o ≡ true → Some_of IsMux o) × (Some_of IsMux o → is_mux o ≡ true)
mux_says (Some (Mux shape)) = (λ e. (Mux shape, refl, tt), λ h. refl)
mux_says (Some kind) = (λ e. absurd (false≢true e), λ h. absurd (of_some IsMux kind h))
mux_says None = (λ e. absurd (false≢true e), λ h. absurd (none-some h.0 h.1))

pub branch_says : (o : Option Kind) → (is_branch o ≡ true → Some_of IsBranch o) × (Some_of IsBranch o → is_branch o ≡ true)
branch_says (Some (Branch shape)) = (λ e. (Branch shape, refl, tt), λ h. refl)
branch_says (Some kind) = (λ e. absurd (false≢true e), λ h. absurd (of_some IsBranch kind h))
branch_says None = (λ e. absurd (false≢true e), λ h. absurd (none-some h.0 h.1))

pub through_says : (o : Option Kind) → (passes_through o ≡ true → Some_of PassesThrough o) × (Some_of PassesThrough o → passes_through o ≡ true)
through_says (Some (Buffer shape)) = (λ e. (Buffer shape, refl, tt), λ h. refl)
through_says (Some (Fork shape count)) = (λ e. (Fork shape count, refl, tt), λ h. refl)
through_says (Some kind) = (λ e. absurd (false≢true e), λ h. absurd (of_some PassesThrough kind h))
through_says None = (λ e. absurd (false≢true e), λ h. absurd (none-some h.0 h.1))
