-- The names of the rule's left graph differ.
use Rattle.std.proofs.Common.{◌≡◌, ◌≢◌, inl, inr, Bool, true, false, ◌||◌, bytes_eq, codes, if◌then◌else◌, map, refl, sym, subst, ◌∙◌, true≢false}
use Rattle.components.specs.Name.{Name}
use Rattle.components.specs.Orders.{name_cases, same_bytes, other_bytes}
use Rattle.circuits.specs.Replacing.{NoneTwice}
use Rattle.lane_laws.specs.SplitJoin.{entry, exit, split_joined_nodes}
use Rattle.pure_extract.specs.SplitJoin.{other_text, side_name}

differ : (n m : Name) → bytes_eq n m ≡ false → n ≢ m
differ n m test is = true≢false (sym (same_bytes n m is) ∙ test)

-- what a test of two names tells
abbrev Told : Bool → Name → Name → Type 0
Told true n m = n ≡ m
Told false n m = n ≢ m

told : (n m : Name) → Told (bytes_eq n m) n m
told n m =
    elim (name_cases n m) [
      | inl is ↦ subst (λ t. Told t n m) (sym (same_bytes n m is)) is
      | inr other ↦ subst (λ t. Told t n m) (sym (other_bytes n m other)) other
    ]

module _ (s j first second third : Name) (one : first ≢ second) (two : third ≢ first) (three : third ≢ second) where
  abbrev chosen : Bool → Bool → Bool → Bool → Name
  chosen p q r t = if p || q then (if r || t then third else second) else first

  chosen_other : (p q r t : Bool) → Told p s first → Told q j first → Told r s second → Told t j second → (chosen p q r t ≢ s) × (chosen p q r t ≢ j)
  chosen_other false false r t f g h k = ((λ e. f (sym e)), (λ e. g (sym e)))
  chosen_other true q false false f g h k = ((λ e. h (sym e)), (λ e. k (sym e)))
  chosen_other false true false false f g h k = ((λ e. h (sym e)), (λ e. k (sym e)))
  chosen_other true q true t f g h k = absurd (one (sym f ∙ h))
  chosen_other true q false true f g h k = ((λ e. two (e ∙ f)), (λ e. three (e ∙ k)))
  chosen_other false true true t f g h k = ((λ e. three (e ∙ h)), (λ e. two (e ∙ g)))
  chosen_other false true false true f g h k = absurd (one (sym g ∙ k))

  pub text_other : (other_text s j first second third ≢ s) × (other_text s j first second third ≢ j)
  text_other =
      chosen_other (bytes_eq s first) (bytes_eq j first) (bytes_eq s second) (bytes_eq j second) (told s first) (told j first) (told s second) (told j second)

ends_differ : (p q r t : Bool) → (if p then (if q then codes "a" else codes "from") else codes "in") ≢ (if r then (if t then codes "z" else codes "to") else codes "out")
ends_differ false q false t = differ (codes "in") (codes "out") refl
ends_differ false q true false = differ (codes "in") (codes "to") refl
ends_differ false q true true = differ (codes "in") (codes "z") refl
ends_differ true false false t = differ (codes "from") (codes "out") refl
ends_differ true false true false = differ (codes "from") (codes "to") refl
ends_differ true false true true = differ (codes "from") (codes "z") refl
ends_differ true true false t = differ (codes "a") (codes "out") refl
ends_differ true true true false = differ (codes "a") (codes "to") refl
ends_differ true true true true = differ (codes "a") (codes "z") refl

module _ (s j : Name) where
  pub entry_other : (side_name s j entry ≢ s) × (side_name s j entry ≢ j)
  entry_other =
      text_other s j (codes "in") (codes "from") (codes "a") (differ (codes "in") (codes "from") refl) (differ (codes "a") (codes "in") refl) (differ (codes "a") (codes "from") refl)

  pub exit_other : (side_name s j exit ≢ s) × (side_name s j exit ≢ j)
  exit_other =
      text_other s j (codes "out") (codes "to") (codes "z") (differ (codes "out") (codes "to") refl) (differ (codes "z") (codes "out") refl) (differ (codes "z") (codes "to") refl)

  pub ends_apart : side_name s j entry ≢ side_name s j exit
  ends_apart =
      ends_differ (bytes_eq s (codes "in") || bytes_eq j (codes "in")) (bytes_eq s (codes "from") || bytes_eq j (codes "from"))
      (bytes_eq s (codes "out") || bytes_eq j (codes "out")) (bytes_eq s (codes "to") || bytes_eq j (codes "to"))

  pub names_once : s ≢ j → NoneTwice (map (side_name s j) split_joined_nodes)
  names_once apart = (
    (entry_other.0, (entry_other.1, (ends_apart, tt))),
    ((apart, ((λ e. exit_other.0 (sym e)), tt)), (((λ e. exit_other.1 (sym e)), tt), (tt, tt))),
  )
