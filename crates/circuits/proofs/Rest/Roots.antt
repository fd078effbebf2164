-- An input has at most one root, and a ring has none.
use Rattle.std.proofs.Common.{◌≡◌, refl, sym, ap, subst, ◌∙◌, Some}
use Rattle.std.proofs.lemmas.Option.{same_Some}
use Rattle.components.specs.declared.kind.Kind.{Kind}
use Rattle.components.specs.declared.kind.Kind.TheVariants.{Buffer}
use Rattle.components.specs.Name.{Name, Port}
use Rattle.components.specs.Kind.{Shape}
use Rattle.circuits.specs.Circuit.{Circuit}
use Rattle.circuits.specs.Buffers.{first_port}
use Rattle.circuits.specs.Root.{PassesThrough, Root, Root.here, Root.past}

-- what feeds an input, and its kind, are determined
same_kind : (c : Circuit) (p q r : Port) (k m : Kind) → c.feeder p ≡ Some q → c.feeder p ≡ Some r → c.kind_at q.node ≡ Some k → c.kind_at r.node ≡ Some m → k ≡ m
same_kind c p q r k m f g e h =
    same_Some k m (sym e ∙ ap (λ (x : Port). c.kind_at x.node) (same_Some q r (sym f ∙ g)) ∙ h)

pub root_is_one : (c : Circuit) (p q r : Port) → Root c p q → Root c p r → q ≡ r
root_is_one c p q r (here k f e stays) (here m g h no_more) = same_Some q r (sym f ∙ g)
root_is_one c p q r (here k f e stays) (past s m g h passes rest) = absurd (stays (subst PassesThrough (sym (same_kind c p q s k m f g e h)) passes))
root_is_one c p q r (past s m g h passes rest) (here k f e stays) = absurd (stays (subst PassesThrough (same_kind c p s r m k g f h e) passes))
root_is_one c p q r (past s k f e passes rest) (past t m g h passes_too rest_too) =
    let same : s ≡ t = same_Some s t (sym f ∙ g) in
    root_is_one c (first_port s.node) q r rest (subst (λ x. Root c x r) (λ i. first_port ((sym same i).node)) rest_too)

module _ (c : Circuit) (b : Name) (shape : Shape) (is_buffer : c.kind_at b ≡ Some (Buffer shape)) (ring : c.feeder (first_port b) ≡ Some (first_port b)) where
  no_root_at : (p q : Port) → p ≡ first_port b → Root c p q → ⊥
  no_root_at p q is (here k f e stays) =
      stays (subst PassesThrough (sym (same_kind c p q (first_port b) k (Buffer shape) f (ap c.feeder is ∙ ring) e is_buffer)) tt)
  no_root_at p q is (past r k f e passes rest) =
      let same : r ≡ first_port b = same_Some r (first_port b) (sym f ∙ ap c.feeder is ∙ ring) in
      no_root_at (first_port r.node) q (λ i. first_port ((same i).node)) rest

  pub ring_has_no_root : (q : Port) → Root c (first_port b) q → ⊥
  ring_has_no_root q h = no_root_at (first_port b) q refl h
