-- A circuit with a part replaced has the ends that it had.
use Rattle.std.proofs.Common.{◌≡◌, inl, inr, refl, sym, ap, ◌∙◌, true, false, Bool, if◌then◌else◌, Option, Some, None}
use Rattle.components.specs.Name.{Name, Port}
use Rattle.components.specs.declared.kind.Kind.{Kind}
use Rattle.components.specs.declared.kind.Kind.TheVariants.{Entry, Exit}
use Rattle.circuits.specs.Circuit.{Circuit}
use Rattle.circuits.specs.Refines.{SamePorts}
use Rattle.circuits.specs.Replacing.{is_inner, IsPart, IsNew, replaced}
use Rattle.circuits.proofs.Beside.{none_some}
use Rattle.part_drains.specs.Part.{inside}
use Rattle.part_drains.proofs.Sorts.{inner_some_at}
use Rattle.part_drains.proofs.PartPlace.{clash}

module _ (g left right : Circuit) (target : Port → Option Port) (pt : IsPart g left target) (new : IsNew g left right) where
  -- a node that is an end in one of the two is it in the other
  end_kept : (n : Name) (k : Kind) → is_inner (Some k) ≡ false → (a b : Bool) → inside right n ≡ a → inside left n ≡ b → (if a then right.kind_at n else (if b then None else g.kind_at n)) ≡ Some k → g.kind_at n ≡ Some k
  end_kept n k o true b ea eb e = clash (inside right n) ea (ap is_inner e ∙ o)
  end_kept n k o false true ea eb e = absurd (none_some None k refl e)
  end_kept n k o false false ea eb e = e

  end_stays : (n : Name) (k : Kind) → is_inner (Some k) ≡ false → g.kind_at n ≡ Some k → (a b : Bool) → inside right n ≡ a → inside left n ≡ b → (if a then right.kind_at n else (if b then None else g.kind_at n)) ≡ Some k
  end_stays n k o e a true ea eb =
      let (j, f, ij) = inner_some_at (left.kind_at n) eb in clash (is_inner (Some j)) ij (ap is_inner (sym (pt.nodes n j f ij) ∙ e) ∙ o)
  end_stays n k o e true false ea eb =
      let (j, f, ij) = inner_some_at (right.kind_at n) ea in
      elim (new n j f ij) [
        | inl none ↦ absurd (none_some (g.kind_at n) k none e)
        | inr i ↦ clash (inside left n) i eb
      ]
  end_stays n k o e false false ea eb = e

  -- a circuit with a part replaced has the ends that it had
  pub replaced_ports : SamePorts (replaced g left right target) g
  replaced_ports =
      record {
        entries = λ n a.
            ((λ e. end_kept n (Entry a) refl (inside right n) (inside left n) refl refl e), λ e. end_stays n (Entry a) refl e (inside right n) (inside left n) refl refl);
        exits = λ n a.
            ((λ e. end_kept n (Exit a) refl (inside right n) (inside left n) refl refl e), λ e. end_stays n (Exit a) refl e (inside right n) (inside left n) refl refl);
      }
