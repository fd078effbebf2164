-- What stands in a rebuilt graph: a new node, or an old one that does not go.
use Rattle.std.proofs.Common.{◌≡◌, ◌≢◌, inl, inr, ℕ, suc, ◌+◌, ◌<◌, refl, sym, ap, subst, ◌∙◌, Bool, true, false, List, [], ◌∷◌, length, Option, Some, None, if◌then◌else◌, arith}
use Rattle.components.specs.Name.{Name, Port}
use Rattle.components.specs.declared.kind.Kind.{Kind}
use Rattle.circuits.specs.Circuit.{Circuit, Typed}
use Rattle.circuits.specs.Replacing.{In, In.head, In.tail}
use Rattle.circuits.proofs.Beside.{none_some}
use Rattle.std.proofs.lemmas.Option.{same_Some}
use Rattle.loop_laws.specs.Reached.{port_at}
use Rattle.loop_turns.proofs.Lists.{in_or_out}
use Rattle.loop_turns.specs.Rebuilt.{new_at, has_name, kind_or, source_or, moved, rebuilt, NewNames}
use Rattle.loop_turns.proofs.LoopLookups.{has_true, has_false, new_is, new_none, new_found}

abbrev pub Stays : Circuit → List Name → Name → Type 0
Stays g gone n = (k : Kind) × (g.kind_at n ≡ Some k) × (In n gone → ⊥)

module _ {X : Type 0} (g : Circuit) (gone : List Name) (name : X → Name) (new : List X) (kind : X → Kind) (source : X → ℕ → Option Port) (out : Port → Port) (names : NewNames g new name) where
  abbrev H : Circuit
  H = rebuilt g gone name new kind source out

  old_not_new : (n : Name) (k : Kind) → g.kind_at n ≡ Some k → (x : X) → In x new → name x ≢ n
  old_not_new n k e x i is = none_some (g.kind_at n) k (ap g.kind_at (sym is) ∙ names.fresh x i) e

  pub kind_new : (x : X) → In x new → H.kind_at (name x) ≡ Some (kind x)
  kind_new x i = ap (λ o. kind_or kind o (if has_name gone (name x) then None else g.kind_at (name x))) (new_found name new names.apart x i)

  pub kind_stays : (n : Name) → Stays g gone n → H.kind_at n ≡ g.kind_at n
  kind_stays n s =
      ap (λ o. kind_or kind o (if has_name gone n then None else g.kind_at n)) (new_none name new n (old_not_new n s.0 s.1))
      ∙ ap (λ b. if b then None else g.kind_at n) (has_false gone n s.2)

  pub source_new : (x : X) (i : ℕ) → In x new → H.feeder (port_at (name x) i) ≡ source x i
  source_new x i m = ap (λ o. source_or source o i (if has_name gone (name x) then None else moved out (g.feeder (port_at (name x) i)))) (new_found name new names.apart x m)

  pub source_stays : (p : Port) → Stays g gone p.node → H.feeder p ≡ moved out (g.feeder p)
  source_stays p s =
      ap (λ o. source_or source o p.port (if has_name gone p.node then None else moved out (g.feeder p))) (new_none name new p.node (old_not_new p.node s.0 s.1))
      ∙ ap (λ b. if b then None else moved out (g.feeder p)) (has_false gone p.node s.2)

  -- a node is a new one or stays
  pub data Sort (n : Name) (k : Kind) : Type 0 where
    is_new : (x : X) → In x new → n ≡ name x → k ≡ kind x → Sort n k
    is_old : Stays g gone n → g.kind_at n ≡ Some k → Sort n k

  old_sort : (n : Name) (k : Kind) → (b : Bool) → has_name gone n ≡ b → (if b then None else g.kind_at n) ≡ Some k → Sort n k
  old_sort n k true h e = absurd (none_some None k refl e)
  old_sort n k false h e =
      elim (in_or_out n gone) [
        | inl i ↦ let z : true ≡ false = sym (has_true gone n i) ∙ h in cc
        | inr o ↦ is_old (k, e, o) e
      ]

  sort_at : (n : Name) (k : Kind) (o : Option X) → new_at name new n ≡ o → kind_or kind o (if has_name gone n then None else g.kind_at n) ≡ Some k → Sort n k
  sort_at n k None h e = old_sort n k (has_name gone n) refl e
  sort_at n k (Some x) h e = let (i, is) = new_is name new n x h in is_new x i (sym is) (sym (same_Some (kind x) k e))

  pub sort : (n : Name) (k : Kind) → H.kind_at n ≡ Some k → Sort n k
  sort n k e = sort_at n k (new_at name new n) refl e

  -- a wire enters a new node or one that stays
  pub data Enters (p q : Port) : Type 0 where
    to_new : (x : X) → In x new → p ≡ port_at (name x) p.port → source x p.port ≡ Some q → Enters p q
    to_old : (q0 : Port) → Stays g gone p.node → g.feeder p ≡ Some q0 → q ≡ out q0 → Enters p q

  module _ (ty : Typed g) where
    moved_at : (p q : Port) (o : Option Port) → (In p.node gone → ⊥) → g.feeder p ≡ o → moved out o ≡ Some q → Enters p q
    moved_at p q None away h e = absurd (none_some None q refl e)
    moved_at p q (Some q0) away h e = let w = ty.wires p q0 h in to_old q0 (w.to, w.is_to, away) h (sym (same_Some (out q0) q e))

    old_wire_at : (p q : Port) (b : Bool) → has_name gone p.node ≡ b → (if b then None else moved out (g.feeder p)) ≡ Some q → Enters p q
    old_wire_at p q true h e = absurd (none_some None q refl e)
    old_wire_at p q false h e =
        elim (in_or_out p.node gone) [
          | inl i ↦ let z : true ≡ false = sym (has_true gone p.node i) ∙ h in cc
          | inr o ↦ moved_at p q (g.feeder p) o refl e
        ]

    wire_at : (p q : Port) (o : Option X) → new_at name new p.node ≡ o → source_or source o p.port (if has_name gone p.node then None else moved out (g.feeder p)) ≡ Some q → Enters p q
    wire_at p q None h e = old_wire_at p q (has_name gone p.node) refl e
    wire_at p q (Some x) h e = let (i, is) = new_is name new p.node x h in to_new x i (ap (λ n. port_at n p.port) (sym is)) e

    pub enters : (p q : Port) → H.feeder p ≡ Some q → Enters p q
    enters p q e = wire_at p q (new_at name new p.node) refl e

  -- a bound on the lengths of names
  abbrev names_size : List X → ℕ
  names_size [] = 0
  names_size (x ∷ xs) = suc (length (name x)) + names_size xs

  name_short : (xs : List X) (x : X) → In x xs → length (name x) < names_size xs
  name_short [] x i = elim i [ ]
  name_short (y ∷ ys) x (head e) = subst (λ z. length (name z) < names_size (y ∷ ys)) (sym e) (omega arith)
  name_short (y ∷ ys) x (tail i) = omega (arith, name_short ys x i)

  short_at : (ty : Typed g) (n : Name) (k : Kind) → Sort n k → length n < ty.names.0 + names_size new
  short_at ty n k (is_new x i e s) = subst (λ z. length z < ty.names.0 + names_size new) (sym e) (omega (arith, name_short new x i))
  short_at ty n k (is_old s e) = omega (arith, ty.names.1 n k e)

  pub names_short : Typed g → (size : ℕ) × ((n : Name) (k : Kind) → H.kind_at n ≡ Some k → length n < size)
  names_short ty = (ty.names.0 + names_size new, λ n k e. short_at ty n k (sort n k e))
