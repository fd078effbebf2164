-- The shapes of outputs, by the kinds of their nodes.
use Rattle.std.proofs.Common.{◌≡◌, ℕ, zero, suc, List, [], ◌∷◌, map, Option, Some, None, IsSome, refl, sym, ap, subst, ◌∙◌}
use Rattle.std.specs.Prelude.{slice_get}
use Rattle.std.proofs.lemmas.Option.{none-some, same_Some}
use Rattle.components.specs.declared.kind.Kind.{Kind}
use Rattle.components.specs.Kind.{Shape, outs, KindOk}
use Rattle.components.specs.Name.{port_get}
use Rattle.fun_expr.specs.Each.{Each}
use Rattle.loop_body.specs.declared.body_port.BodyPort.{BodyPort}
use Rattle.loop_body.specs.Body.{in_row, entry}

pub ok_at : (ks : List Kind) → Each KindOk ks → (i : ℕ) (k : Kind) → Some k ≡ slice_get ks i → KindOk k
ok_at [] h i k e = absurd (none-some k (sym e))
ok_at (l ∷ ks) h zero k e = subst KindOk (same_Some l k (sym e)) h.0
ok_at (l ∷ ks) h (suc i) k e = ok_at ks h.1 i k e

row_at : (ks : List Kind) (i : ℕ) (k : Kind) → Some k ≡ slice_get ks i → slice_get (map outs ks) i ≡ Some (outs k)
row_at [] i k e = absurd (none-some k (sym e))
row_at (l ∷ ks) zero k e = ap (λ z. Some (outs z)) (same_Some l k (sym e))
row_at (l ∷ ks) (suc i) k e = row_at ks i k e

none_of : (o : Option Shape) → (IsSome o → ⊥) → None ≡ o
none_of None none = refl
none_of (Some a) none = absurd (none refl)

pub no_port : (ks : List Kind) (p : BodyPort) (k : Kind) → Some k ≡ slice_get ks p.node → (IsSome (port_get (outs k) p.port) → ⊥) → None ≡ entry (map outs ks) p
no_port ks p k e none = none_of (port_get (outs k) p.port) none ∙ sym (ap (in_row p.port) (row_at ks p.node k e))

pub has_shape : (ks : List Kind) (p : BodyPort) (k : Kind) (a : Shape) → Some k ≡ slice_get ks p.node → port_get (outs k) p.port ≡ Some a → Some a ≡ entry (map outs ks) p
has_shape ks p k a e is = sym is ∙ sym (ap (in_row p.port) (row_at ks p.node k e))
