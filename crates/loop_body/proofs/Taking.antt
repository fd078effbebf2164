-- An entry that is taken out of a table.
use Rattle.std.proofs.Common.{◌≡◌, ◌≢◌, ℕ, zero, suc, ◌+◌, ◌-◌, List, [], ◌∷◌, ◌++◌, length, None, refl, ap, sym, ◌∙◌, subst, ◌<◌, map, drop, get_or, append_assoc, arith}
use Rattle.std.specs.Prelude.{slice_get, slice_set, unwrap_or}
use Rattle.std.proofs.lemmas.List.{drop_more}
use Rattle.fun_expr.specs.declared.expr.Expr.{Expr}
use Rattle.fun_expr.specs.Each.{Each}
use Rattle.components.specs.Name.{port_get}
use Rattle.loop_body.specs.declared.body_port.BodyPort.{BodyPort}
use Rattle.loop_body.specs.Body.{entry, flat}
use Rattle.loop_body.specs.BodyFunction.{wire_at}
use Rattle.loop_body.specs.Tables.{Differ, OthersStay}

pub port_get-zero : {A : Type 0} (xs : List A) → port_get xs 0 ≡ None
port_get-zero [] = refl
port_get-zero (x ∷ xs) = refl

pub port_get-index : {A : Type 0} (xs : List A) (i : ℕ) → port_get xs (suc i) ≡ slice_get xs i
port_get-index [] i = refl
port_get-index (x ∷ xs) zero = refl
port_get-index (x ∷ xs) (suc i) = port_get-index xs i

pub set_other : {A : Type 0} (xs : List A) (y : A) (i j : ℕ) → j ≢ i → slice_get (slice_set xs i y) j ≡ slice_get xs j
set_other [] y i j n = refl
set_other (x ∷ xs) y zero zero n = absurd (n refl)
set_other (x ∷ xs) y zero (suc j) n = refl
set_other (x ∷ xs) y (suc i) zero n = refl
set_other (x ∷ xs) y (suc i) (suc j) n = set_other xs y i j (λ e. n (ap suc e))

less : (i : ℕ) → suc i - 1 ≡ i
less i = omega arith

-- the ports of a row but the one whose wire was taken
pub port_others : {A : Type 0} (xs : List A) (y : A) (port other : ℕ) → port ≢ 0 → other ≢ port → port_get (slice_set xs (port - 1) y) other ≡ port_get xs other
port_others xs y zero other some n = absurd (some refl)
port_others xs y (suc i) zero some n = port_get-zero (slice_set xs (suc i - 1) y) ∙ sym (port_get-zero xs)
port_others xs y (suc i) (suc j) some n =
    port_get-index (slice_set xs (suc i - 1) y) j ∙ ap (λ k. slice_get (slice_set xs k y) j) (less i) ∙ set_other xs y i j (λ e. n (ap suc e)) ∙ sym (port_get-index xs j)

pub port_taken : {A : Type 0} (xs : List A) (port : ℕ) → port ≢ 0 → slice_get xs (port - 1) ≡ port_get xs port
port_taken xs zero some = absurd (some refl)
port_taken xs (suc i) some = ap (slice_get xs) (less i) ∙ sym (port_get-index xs i)

-- the ports that are left stand for what they stood for
wires_stay : (old new : List (List (List Expr))) (port : BodyPort) (ports : List BodyPort) → OthersStay old new port → Each (λ other. other ≢ port) ports → map (wire_at new) ports ≡ map (wire_at old) ports
wires_stay old new port [] stay n = refl
wires_stay old new port (q ∷ ports) stay n = ap (λ o. unwrap_or o [] ∷ map (wire_at new) ports) (stay q n.0) ∙ ap (λ ws. wire_at old q ∷ ws) (wires_stay old new port ports stay n.1)

-- an item does not depend on what stands for none
pub item_is : (ports : List BodyPort) (i : ℕ) (d e : BodyPort) → i < length ports → get_or ports i d ≡ get_or ports i e
item_is [] i d e within = absurd (omega (arith, within))
item_is (p ∷ ports) zero d e within = refl
item_is (p ∷ ports) (suc i) d e within = item_is ports i d e (omega (arith, within))

-- one port after the other is taken
pub taken_next : (old new : List (List (List Expr))) (ports : List BodyPort) (i : ℕ) (port : BodyPort) (wires more whole : List Expr) → i < length ports → port ≡ get_or ports i port → OthersStay old new port →
    more ≡ wires ++ wire_at old port → wires ++ flat (map (wire_at old) (drop i ports)) ≡ whole → Differ (drop i ports) →
    (more ++ flat (map (wire_at new) (drop (i + 1) ports)) ≡ whole) × Differ (drop (i + 1) ports)
taken_next old new ports i port wires more whole within is stay is_more so_far differ =
    let first : drop i ports ≡ port ∷ drop (i + 1) ports = drop_more ports i port within ∙ ap (λ x. x ∷ drop (i + 1) ports) (sym is) in
    let so_far_at : wires ++ (wire_at old port ++ flat (map (wire_at old) (drop (i + 1) ports))) ≡ whole = subst (λ ps. wires ++ flat (map (wire_at old) ps) ≡ whole) first so_far in
    let apart : Differ (port ∷ drop (i + 1) ports) = subst Differ first differ in (
      ap (λ xs. xs ++ flat (map (wire_at new) (drop (i + 1) ports))) is_more ∙ append_assoc wires (wire_at old port) (flat (map (wire_at new) (drop (i + 1) ports))) ∙
          ap (λ ws. wires ++ (wire_at old port ++ flat ws)) (wires_stay old new port (drop (i + 1) ports) stay apart.0) ∙
          so_far_at,
      apart.1,
    )

each_item : (P : BodyPort → Type 0) (ports : List BodyPort) (i : ℕ) (port : BodyPort) → i < length ports → port ≡ get_or ports i port → Each P ports → P port
each_item P [] i port within is h = absurd (omega (arith, within))
each_item P (q ∷ ports) zero port within is h = subst P (sym is) h.0
each_item P (q ∷ ports) (suc i) port within is h = each_item P ports i port (omega (arith, within)) is h.1

-- a port that is none of them stays
pub others_still : (first old new : List (List (List Expr))) (ports : List BodyPort) (i : ℕ) (port : BodyPort) → i < length ports → port ≡ get_or ports i port → OthersStay old new port →
    ((other : BodyPort) → Each (λ p. other ≢ p) ports → entry old other ≡ entry first other) → (other : BodyPort) → Each (λ p. other ≢ p) ports → entry new other ≡ entry first other
others_still first old new ports i port within is stay before other n = stay other (each_item (λ p. other ≢ p) ports i port within is n) ∙ before other n
