-- Lists as loops go over them.
use Rattle.std.proofs.Common.{◌≡◌, ℕ, zero, suc, ◌+◌, ◌-◌, ◌<◌, List, [], ◌∷◌, map, length, take, drop, get_or, Some, None, refl, ap, sym, ◌∙◌, subst, arith}
use Rattle.std.specs.Prelude.{slice_get}
use Rattle.std.specs.Option.{option_map}
use Rattle.std.proofs.lemmas.List.{drop_more}
use Rattle.fun_expr.specs.Each.{Each, total}
use Rattle.components.specs.declared.kind.Kind.{Kind}
use Rattle.components.specs.declared.node.Node.{Node}
use Rattle.components.specs.Name.{port_get}
use Rattle.loop_body.specs.Judging.{kinds_of}

-- an item and the rest behind it
pub item_first : {A : Type 0} (items : List A) (i : ℕ) (item : A) → i < length items → item ≡ get_or items i item → drop i items ≡ item ∷ drop (i + 1) items
item_first items i item lt is = drop_more items i item lt ∙ ap (λ x. x ∷ drop (i + 1) items) (sym is)

drop-map : {A B : Type 0} (f : A → B) (i : ℕ) (xs : List A) → drop i (map f xs) ≡ map f (drop i xs)
drop-map f zero xs = refl
drop-map f (suc i) [] = refl
drop-map f (suc i) (x ∷ xs) = drop-map f i xs

pub item_mapped : {A B : Type 0} (f : A → B) (items : List A) (i : ℕ) (item : A) → i < length items → item ≡ get_or items i item → drop i (map f items) ≡ f item ∷ drop (i + 1) (map f items)
item_mapped f items i item lt is = drop-map f i items ∙ ap (map f) (item_first items i item lt is) ∙ ap (λ ys. f item ∷ ys) (sym (drop-map f (i + 1) items))

pub total_step : {A : Type 0} (f : A → ℕ) (items : List A) (i : ℕ) (item : A) → i < length items → item ≡ get_or items i item → total f (drop i items) ≡ f item + total f (drop (i + 1) items)
total_step f items i item lt is = ap (total f) (item_first items i item lt is)

pub slice_get-map : {A B : Type 0} (f : A → B) (xs : List A) (i : ℕ) → slice_get (map f xs) i ≡ option_map f (slice_get xs i)
slice_get-map f [] i = refl
slice_get-map f (x ∷ xs) zero = refl
slice_get-map f (x ∷ xs) (suc i) = slice_get-map f xs i

pub slice_get-at : {A : Type 0} (xs : List A) (i : ℕ) (x : A) → i < length xs → x ≡ get_or xs i x → slice_get xs i ≡ Some x
slice_get-at [] i x lt is = absurd (omega arith)
slice_get-at (y ∷ xs) zero x lt is = ap Some (sym is)
slice_get-at (y ∷ xs) (suc i) x lt is = slice_get-at xs i x (omega arith) is

pub map-take : {A B : Type 0} (f : A → B) (n : ℕ) (xs : List A) → map f (take n xs) ≡ take n (map f xs)
map-take f zero xs = refl
map-take f (suc n) [] = refl
map-take f (suc n) (x ∷ xs) = ap (λ ys. f x ∷ ys) (map-take f n xs)

-- the Split, and behind it the nodes
pub kind_behind : (split : Kind) (nodes : List Node) (node : ℕ) (n : Node) → (node ≡ 0 → ⊥) → slice_get nodes (node - 1) ≡ Some n → slice_get (split ∷ kinds_of nodes) node ≡ Some n.kind
kind_behind split nodes zero n some e = absurd (some refl)
kind_behind split nodes (suc k) n some e =
    let before : suc k - 1 ≡ k = omega arith in
    slice_get-map (λ (node : Node). node.kind) nodes k ∙ ap (option_map (λ (node : Node). node.kind)) (ap (slice_get nodes) (sym before) ∙ e)

pub none_behind : (split : Kind) (nodes : List Node) (node : ℕ) → (node ≡ 0 → ⊥) → slice_get nodes (node - 1) ≡ None → slice_get (split ∷ kinds_of nodes) node ≡ None
none_behind split nodes zero some e = absurd (some refl)
none_behind split nodes (suc k) some e =
    let before : suc k - 1 ≡ k = omega arith in
    slice_get-map (λ (node : Node). node.kind) nodes k ∙ ap (option_map (λ (node : Node). node.kind)) (ap (slice_get nodes) (sym before) ∙ e)

-- what stands at a port
pub port_get-zero : {A : Type 0} (xs : List A) (port : ℕ) → port ≡ 0 → port_get xs port ≡ None
port_get-zero [] port e = refl
port_get-zero (x ∷ xs) zero e = refl
port_get-zero (x ∷ xs) (suc k) e = absurd (omega (arith, e))

port_get-suc : {A : Type 0} (xs : List A) (k : ℕ) → port_get xs (suc k) ≡ slice_get xs k
port_get-suc [] k = refl
port_get-suc (x ∷ xs) zero = refl
port_get-suc (x ∷ xs) (suc k) = port_get-suc xs k

pub port_get-place : {A : Type 0} (xs : List A) (port : ℕ) → (port ≡ 0 → ⊥) → port_get xs port ≡ slice_get xs (port - 1)
port_get-place xs zero some = absurd (some refl)
port_get-place xs (suc k) some = let before : k ≡ suc k - 1 = omega arith in port_get-suc xs k ∙ ap (slice_get xs) before

-- what holds of each item, at one
pub each_at : {A : Type 0} (P : A → Type 0) (xs : List A) (i : ℕ) (x : A) → i < length xs → x ≡ get_or xs i x → Each P xs → P x
each_at P [] i x lt is h = absurd (omega arith)
each_at P (y ∷ xs) zero x lt is h = subst P (sym is) h.0
each_at P (y ∷ xs) (suc i) x lt is h = each_at P xs i x (omega arith) is h.1

pub kind_each : (P : Kind → Type 0) (nodes : List Node) (i : ℕ) (n : Node) → i < length nodes → n ≡ get_or nodes i n → Each P (kinds_of nodes) → P n.kind
kind_each P [] i n lt is h = absurd (omega arith)
kind_each P (y ∷ nodes) zero n lt is h = subst (λ (m : Node). P m.kind) (sym is) h.0
kind_each P (y ∷ nodes) (suc i) n lt is h = kind_each P nodes i n (omega arith) is h.1

pub kind_first : (nodes : List Node) (i : ℕ) (n : Node) → i < length nodes → n ≡ get_or nodes i n → drop i (kinds_of nodes) ≡ n.kind ∷ drop (i + 1) (kinds_of nodes)
kind_first nodes i n lt is = item_mapped (λ (node : Node). node.kind) nodes i n lt is
