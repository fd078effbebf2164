-- Texts that differ: one after the other, and by pairs.
use Rattle.std.proofs.Common.{◌≡◌, ◌≢◌, ℕ, zero, suc, ◌≤◌, Bool, true, false, cond, nat_eq, List, [], ◌∷◌, map, length, drop, refl, ap, sym, ◌∙◌, subst, Bor, true≢false, arith}
use Rattle.std.specs.Prelude.{All, AllPairs, ◌↔◌, IfOk, IsTrue, Result, Ok, Err}
use Rattle.std.specs.List.{list_any}
use Rattle.std.specs.Cmp.Lexicographic.{pointwise}
use Rattle.std.proofs.lemmas.Slice.Eq.{bytes_eq-Decides}
use Rattle.std.proofs.lemmas.Bool.{false_from_ne_true}
use Rattle.std.proofs.lemmas.List.Elements.{All-from_recursion, recursion_from_All}
use Rattle.std.proofs.lemmas.List.Kept.{AllPairs-cons}
use Rattle.fun_expr.specs.Each.{Each}
use Rattle.components.specs.declared.node.Node.{Node}
use Rattle.components.specs.Name.{IsName}
use Rattle.components.specs.Node.{KeptOk}
use Rattle.loop_body.specs.Judging.{AllDiffer}

first : {A : Type 0} (R : A → A → Type 0) (x : A) (xs : List A) → AllPairs R (x ∷ xs) → All (R x) xs
first R x xs h = λ k d lt. h 0 (suc k) d (omega arith) (omega arith)

later : {A : Type 0} (R : A → A → Type 0) (x : A) (xs : List A) → AllPairs R (x ∷ xs) → AllPairs R xs
later R x xs h = λ i j d lt most. h (suc i) (suc j) d (omega arith) (omega arith)

each_mapped : {A B : Type 0} (f : A → B) (P : B → Type 0) (xs : List A) → Each P (map f xs) → Each (λ x. P (f x)) xs
each_mapped f P [] h = tt
each_mapped f P (x ∷ xs) h = (h.0, each_mapped f P xs h.1)

mapped_each : {A B : Type 0} (f : A → B) (P : B → Type 0) (xs : List A) → Each (λ x. P (f x)) xs → Each P (map f xs)
mapped_each f P [] h = tt
mapped_each f P (x ∷ xs) h = (h.0, mapped_each f P xs h.1)

pub differ_pairs : {A : Type 0} (f : A → List ℕ) (xs : List A) → AllDiffer (map f xs) → AllPairs (λ a b. f a ≢ f b) xs
differ_pairs f [] h = λ i j d lt most. absurd (omega arith)
differ_pairs f (x ∷ xs) h =
    AllPairs-cons (λ a b. f a ≢ f b) x xs (All-from_recursion (λ b. f x ≢ f b) xs (each_mapped f (λ y. f x ≢ y) xs h.0)) (differ_pairs f xs h.1)

pub pairs_differ : {A : Type 0} (f : A → List ℕ) (xs : List A) → AllPairs (λ a b. f a ≢ f b) xs → AllDiffer (map f xs)
pairs_differ f [] h = tt
pairs_differ f (x ∷ xs) h =
    (mapped_each f (λ y. f x ≢ y) xs (recursion_from_All (λ b. f x ≢ f b) xs (first (λ a b. f a ≢ f b) x xs h)), pairs_differ f xs (later (λ a b. f a ≢ f b) x xs h))

-- texts that are seen one after the other, each with the set of those before it
abbrev pub Texts : Type 0
Texts = List (Bor (List ℕ))

abbrev pub same : Bor (List ℕ) → Bor (List ℕ) → Bool
same a b = pointwise nat_eq a.now b.now

abbrev pub has : Texts → Bor (List ℕ) → Bool
has seen text = list_any (same text) seen

abbrev pub AllNew : Texts → Texts → Type 0
AllNew seen texts = Each (λ text. has seen text ≡ false) texts × AllDiffer (map (λ (text : Bor (List ℕ)). text.now) texts)

differs : (a b : Bor (List ℕ)) → same a b ≡ false → a.now ≢ b.now
differs a b h e = true≢false (sym ((bytes_eq-Decides a.now b.now).1 e) ∙ h)

is_same : (a b : Bor (List ℕ)) → a.now ≢ b.now → same a b ≡ false
is_same a b n = false_from_ne_true (same a b) (λ e. n ((bytes_eq-Decides a.now b.now).0 e))

cond_false : (a b : Bool) → cond a true b ≡ false → (a ≡ false) × (b ≡ false)
cond_false true b h = absurd (true≢false h)
cond_false false b h = (refl, h)

new_forth : (before seen : Texts) (text : Bor (List ℕ)) (texts : Texts) → ((q : Bor (List ℕ)) → has seen q ≡ cond (same text q) true (has before q)) →
    Each (λ t. has before t ≡ false) texts → Each (λ other. text.now ≢ other) (map (λ (t : Bor (List ℕ)). t.now) texts) → Each (λ t. has seen t ≡ false) texts
new_forth before seen text [] now h d = tt
new_forth before seen text (t ∷ texts) now h d =
    (now t ∙ ap (λ b. cond b true (has before t)) (is_same text t d.0) ∙ h.0, new_forth before seen text texts now h.1 d.1)

new_back : (before seen : Texts) (text : Bor (List ℕ)) (texts : Texts) → ((q : Bor (List ℕ)) → has seen q ≡ cond (same text q) true (has before q)) →
    Each (λ t. has seen t ≡ false) texts → Each (λ t. has before t ≡ false) texts × Each (λ other. text.now ≢ other) (map (λ (t : Bor (List ℕ)). t.now) texts)
new_back before seen text [] now h = (tt, tt)
new_back before seen text (t ∷ texts) now h =
    let parts = cond_false (same text t) (has before t) (sym (now t) ∙ h.0) in
    let rest = new_back before seen text texts now h.1 in
    ((parts.1, rest.0), (differs text t parts.0, rest.1))

pub new_step : (before seen : Texts) (text : Bor (List ℕ)) (texts : Texts) → ((q : Bor (List ℕ)) → has seen q ≡ cond (same text q) true (has before q)) → has before text ≡ false →
    AllNew before (text ∷ texts) ↔ AllNew seen texts
new_step before seen text texts now new = (
  λ h. (new_forth before seen text texts now h.0.1 h.1.0, h.1.1),
  λ h. let back = new_back before seen text texts now h.0 in ((new, back.0), (back.1, h.1)),
)

pub not_new : (before : Texts) (text : Bor (List ℕ)) (texts : Texts) → has before text ≡ true → AllNew before (text ∷ texts) → ⊥
not_new before text texts is h = true≢false (sym is ∙ h.0.0)

-- an answer about texts, as one about what they are the names of
pub tell_pairs : {A E : Type 0} (f : A → List ℕ) (xs : List A) (told : Result Bool E) (texts : List (List ℕ)) → texts ≡ map f xs → IfOk told (λ differ. IsTrue differ ↔ AllDiffer texts) →
    IfOk told (λ differ. IsTrue differ ↔ AllPairs (λ a b. f a ≢ f b) xs)
tell_pairs f xs (Err e) texts is h = h
tell_pairs f xs (Ok differ) texts is h = (
  λ yes. differ_pairs f xs (subst AllDiffer is (h.0 yes)),
  λ pairs. h.1 (subst AllDiffer (sym is) (pairs_differ f xs pairs)),
)

-- nodes that have a name, and may keep what they keep
abbrev pub Named : Node → Type 0
Named node = IsName node.name × KeptOk node.kind node.kept

pub each_past : {A : Type 0} (P : A → Type 0) (xs : List A) (i : ℕ) → length xs ≤ i → Each P (drop i xs)
each_past P [] zero le = tt
each_past P [] (suc i) le = tt
each_past P (x ∷ xs) zero le = absurd (omega arith)
each_past P (x ∷ xs) (suc i) le = each_past P xs i (omega arith)

-- an answer about one thing, as one about another
pub tell : {E : Type 0} {P Q : Type 0} (told : Result Bool E) → P ↔ Q → IfOk told (λ is. IsTrue is ↔ P) → IfOk told (λ is. IsTrue is ↔ Q)
tell (Err e) same h = h
tell (Ok is) same h = (λ yes. same.0 (h.0 yes), λ q. h.1 (same.1 q))
