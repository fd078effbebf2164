-- Links between two circuits that are made one after another.
use Rattle.std.proofs.Common.{◌≡◌, ◌≢◌, ◌⊎◌, inl, inr, ℕ, ◌+◌, ◌<◌, List, [], ◌∷◌, ◌++◌, map, length, get_or, take, drop, drop-cons, add-one, Option, Some, None, refl, sym, ap, ◌∙◌}
use Rattle.std.proofs.lemmas.List.{map-append, take-append-drop, take_more}
use Rattle.std.proofs.lemmas.Option.{same_Some}
use Rattle.std.specs.Prelude.{if◌then◌else◌}
use Rattle.std.specs.List.{AllByRecursion}
use Rattle.components.specs.declared.kind.Kind.{Kind}
use Rattle.components.specs.declared.kind.Kind.TheVariants.{Entry, Exit}
use Rattle.components.specs.Kind.{Shape}
use Rattle.components.specs.Name.{Name}
use Rattle.components.specs.NamedGraph.{NamedGraph}
use Rattle.components.specs.Orders.{other_bytes}
use Rattle.circuits.specs.Circuit.{Circuit}
use Rattle.circuits.specs.Plug.{PlugLink, Apart, CanPlug, Joins, UsesNoneTwice, as_buffer, beside, link, link_all, or_else, plug}
use Rattle.circuits.specs.PluggedGraph.{link_graph, link_graphs}

-- Lists

split_at : {A : Type 0} (xs : List A) (i : ℕ) (d : A) → i < length xs → xs ≡ take i xs ++ get_or xs i d ∷ drop (i + 1) xs
split_at xs i d below = sym (take-append-drop i xs) ∙ ap (λ ys. take i xs ++ ys) (drop-cons xs i d below ∙ (λ j. get_or xs i d ∷ drop (sym (add-one i) j) xs))

pub names_split : {A B : Type 0} (f : A → B) (xs : List A) (i : ℕ) (d : A) → i < length xs → map f xs ≡ map f (take i xs) ++ f (get_or xs i d) ∷ map f (drop (i + 1) xs)
names_split f xs i d below = ap (map f) (split_at xs i d below) ∙ map-append f (take i xs) (get_or xs i d ∷ drop (i + 1) xs)

pub names_more : {A B : Type 0} (f : A → B) (xs : List A) (i : ℕ) (d : A) → i < length xs → map f (take (i + 1) xs) ≡ map f (take i xs) ++ f (get_or xs i d) ∷ []
names_more f xs i d below = ap (map f) (take_more xs i d below) ∙ map-append f (take i xs) (get_or xs i d ∷ [])

module _ {A : Type 0} (P : A → Type 0) where
  each_front : (xs ys : List A) → AllByRecursion P (xs ++ ys) → AllByRecursion P xs
  each_front [] ys h = tt
  each_front (x ∷ xs) ys h = (h.0, each_front xs ys h.1)

  each_back : (xs ys : List A) → AllByRecursion P (xs ++ ys) → AllByRecursion P ys
  each_back [] ys h = h
  each_back (x ∷ xs) ys h = each_back xs ys h.1

  each_other : {Q : A → Type 0} → ((x : A) → P x → Q x) → (xs : List A) → AllByRecursion P xs → AllByRecursion Q xs
  each_other f [] h = tt
  each_other f (x ∷ xs) h = (f x h.0, each_other f xs h.1)

-- The graph with one link more

pub link_more : (ls : List PlugLink) (l : PlugLink) (g : NamedGraph) → link_graphs (ls ++ l ∷ []) g ≡ link_graph l (link_graphs ls g)
link_more [] l g = refl
link_more (m ∷ ls) l g = link_more ls l (link_graph m g)

-- A link joins an Exit to an Entry once those before it are made

kind_kept : (ls : List PlugLink) (b : Circuit) (n : Name) → AllByRecursion (λ m. (n ≢ m.exit) × (n ≢ m.entry)) ls → (link_all ls b).kind_at n ≡ b.kind_at n
kind_kept [] b n away = refl
kind_kept (m ∷ ls) b n away =
    kind_kept ls (link m b) n away.1
    ∙ (λ i. if other_bytes n m.entry away.0.1 i then None else (if other_bytes n m.exit away.0.0 i then as_buffer (b.kind_at n) else b.kind_at n))

module _ (c g : Circuit) (apart : Apart c g) where
  kind_left : (n : Name) (k : Kind) → c.kind_at n ≡ Some k → (beside c g).kind_at n ≡ Some k
  kind_left n k e = ap (λ o. or_else o (g.kind_at n)) e

  kind_right : (n : Name) (k : Kind) → g.kind_at n ≡ Some k → (beside c g).kind_at n ≡ Some k
  kind_right n k e = at (c.kind_at n) refl
    where
      at : (o : Option Kind) → c.kind_at n ≡ o → (beside c g).kind_at n ≡ Some k
      at None none = ap (λ o. or_else o (g.kind_at n)) none ∙ e
      at (Some m) found = absurd (apart n m k found e)

  joins_beside : (l : PlugLink) → Joins l c g ⊎ Joins l g c → Joins l (beside c g) (beside c g)
  joins_beside l (inl j) = record { shape = j.shape; exit = kind_left l.exit (Exit j.shape) j.exit; entry = kind_right l.entry (Entry j.shape) j.entry }
  joins_beside l (inr j) = record { shape = j.shape; exit = kind_right l.exit (Exit j.shape) j.exit; entry = kind_left l.entry (Entry j.shape) j.entry }

-- an Exit is no Entry
ends_apart : (b : Circuit) (x e : Name) (s t : Shape) → b.kind_at x ≡ Some (Exit s) → b.kind_at e ≡ Some (Entry t) → x ≢ e
ends_apart b x e s t at_x at_e same = let kinds : Exit s ≡ Entry t = same_Some _ _ (sym at_x ∙ ap b.kind_at same ∙ at_e) in cc

module _ (b : Circuit) (l : PlugLink) (j : Joins l b b) where
  abbrev Differs : PlugLink → Type 0
  Differs m = (l.exit ≢ m.exit) × (l.entry ≢ m.entry)

  exit_away : (ls : List PlugLink) → AllByRecursion (λ m. Joins m b b) ls → AllByRecursion Differs ls → AllByRecursion (λ m. (l.exit ≢ m.exit) × (l.exit ≢ m.entry)) ls
  exit_away [] joins differ = tt
  exit_away (m ∷ ls) joins differ = ((differ.0.0, ends_apart b l.exit m.entry j.shape joins.0.shape j.exit joins.0.entry), exit_away ls joins.1 differ.1)

  entry_away : (ls : List PlugLink) → AllByRecursion (λ m. Joins m b b) ls → AllByRecursion Differs ls → AllByRecursion (λ m. (l.entry ≢ m.exit) × (l.entry ≢ m.entry)) ls
  entry_away [] joins differ = tt
  entry_away (m ∷ ls) joins differ = ((λ same. ends_apart b m.exit l.entry joins.0.shape j.shape joins.0.exit j.entry (sym same), differ.0.1), entry_away ls joins.1 differ.1)

  joins_still : (ls : List PlugLink) → AllByRecursion (λ m. Joins m b b) ls → AllByRecursion Differs ls → Joins l (link_all ls b) (link_all ls b)
  joins_still ls joins differ =
      record {
        shape = j.shape;
        exit = kind_kept ls b l.exit (exit_away ls joins differ) ∙ j.exit;
        entry = kind_kept ls b l.entry (entry_away ls joins differ) ∙ j.entry;
      }

once_front : (ls : List PlugLink) (l : PlugLink) (ms : List PlugLink) → UsesNoneTwice (ls ++ l ∷ ms) → UsesNoneTwice ls × AllByRecursion (λ m. (l.exit ≢ m.exit) × (l.entry ≢ m.entry)) ls
once_front [] l ms once = (tt, tt)
once_front (m ∷ ls) l ms once =
    let others = λ (k : PlugLink). (k.exit ≢ m.exit) × (k.entry ≢ m.entry) in
    let (front, differ) = once_front ls l ms once.1 in (
      (each_front others ls (l ∷ ms) once.0, front),
      ((each_back others ls (l ∷ ms) once.0).0, differ),
    )

module _ (c : Circuit) (ls : List PlugLink) (l : PlugLink) (ms : List PlugLink) (g : Circuit) (can : CanPlug c (ls ++ l ∷ ms) g) where
  abbrev Either : PlugLink → Type 0
  Either m = Joins m c g ⊎ Joins m g c

  -- the first links can be made by themselves
  pub can_front : CanPlug c ls g
  can_front = record { apart = can.apart; joins = each_front Either ls (l ∷ ms) can.joins; once = (once_front ls l ms can.once).0 }

  -- and then the next
  pub joins_next : Joins l (plug c ls g) (plug c ls g)
  joins_next =
      joins_still (beside c g) l (joins_beside c g can.apart l (each_back Either ls (l ∷ ms) can.joins).0) ls
      (each_other Either (joins_beside c g can.apart) ls (each_front Either ls (l ∷ ms) can.joins)) (once_front ls l ms can.once).1
