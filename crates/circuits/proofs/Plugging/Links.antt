-- Links one after another; a plugged circuit is typed.
use Rattle.std.proofs.Common.{◌≡◌, ◌≢◌, ◌⊎◌, inl, inr, refl, ap, subst, ◌∙◌, List, [], ◌∷◌, Some}
use Rattle.std.specs.List.{AllByRecursion}
use Rattle.components.specs.declared.kind.Kind.{Kind}
use Rattle.components.specs.declared.kind.Kind.TheVariants.{Exit}
use Rattle.components.specs.Name.{Name}
use Rattle.components.specs.Kind.{Shape}
use Rattle.circuits.specs.Circuit.{Circuit, Typed}
use Rattle.circuits.specs.Plug.{PlugLink, link, link_all, plug, beside, Joins, UsesNoneTwice, CanPlug}
use Rattle.circuits.specs.Replacing.{IsEnd}
use Rattle.circuits.proofs.Lists.{each_map, each_both}
use Rattle.circuits.proofs.Linking.{CanLink, kind_other}
use Rattle.circuits.proofs.Refining.{still, joined_out, joined_in}
use Rattle.circuits.proofs.Plugging.Typed.{Was, was_exit, was_same, was, link_typed, beside_typed}

abbrev pub CanLinkAt : Circuit → PlugLink → Type 0
CanLinkAt c l = (a : Shape) × CanLink l c a

-- a link leaves the others
pub still_at : (l : PlugLink) (c : Circuit) → CanLinkAt c l → (ls : List PlugLink) → AllByRecursion (λ m. (m.exit ≢ l.exit) × (m.entry ≢ l.entry)) ls → AllByRecursion (CanLinkAt c) ls → AllByRecursion (CanLinkAt (link l c)) ls
still_at l c h ls n k = each_both (λ m. (m.exit ≢ l.exit) × (m.entry ≢ l.entry)) (CanLinkAt c) (CanLinkAt (link l c)) (λ m x y. (y.0, still l m c h.0 y.0 h.1 y.1 x.0 x.1)) ls n k

pub link_all_typed : (ls : List PlugLink) (c : Circuit) → Typed c → UsesNoneTwice ls → AllByRecursion (CanLinkAt c) ls → Typed (link_all ls c)
link_all_typed [] c ty n h = ty
link_all_typed (l ∷ ls) c ty n h = link_all_typed ls (link l c) (link_typed l c h.0.0 h.0.1 ty) n.1 (still_at l c h.0 ls n.0 h.1)

pub can_link_all : (c g : Circuit) (ls : List PlugLink) → Typed c → Typed g → CanPlug c ls g → AllByRecursion (CanLinkAt (beside c g)) ls
can_link_all c g ls tc tg can =
    each_map (λ l. Joins l c g ⊎ Joins l g c) (CanLinkAt (beside c g))
    (λ l j. elim j [ inl k ↦ (k.shape, joined_out c g l can.apart tc tg k) | inr k ↦ (k.shape, joined_in c g l can.apart tc tg k) ]) ls can.joins

pub plug_typed : (c g : Circuit) (ls : List PlugLink) → Typed c → Typed g → CanPlug c ls g → Typed (plug c ls g)
plug_typed c g ls tc tg can = link_all_typed ls (beside c g) (beside_typed c g can.apart tc tg) can.once (can_link_all c g ls tc tg can)

-- the name is no end of a link
abbrev pub IsFree : Name → PlugLink → Type 0
IsFree n l = (n ≢ l.exit) × (n ≢ l.entry)

pub kind_free : (ls : List PlugLink) (c : Circuit) (n : Name) → AllByRecursion (IsFree n) ls → (link_all ls c).kind_at n ≡ c.kind_at n
kind_free [] c n h = refl
kind_free (l ∷ ls) c n h = kind_free ls (link l c) n h.1 ∙ kind_other l c n h.0.0 h.0.1

-- a node of a linked circuit was one, and an Entry or Exit of it is no end of a link
pub record WasEnd (ls : List PlugLink) (c : Circuit) (n : Name) (k : Kind) : Type 0 where
  pub kind : c.kind_at n ≡ Some k
  pub free : AllByRecursion (IsFree n) ls

was_end_one : (l : PlugLink) (c : Circuit) (a : Shape) (n : Name) (k : Kind) → IsEnd k → Was l c a n k → IsFree n l × (c.kind_at n ≡ Some k)
was_end_one l c a n k e (was_exit is ek) = absurd (subst IsEnd ek e)
was_end_one l c a n k e (was_same nx ne f) = ((nx, ne), f)

pub was_end : (ls : List PlugLink) (c : Circuit) → UsesNoneTwice ls → AllByRecursion (CanLinkAt c) ls → (n : Name) (k : Kind) → IsEnd k → (link_all ls c).kind_at n ≡ Some k → WasEnd ls c n k
was_end [] c once h n k end e = record { kind = e; free = tt }
was_end (l ∷ ls) c once h n k end e =
    let later = was_end ls (link l c) once.1 (still_at l c h.0 ls once.0 h.1) n k end e in
    let (free, kind) = was_end_one l c h.0.0 n k end (was l c h.0.0 h.0.1 n k later.kind) in
    record { kind = kind; free = (free, later.free) }

some_kind_one : (l : PlugLink) (c : Circuit) (a : Shape) → CanLink l c a → (n : Name) (k : Kind) → Was l c a n k → (m : Kind) × (c.kind_at n ≡ Some m)
some_kind_one l c a can n k (was_exit is ek) = (Exit a, ap c.kind_at is ∙ can.exit)
some_kind_one l c a can n k (was_same nx ne f) = (k, f)

pub some_kind : (ls : List PlugLink) (c : Circuit) → UsesNoneTwice ls → AllByRecursion (CanLinkAt c) ls → (n : Name) (k : Kind) → (link_all ls c).kind_at n ≡ Some k → (m : Kind) × (c.kind_at n ≡ Some m)
some_kind [] c once h n k e = (k, e)
some_kind (l ∷ ls) c once h n k e =
    let (m, f) = some_kind ls (link l c) once.1 (still_at l c h.0 ls once.0 h.1) n k e in some_kind_one l c h.0.0 h.0.1 n m (was l c h.0.0 h.0.1 n m f)
