-- A list of links taken apart by a test: those that pass, and the others.
use Rattle.std.proofs.Common.{◌≡◌, ◌≢◌, Bool, true, false, not, refl, sym, ap, ◌∙◌, List, [], ◌∷◌, ◌++◌, Some}
use Rattle.std.specs.List.{AllByRecursion}
use Rattle.components.specs.declared.kind.Kind.TheVariants.{Entry, Exit}
use Rattle.circuits.specs.Circuit.{Circuit}
use Rattle.circuits.specs.Plug.{PlugLink, link, link_all, UsesNoneTwice}
use Rattle.circuits.proofs.Lists.{each_append, each_both}
use Rattle.circuits.proofs.Plugging.Links.{CanLinkAt}
use Rattle.circuits.proofs.Plugging.Regrouping.{Distinct, link_past}

abbrev pub put_where : Bool → PlugLink → List PlugLink → List PlugLink
put_where true l ls = l ∷ ls
put_where false l ls = ls

-- the links that pass
abbrev pub passing : (PlugLink → Bool) → List PlugLink → List PlugLink
passing p [] = []
passing p (l ∷ ls) = put_where (p l) l (passing p ls)

-- and those that do not
abbrev pub failing : (PlugLink → Bool) → List PlugLink → List PlugLink
failing p ls = passing (λ l. not (p l)) ls

each_put : (P : PlugLink → Type 0) (b : Bool) (l : PlugLink) (ls : List PlugLink) → (b ≡ true → P l) → AllByRecursion P ls → AllByRecursion P (put_where b l ls)
each_put P true l ls here there = (here refl, there)
each_put P false l ls here there = there

-- what holds of each link that passes holds of each of them
pub each_passing : (P : PlugLink → Type 0) (p : PlugLink → Bool) (ls : List PlugLink) → AllByRecursion (λ l. p l ≡ true → P l) ls → AllByRecursion P (passing p ls)
each_passing P p [] h = tt
each_passing P p (l ∷ ls) h = each_put P (p l) l (passing p ls) h.0 (each_passing P p ls h.1)

each_of : (P : PlugLink → Type 0) (p : PlugLink → Bool) (ls : List PlugLink) → AllByRecursion P ls → AllByRecursion P (passing p ls)
each_of P p [] h = tt
each_of P p (l ∷ ls) h = each_put P (p l) l (passing p ls) (λ e. h.0) (each_of P p ls h.1)

once_put : (b : Bool) (l : PlugLink) (ls : List PlugLink) → AllByRecursion (λ m. (m.exit ≢ l.exit) × (m.entry ≢ l.entry)) ls → UsesNoneTwice ls → UsesNoneTwice (put_where b l ls)
once_put true l ls apart once = (apart, once)
once_put false l ls apart once = once

pub once_passing : (p : PlugLink → Bool) (ls : List PlugLink) → UsesNoneTwice ls → UsesNoneTwice (passing p ls)
once_passing p [] h = tt
once_passing p (l ∷ ls) h = once_put (p l) l (passing p ls) (each_of (λ m. (m.exit ≢ l.exit) × (m.entry ≢ l.entry)) p ls h.0) (once_passing p ls h.1)

pub once_append : (ls ms : List PlugLink) → UsesNoneTwice ls → UsesNoneTwice ms → AllByRecursion (λ l. AllByRecursion (Distinct l) ms) ls → UsesNoneTwice (ls ++ ms)
once_append [] ms once h apart = h
once_append (l ∷ ls) ms once h apart = (
  each_append (λ m. (m.exit ≢ l.exit) × (m.entry ≢ l.entry)) ls ms once.0 (each_apart ms apart.0),
  once_append ls ms once.1 h apart.1,
)
  where
    each_apart : (ns : List PlugLink) → AllByRecursion (Distinct l) ns → AllByRecursion (λ m. (m.exit ≢ l.exit) × (m.entry ≢ l.entry)) ns
    each_apart [] d = tt
    each_apart (n ∷ ns) d = ((d.0.exits, d.0.entries), each_apart ns d.1)

-- no two links have a name in common
abbrev pub AreDistinct : List PlugLink → Type 0
AreDistinct [] = Unit {0}
AreDistinct (l ∷ ls) = AllByRecursion (Distinct l) ls × AreDistinct ls

distinct_one : (c : Circuit) (l : PlugLink) → CanLinkAt c l → (m : PlugLink) → (m.exit ≢ l.exit) × (m.entry ≢ l.entry) → CanLinkAt c m → Distinct l m
distinct_one c l h m apart k =
    record {
      exits = apart.0;
      entries = apart.1;
      exit_entry = λ e. let z : Some (Exit k.0) ≡ Some (Entry h.0) = sym k.1.exit ∙ ap c.kind_at e ∙ h.1.entry in cc;
      entry_exit = λ e. let z : Some (Entry k.0) ≡ Some (Exit h.0) = sym k.1.entry ∙ ap c.kind_at e ∙ h.1.exit in cc;
    }

-- links that can be made at once are distinct
pub are_distinct : (c : Circuit) (ls : List PlugLink) → UsesNoneTwice ls → AllByRecursion (CanLinkAt c) ls → AreDistinct ls
are_distinct c [] once h = tt
are_distinct c (l ∷ ls) once h = (
  each_both (λ m. (m.exit ≢ l.exit) × (m.entry ≢ l.entry)) (CanLinkAt c) (Distinct l) (distinct_one c l h.0) ls once.0 h.1,
  are_distinct c ls once.1 h.1,
)

-- those that pass may be made first
split_at : (l : PlugLink) (p : PlugLink → Bool) (b : Bool) → p l ≡ b → (ls : List PlugLink) (c : Circuit) → AllByRecursion (Distinct l) ls →
    link_all (failing p ls) (link_all (passing p ls) (link l c)) ≡ link_all (put_where (not b) l (failing p ls)) (link_all (put_where b l (passing p ls)) c)
split_at l p true e ls c d = refl
split_at l p false e ls c d = ap (link_all (failing p ls)) (link_past l (passing p ls) c (each_of (Distinct l) p ls d))

pub split_links : (p : PlugLink → Bool) (ls : List PlugLink) (c : Circuit) → AreDistinct ls → link_all ls c ≡ link_all (failing p ls) (link_all (passing p ls) c)
split_links p [] c d = refl
split_links p (l ∷ ls) c d = split_links p ls (link l c) d.1 ∙ split_at l p (p l) refl ls c d.0

-- a link that fails and one that passes are distinct
apart_put : (l : PlugLink) (p : PlugLink → Bool) (b : Bool) → p l ≡ b → (ls : List PlugLink) → AllByRecursion (Distinct l) (passing p ls) → AllByRecursion (λ m. AllByRecursion (Distinct m) (passing p ls)) (failing p ls) → AllByRecursion (λ m. Distinct m l) (failing p ls) →
    AllByRecursion (λ m. AllByRecursion (Distinct m) (put_where b l (passing p ls))) (put_where (not b) l (failing p ls))
apart_put l p true e ls here there back = each_both (λ m. Distinct m l) (λ m. AllByRecursion (Distinct m) (passing p ls)) (λ m. Distinct m l × AllByRecursion (Distinct m) (passing p ls)) (λ m x y. (x, y)) (failing p ls) back there
apart_put l p false e ls here there back = (here, there)

pub distinct_back : (l : PlugLink) (ls : List PlugLink) → AllByRecursion (Distinct l) ls → AllByRecursion (λ m. Distinct m l) ls
distinct_back l [] d = tt
distinct_back l (m ∷ ms) d = (
  record { exits = λ e. d.0.exits (sym e); entries = λ e. d.0.entries (sym e); exit_entry = λ e. d.0.entry_exit (sym e); entry_exit = λ e. d.0.exit_entry (sym e) },
  distinct_back l ms d.1,
)

pub failing_apart : (p : PlugLink → Bool) (ls : List PlugLink) → AreDistinct ls → AllByRecursion (λ m. AllByRecursion (Distinct m) (passing p ls)) (failing p ls)
failing_apart p [] d = tt
failing_apart p (l ∷ ls) d =
    apart_put l p (p l) refl ls (each_of (Distinct l) p ls d.0) (failing_apart p ls d.1)
    (each_of (λ m. Distinct m l) (λ m. not (p m)) ls (distinct_back l ls d.0))
