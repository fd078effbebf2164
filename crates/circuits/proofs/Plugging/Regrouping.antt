-- Circuits side by side and links may be regrouped.
use Rattle.std.proofs.Common.{◌≡◌, ◌≢◌, inl, inr, refl, sym, ap, ◌∙◌, bytes_eq, if◌then◌else◌, List, [], ◌∷◌, ◌++◌, Option, Some, None}
use Rattle.std.specs.List.{AllByRecursion}
use Rattle.components.specs.declared.kind.Kind.{Kind}
use Rattle.components.specs.declared.kind.Kind.TheVariants.{Exit}
use Rattle.components.specs.Name.{Name, Port}
use Rattle.components.specs.Orders.{same_bytes, other_bytes}
use Rattle.circuits.specs.Circuit.{Circuit, Typed}
use Rattle.circuits.specs.Plug.{PlugLink, link, link_all, redirect, as_buffer, beside, or_else}
use Rattle.circuits.proofs.Names.{name_cases}
use Rattle.circuits.proofs.Beside.{none_some}
use Rattle.circuits.proofs.Renaming.{circuit_same}

pub beside_assoc : (a b c : Circuit) → beside (beside a b) c ≡ beside a (beside b c)
beside_assoc a b c = circuit_same _ _ (λ n. assoc_at (a.kind_at n) (b.kind_at n) (c.kind_at n)) (λ p. assoc_at (a.feeder p) (b.feeder p) (c.feeder p))
  where
    assoc_at : {A : Type 0} (x y z : Option A) → or_else (or_else x y) z ≡ or_else x (or_else y z)
    assoc_at None y z = refl
    assoc_at (Some x) y z = refl

abbrev linked_kind : PlugLink → Name → Option Kind → Option Kind
linked_kind l n k = if bytes_eq n l.entry then None else (if bytes_eq n l.exit then as_buffer k else k)

kind_away : (l : PlugLink) (n : Name) (k : Option Kind) → n ≢ l.entry → n ≢ l.exit → linked_kind l n k ≡ k
kind_away l n k ne nx = rw (other_bytes n l.entry ne, other_bytes n l.exit nx)

pub redirect_away : (l : PlugLink) (q : Port) → q.node ≢ l.entry → redirect l (Some q) ≡ Some q
redirect_away l q ne = ap (λ b. Some (if b then record { node = l.exit; port = q.port } else q)) (other_bytes q.node l.entry ne)

-- the names of the link stand not in c
pub record Away (c : Circuit) (l : PlugLink) : Type 0 where
  pub exit : c.kind_at l.exit ≡ None
  pub entry : c.kind_at l.entry ≡ None

away_names : (c : Circuit) (l : PlugLink) → Away c l → (n : Name) (k : Kind) → c.kind_at n ≡ Some k → (z : Option Kind) → linked_kind l n z ≡ z
away_names c l aw n k e z =
    kind_away l n z (λ is. none_some (c.kind_at n) k (ap c.kind_at is ∙ aw.entry) e) (λ is. none_some (c.kind_at n) k (ap c.kind_at is ∙ aw.exit) e)

-- a link may be made before a circuit that has none of its names comes beside it
module _ (c d : Circuit) (l : PlugLink) (aw : Away c l) (ty : Typed c) where
  right_kind : (n : Name) (o : Option Kind) → c.kind_at n ≡ o → or_else o (linked_kind l n (d.kind_at n)) ≡ linked_kind l n (or_else o (d.kind_at n))
  right_kind n None e = refl
  right_kind n (Some k) e = sym (away_names c l aw n k e (Some k))

  right_feeder : (p : Port) (o : Option Port) → c.feeder p ≡ o → or_else o (redirect l (d.feeder p)) ≡ redirect l (or_else o (d.feeder p))
  right_feeder p None e = refl
  right_feeder p (Some q) e =
      let w = ty.wires p q e in
      sym (redirect_away l q (λ is. none_some (c.kind_at q.node) w.from (ap c.kind_at is ∙ aw.entry) w.is_from))

  link_right : beside c (link l d) ≡ link l (beside c d)
  link_right = circuit_same _ _ (λ n. right_kind n (c.kind_at n) refl) (λ p. right_feeder p (c.feeder p) refl)

module _ (c d : Circuit) (l : PlugLink) (aw : Away d l) (ty : Typed d) where
  as_buffer_else : (k : Option Kind) (m : Option Kind) → or_else (as_buffer k) (as_buffer m) ≡ as_buffer (or_else k m)
  as_buffer_else None m = refl
  as_buffer_else (Some (Exit a)) m = refl
  as_buffer_else (Some _) m = refl

  left_kind : (n : Name) (o : Option Kind) → d.kind_at n ≡ o → or_else (linked_kind l n (c.kind_at n)) o ≡ linked_kind l n (or_else (c.kind_at n) o)
  left_kind n (Some k) e = ap (λ z. or_else z (Some k)) (away_names d l aw n k e (c.kind_at n)) ∙ sym (away_names d l aw n k e (or_else (c.kind_at n) (Some k)))
  left_kind n None e =
      elim (name_cases n l.entry) [
        | inl is ↦ rw is.test
        | inr ne ↦ elim (name_cases n l.exit) [
          | inl is ↦ rw (ne.test, is.test) (as_buffer_else (c.kind_at n) None)
          | inr nx ↦ rw (ne.test, nx.test)
        ]
      ]

  left_feeder : (p : Port) (o o' : Option Port) → d.feeder p ≡ o' → or_else (redirect l o) o' ≡ redirect l (or_else o o')
  left_feeder p None None e = refl
  left_feeder p None (Some q) e =
      let w = ty.wires p q e in
      sym (redirect_away l q (λ is. none_some (d.kind_at q.node) w.from (ap d.kind_at is ∙ aw.entry) w.is_from))
  left_feeder p (Some q) o' e = refl

  link_left : beside (link l c) d ≡ link l (beside c d)
  link_left = circuit_same _ _ (λ n. left_kind n (d.kind_at n) refl) (λ p. left_feeder p (c.feeder p) (d.feeder p) refl)

pub link_all_right : (ls : List PlugLink) (c d : Circuit) → Typed c → AllByRecursion (Away c) ls → beside c (link_all ls d) ≡ link_all ls (beside c d)
link_all_right [] c d ty h = refl
link_all_right (l ∷ ls) c d ty h = link_all_right ls c (link l d) ty h.1 ∙ ap (link_all ls) (link_right c d l h.0 ty)

pub link_all_left : (ls : List PlugLink) (c d : Circuit) → Typed d → AllByRecursion (Away d) ls → beside (link_all ls c) d ≡ link_all ls (beside c d)
link_all_left [] c d ty h = refl
link_all_left (l ∷ ls) c d ty h = link_all_left ls (link l c) d ty h.1 ∙ ap (link_all ls) (link_left c d l h.0 ty)

-- no name of the one link is a name of the other
pub record Distinct (l m : PlugLink) : Type 0 where
  pub exits : m.exit ≢ l.exit
  pub entries : m.entry ≢ l.entry
  pub exit_entry : m.exit ≢ l.entry
  pub entry_exit : m.entry ≢ l.exit

-- two links may change places
module _ (l m : PlugLink) (h : Distinct l m) (c : Circuit) where
  swap_kind : (n : Name) (k : Option Kind) → linked_kind l n (linked_kind m n k) ≡ linked_kind m n (linked_kind l n k)
  swap_kind n k =
      elim (name_cases n l.entry) [
        | inl is ↦ mine (λ e. h.entries (sym e ∙ is.is)) (λ e. h.exit_entry (sym e ∙ is.is))
        | inr ne ↦ elim (name_cases n l.exit) [
          | inl is ↦ mine (λ e. h.entry_exit (sym e ∙ is.is)) (λ e. h.exits (sym e ∙ is.is))
          | inr nx ↦ kind_away l n (linked_kind m n k) ne.is_not nx.is_not ∙ ap (linked_kind m n) (sym (kind_away l n k ne.is_not nx.is_not))
        ]
      ]
    where
      mine : n ≢ m.entry → n ≢ m.exit → linked_kind l n (linked_kind m n k) ≡ linked_kind m n (linked_kind l n k)
      mine ne nx = ap (linked_kind l n) (kind_away m n k ne nx) ∙ sym (kind_away m n (linked_kind l n k) ne nx)

  redirect_hit : (x : PlugLink) (q : Port) → q.node ≡ x.entry → redirect x (Some q) ≡ Some (record { node = x.exit; port = q.port })
  redirect_hit x q is = ap (λ b. Some (if b then record { node = x.exit; port = q.port } else q)) (same_bytes q.node x.entry is)

  swap_feeder : (o : Option Port) → redirect l (redirect m o) ≡ redirect m (redirect l o)
  swap_feeder None = refl
  swap_feeder (Some q) =
      elim (name_cases q.node m.entry) [
        | inl is ↦
            ap (redirect l) (redirect_hit m q is.is) ∙ redirect_away l (record { node = m.exit; port = q.port }) h.exit_entry
            ∙ sym (ap (redirect m) (redirect_away l q (λ e. h.entries (sym is.is ∙ e))) ∙ redirect_hit m q is.is)
        | inr nm ↦ elim (name_cases q.node l.entry) [
          | inl is ↦
              ap (redirect l) (redirect_away m q nm.is_not) ∙ redirect_hit l q is.is
              ∙ sym (ap (redirect m) (redirect_hit l q is.is) ∙ redirect_away m (record { node = l.exit; port = q.port }) (λ e. h.entry_exit (sym e)))
          | inr nl ↦ ap (redirect l) (redirect_away m q nm.is_not) ∙ sym (ap (redirect m) (redirect_away l q nl.is_not) ∙ redirect_away m q nm.is_not ∙ sym (redirect_away l q nl.is_not))
        ]
      ]

  link_swap : link l (link m c) ≡ link m (link l c)
  link_swap = circuit_same _ _ (λ n. swap_kind n (c.kind_at n)) (λ p. swap_feeder (c.feeder p))

pub link_past : (l : PlugLink) (ls : List PlugLink) (c : Circuit) → AllByRecursion (Distinct l) ls → link_all ls (link l c) ≡ link l (link_all ls c)
link_past l [] c h = refl
link_past l (m ∷ ms) c h = ap (link_all ms) (sym (link_swap l m h.0 c)) ∙ link_past l ms (link m c) h.1

pub link_all_swap : (ls ms : List PlugLink) (c : Circuit) → AllByRecursion (λ l. AllByRecursion (Distinct l) ls) ms → link_all ms (link_all ls c) ≡ link_all ls (link_all ms c)
link_all_swap ls [] c h = refl
link_all_swap ls (m ∷ ms) c h = ap (link_all ms) (sym (link_past m ls c h.0)) ∙ link_all_swap ls ms (link m c) h.1

pub link_all_append : (ls ms : List PlugLink) (c : Circuit) → link_all (ls ++ ms) c ≡ link_all ms (link_all ls c)
link_all_append [] ms c = refl
link_all_append (l ∷ ls) ms c = link_all_append ls ms (link l c)
