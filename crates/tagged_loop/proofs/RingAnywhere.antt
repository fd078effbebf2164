-- The ring of a tagged loop stays where its circuit is plugged into another.
use Rattle.std.proofs.Common.{◌≡◌, ◌≢◌, ◌⊎◌, inl, inr, ℕ, refl, sym, ap, subst, ◌∙◌, Bool, List, [], ◌∷◌, Some, None, if◌then◌else◌}
use Rattle.std.specs.List.{AllByRecursion}
use Rattle.std.proofs.lemmas.Option.{same_Some}
use Rattle.components.specs.declared.kind.Kind.{Kind}
use Rattle.components.specs.declared.kind.Kind.TheVariants.{Entry, Exit}
use Rattle.components.specs.Name.{Name, Port}
use Rattle.components.specs.Kind.{Shape}
use Rattle.components.specs.Orders.{other_bytes}
use Rattle.circuits.specs.Circuit.{Circuit, Typed}
use Rattle.circuits.specs.Plug.{PlugLink, Joins, link, link_all, redirect, as_buffer, plug, beside, or_else, CanPlug}
use Rattle.circuits.specs.Replacing.{IsEnd}
use Rattle.circuits.proofs.Beside.{apart_none, apart_sym, unfed}
use Rattle.circuits.proofs.Lists.{each_map}
use Rattle.tagged_loop.specs.Ring.{RingNames, HasRing}

-- no link is at this node
abbrev IsAway : Name → List PlugLink → Type 0
IsAway n ls = AllByRecursion (λ l. (n ≢ l.exit) × (n ≢ l.entry)) ls

kind_linked : (ls : List PlugLink) (c : Circuit) (n : Name) → IsAway n ls → (link_all ls c).kind_at n ≡ c.kind_at n
kind_linked [] c n away = refl
kind_linked (l ∷ ls) c n away =
    kind_linked ls (link l c) n away.1
    ∙ (λ i. if other_bytes n l.entry away.0.1 i then None else (if other_bytes n l.exit away.0.0 i then as_buffer (c.kind_at n) else c.kind_at n))

wire_linked : (ls : List PlugLink) (c : Circuit) (p q : Port) → IsAway q.node ls → c.feeder p ≡ Some q → (link_all ls c).feeder p ≡ Some q
wire_linked [] c p q away f = f
wire_linked (l ∷ ls) c p q away f =
    wire_linked ls (link l c) p q away.1
    (ap (redirect l) f ∙ ap (λ b. Some (if b then record { node = l.exit; port = q.port } else q)) (other_bytes q.node l.entry away.0.1))

module _ (c g : Circuit) (ls : List PlugLink) (typed : Typed c) (can : CanPlug c ls g) where
  -- a node that is no end
  record IsInside (n : Name) (k : Kind) : Type 0 where
    no_end : ¬ (IsEnd k)
    is_kind : g.kind_at n ≡ Some k

  away_from : (n : Name) (k : Kind) → IsInside n k → (l : PlugLink) → (Joins l c g ⊎ Joins l g c) → (n ≢ l.exit) × (n ≢ l.entry)
  away_from n k at l (inl j) = (
    (λ is. can.apart l.exit (Exit j.shape) k j.exit (ap g.kind_at (sym is) ∙ at.is_kind)),
    (λ is. at.no_end (subst IsEnd (same_Some (Entry j.shape) k (sym j.entry ∙ ap g.kind_at (sym is) ∙ at.is_kind)) tt)),
  )
  away_from n k at l (inr j) = (
    (λ is. at.no_end (subst IsEnd (same_Some (Exit j.shape) k (sym j.exit ∙ ap g.kind_at (sym is) ∙ at.is_kind)) tt)),
    (λ is. can.apart l.entry (Entry j.shape) k j.entry (ap g.kind_at (sym is) ∙ at.is_kind)),
  )

  away : (n : Name) (k : Kind) → IsInside n k → IsAway n ls
  away n k at = each_map (λ l. Joins l c g ⊎ Joins l g c) (λ l. (n ≢ l.exit) × (n ≢ l.entry)) (away_from n k at) ls can.joins

  outside : (n : Name) (k : Kind) → IsInside n k → c.kind_at n ≡ None
  outside n k at = apart_none g c (apart_sym c g can.apart) n k at.is_kind

  kind_kept : (n : Name) (k : Kind) → IsInside n k → (plug c ls g).kind_at n ≡ Some k
  kind_kept n k at = kind_linked ls (beside c g) n (away n k at) ∙ ap (λ o. or_else o (g.kind_at n)) (outside n k at) ∙ at.is_kind

  wire_kept : (p q : Port) (k j : Kind) → IsInside p.node k → IsInside q.node j → g.feeder p ≡ Some q → (plug c ls g).feeder p ≡ Some q
  wire_kept p q k j target source f =
      wire_linked ls (beside c g) p q (away q.node j source) (ap (λ o. or_else o (g.feeder p)) (unfed c typed p (outside p.node k target)) ∙ f)

  pub plugged_ring : (x : RingNames) (a : Shape) (d : Bool) (n : ℕ) → HasRing g x a d n → HasRing (plug c ls g) x a d n
  plugged_ring x a d n h =
      let tagger : IsInside x.tagger _ = record { no_end = λ z. z; is_kind = h.is_tagger } in
      let merge : IsInside x.merge _ = record { no_end = λ z. z; is_kind = h.is_merge } in
      let tag : IsInside x.tag _ = record { no_end = λ z. z; is_kind = h.is_tag } in
      let retag : IsInside x.retag _ = record { no_end = λ z. z; is_kind = h.is_retag } in
      let branch : IsInside x.branch _ = record { no_end = λ z. z; is_kind = h.is_branch } in
      record {
        is_tagger = kind_kept x.tagger _ tagger;
        is_merge = kind_kept x.merge _ merge;
        is_tag = kind_kept x.tag _ tag;
        is_retag = kind_kept x.retag _ retag;
        is_branch = kind_kept x.branch _ branch;
        into_merge = wire_kept _ _ _ _ merge tagger h.into_merge;
        back_merge = wire_kept _ _ _ _ merge branch h.back_merge;
        into_tag = wire_kept _ _ _ _ tag merge h.into_tag;
        into_retag = wire_kept _ _ _ _ retag tag h.into_retag;
        into_branch = wire_kept _ _ _ _ branch retag h.into_branch;
        into_tagger = wire_kept _ _ _ _ tagger branch h.into_tagger;
      }
