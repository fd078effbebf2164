-- A part refined, the whole refined: also where links from outside touch the part.
use Rattle.std.proofs.Common.{◌≡◌, ℕ, ◌+◌, ◌⊎◌, inl, inr, Bool, true, false, not, is_some, sym, ap, subst, ◌∙◌, true≢false, List, [], ◌∷◌, ◌++◌, Some, None, arith}
use Rattle.std.specs.List.{AllByRecursion}
use Rattle.components.specs.declared.kind.Kind.{Kind}
use Rattle.components.specs.declared.kind.Kind.TheVariants.{Entry, Exit}
use Rattle.components.specs.Name.{Name}
use Rattle.circuits.specs.Circuit.{Circuit, Typed}
use Rattle.circuits.specs.Run.{Move, Shows}
use Rattle.circuits.specs.Plug.{PlugLink, link_all, plug, beside, or_else, Apart, Joins, CanPlug}
use Rattle.circuits.specs.Refines.{SamePorts, Refines}
use Rattle.circuits.specs.Replacing.{IsEnd}
use Rattle.circuits.specs.Laws.{WholeRefines}
use Rattle.circuits.proofs.Lists.{each_append, each_map, each_both}
use Rattle.circuits.proofs.Beside.{apart_none, apart_sym, kind_left}
use Rattle.circuits.proofs.Plugging.Typed.{kind_of_right, or_some}
use Rattle.circuits.proofs.Transitive.{IsLong, refines_of_long, long_apart}
use Rattle.circuits.proofs.Plugging.Links.{can_link_all, plug_typed, IsFree, kind_free, was_end, some_kind}
use Rattle.circuits.proofs.Plugging.Regrouping.{beside_assoc, Away, link_all_right, link_all_left, Distinct, link_all_swap, link_all_append}
use Rattle.circuits.proofs.Plugging.Splitting.{passing, failing, each_passing, once_passing, once_append, AreDistinct, are_distinct, split_links, distinct_back, failing_apart}

-- one of the link's ends is a node of the rest
abbrev pub touches : Circuit → PlugLink → Bool
touches rest l = is_some (or_else (rest.kind_at l.exit) (rest.kind_at l.entry))

each_swap : (D : PlugLink → PlugLink → Type 0) (ls ms : List PlugLink) → AllByRecursion (λ l. AllByRecursion (D l) ls) ms → AllByRecursion (λ m. AllByRecursion (λ l. D l m) ms) ls
each_swap D [] ms h = tt
each_swap D (l ∷ ls) ms h =
    (each_map (λ x. AllByRecursion (D x) (l ∷ ls)) (λ x. D x l) (λ x y. y.0) ms h, each_swap D ls ms (each_map (λ x. AllByRecursion (D x) (l ∷ ls)) (λ x. AllByRecursion (D x) ls) (λ x y. y.1) ms h))

-- an Entry or Exit of the whole was one of the rest or of the part, and is no end of a link
record Outer (rest g : Circuit) (ls : List PlugLink) (n : Name) (k : Kind) : Type 0 where
  kind : (rest.kind_at n ≡ Some k) ⊎ ((rest.kind_at n ≡ None) × (g.kind_at n ≡ Some k))
  free : AllByRecursion (IsFree n) ls

module _ (rest g : Circuit) (ls : List PlugLink) (tr : Typed rest) (tg : Typed g) (can : CanPlug rest ls g) where
  outer_end : (n : Name) (k : Kind) → IsEnd k → (plug rest ls g).kind_at n ≡ Some k → Outer rest g ls n k
  outer_end n k end e =
      let was = was_end ls (beside rest g) can.once (can_link_all rest g ls tr tg can) n k end e in
      record { kind = or_some (rest.kind_at n) (g.kind_at n) k was.kind; free = was.free }

  rest_end : (n : Name) (k : Kind) → rest.kind_at n ≡ Some k → AllByRecursion (IsFree n) ls → (plug rest ls g).kind_at n ≡ Some k
  rest_end n k e free = kind_free ls (beside rest g) n free ∙ kind_left rest g n k e

  part_end : (n : Name) (k : Kind) → g.kind_at n ≡ Some k → AllByRecursion (IsFree n) ls → (plug rest ls g).kind_at n ≡ Some k
  part_end n k e free = kind_free ls (beside rest g) n free ∙ kind_of_right rest g can.apart tr tg n k e

  -- c around the whole, with no name of its nodes
  module _ (c : Circuit) (ms : List PlugLink) (tc : Typed c) (cl : CanPlug c ms (plug rest ls g)) (cr : Apart c rest) (cg : Apart c g) where
    c_free : (n : Name) (k : Kind) → c.kind_at n ≡ Some k → AllByRecursion (IsFree n) ls
    c_free n k e =
        each_map (λ m. Joins m rest g ⊎ Joins m g rest) (IsFree n)
        (λ m j. elim j [
          | inl i ↦ ((λ is. cr n k (Exit i.shape) e (ap rest.kind_at is ∙ i.exit)), (λ is. cg n k (Entry i.shape) e (ap g.kind_at is ∙ i.entry)))
          | inr i ↦ ((λ is. cg n k (Exit i.shape) e (ap g.kind_at is ∙ i.exit)), (λ is. cr n k (Entry i.shape) e (ap rest.kind_at is ∙ i.entry)))
        ]) ls can.joins

    -- a link from outside leads to the rest or to the part
    record ToRest (l : PlugLink) : Type 0 where
      joins : Joins l c rest ⊎ Joins l rest c
      away : Away g l
      is : touches rest l ≡ true

    record ToPart (l : PlugLink) : Type 0 where
      joins : Joins l c g ⊎ Joins l g c
      is : touches rest l ≡ false

    record LinkEnds (l : PlugLink) : Type 0 where
      to : ToRest l ⊎ ToPart l
      apart : AllByRecursion (Distinct l) ls

    two_free : (l : PlugLink) → AllByRecursion (IsFree l.exit) ls → AllByRecursion (IsFree l.entry) ls → AllByRecursion (Distinct l) ls
    two_free l h k =
        each_both (IsFree l.exit) (IsFree l.entry) (Distinct l)
        (λ m x y. record { exits = λ e. x.0 (sym e); entries = λ e. y.1 (sym e); exit_entry = λ e. y.0 (sym e); entry_exit = λ e. x.1 (sym e) }) ls h k

    not_rest : (n : Name) (k : Kind) → c.kind_at n ≡ Some k → rest.kind_at n ≡ None
    not_rest = apart_none c rest cr

    leads_in : (l : PlugLink) (j : Joins l c (plug rest ls g)) → Outer rest g ls l.entry (Entry j.shape) → ToRest l ⊎ ToPart l
    leads_in l j o =
        elim o.kind [
          | inl e ↦ inl (record {
            joins = inl (record { shape = j.shape; exit = j.exit; entry = e });
            away = record { exit = apart_none c g cg l.exit (Exit j.shape) j.exit; entry = apart_none rest g can.apart l.entry (Entry j.shape) e };
            is = (λ i. is_some (or_else (not_rest l.exit (Exit j.shape) j.exit i) (e i)));
          })
          | inr e ↦ inr (record {
            joins = inl (record { shape = j.shape; exit = j.exit; entry = e.1 });
            is = (λ i. is_some (or_else (not_rest l.exit (Exit j.shape) j.exit i) (e.0 i)));
          })
        ]

    leads_out : (l : PlugLink) (j : Joins l (plug rest ls g) c) → Outer rest g ls l.exit (Exit j.shape) → ToRest l ⊎ ToPart l
    leads_out l j o =
        elim o.kind [
          | inl e ↦ inl (record {
            joins = inr (record { shape = j.shape; exit = e; entry = j.entry });
            away = record { exit = apart_none rest g can.apart l.exit (Exit j.shape) e; entry = apart_none c g cg l.entry (Entry j.shape) j.entry };
            is = (λ i. is_some (or_else (e i) (not_rest l.entry (Entry j.shape) j.entry i)));
          })
          | inr e ↦ inr (record {
            joins = inr (record { shape = j.shape; exit = e.1; entry = j.entry });
            is = (λ i. is_some (or_else (e.0 i) (not_rest l.entry (Entry j.shape) j.entry i)));
          })
        ]

    ends_of_link : (l : PlugLink) → Joins l c (plug rest ls g) ⊎ Joins l (plug rest ls g) c → LinkEnds l
    ends_of_link l (inl j) =
        let o = outer_end l.entry (Entry j.shape) tt j.entry in
        record { to = leads_in l j o; apart = two_free l (c_free l.exit (Exit j.shape) j.exit) o.free }
    ends_of_link l (inr j) =
        let o = outer_end l.exit (Exit j.shape) tt j.exit in
        record { to = leads_out l j o; apart = two_free l o.free (c_free l.entry (Entry j.shape) j.entry) }

    leads : AllByRecursion LinkEnds ms
    leads = each_map (λ l. Joins l c (plug rest ls g) ⊎ Joins l (plug rest ls g) c) LinkEnds ends_of_link ms cl.joins

    abbrev to_rest : List PlugLink
    to_rest = passing (touches rest) ms

    abbrev to_part : List PlugLink
    to_part = failing (touches rest) ms

    rest_links : AllByRecursion ToRest to_rest
    rest_links =
        each_passing ToRest (touches rest) ms
        (each_map LinkEnds (λ l. touches rest l ≡ true → ToRest l)
        (λ l h e. elim h.to [ inl x ↦ x | inr x ↦ absurd (true≢false (sym e ∙ x.is)) ]) ms leads)

    part_links : AllByRecursion ToPart to_part
    part_links =
        each_passing ToPart (λ l. not (touches rest l)) ms
        (each_map LinkEnds (λ l. not (touches rest l) ≡ true → ToPart l)
        (λ l h e. elim h.to [ inl x ↦ absurd (true≢false (sym e ∙ ap not x.is)) | inr x ↦ x ]) ms leads)

    distinct : AllByRecursion (λ l. AllByRecursion (Distinct l) ls) ms
    distinct = each_map LinkEnds (λ l. AllByRecursion (Distinct l) ls) (λ l h. h.apart) ms leads

    part_distinct : AllByRecursion (λ l. AllByRecursion (Distinct l) ls) to_part
    part_distinct =
        each_passing (λ l. AllByRecursion (Distinct l) ls) (λ l. not (touches rest l)) ms (each_map (λ l. AllByRecursion (Distinct l) ls) (λ l. not (touches rest l) ≡ true → AllByRecursion (Distinct l) ls) (λ l h e. h) ms distinct)

    rest_distinct : AllByRecursion (λ l. AllByRecursion (Distinct l) ls) to_rest
    rest_distinct =
        each_passing (λ l. AllByRecursion (Distinct l) ls) (touches rest) ms (each_map (λ l. AllByRecursion (Distinct l) ls) (λ l. touches rest l ≡ true → AllByRecursion (Distinct l) ls) (λ l h e. h) ms distinct)

    outside_distinct : AreDistinct ms
    outside_distinct = are_distinct (beside c (plug rest ls g)) ms cl.once (can_link_all c (plug rest ls g) ms tc (plug_typed rest g ls tr tg can) cl)

    can_rest : CanPlug c to_rest rest
    can_rest =
        record {
          apart = cr;
          joins = each_map ToRest (λ l. Joins l c rest ⊎ Joins l rest c) (λ l o. o.joins) to_rest rest_links;
          once = once_passing (touches rest) ms cl.once;
        }

    c_away : AllByRecursion (Away c) ls
    c_away =
        each_map (λ m. Joins m rest g ⊎ Joins m g rest) (Away c)
        (λ m j. elim j [
          | inl i ↦ record { exit = apart_none rest c (apart_sym c rest cr) m.exit (Exit i.shape) i.exit; entry = apart_none g c (apart_sym c g cg) m.entry (Entry i.shape) i.entry }
          | inr i ↦ record { exit = apart_none g c (apart_sym c g cg) m.exit (Exit i.shape) i.exit; entry = apart_none rest c (apart_sym c rest cr) m.entry (Entry i.shape) i.entry }
        ]) ls can.joins

    -- c around the whole is the part in the rest with c around it
    regrouped : plug c ms (plug rest ls g) ≡ plug (plug c to_rest rest) (to_part ++ ls) g
    regrouped =
        ap (link_all ms) (link_all_right ls c (beside rest g) tc c_away)
        ∙ link_all_swap ls ms (beside c (beside rest g)) distinct
        ∙ ap (link_all ls)
        (ap (link_all ms) (sym (beside_assoc c rest g)) ∙ split_links (touches rest) ms (beside (beside c rest) g) outside_distinct
        ∙ ap (link_all to_part) (sym (link_all_left to_rest (beside c rest) g tg (each_map ToRest (Away g) (λ l o. o.away) to_rest rest_links))))
        ∙ sym (link_all_append to_part ls (beside (plug c to_rest rest) g))

    around_apart : Apart (plug c to_rest rest) g
    around_apart n k m e f =
        let (i, h) = some_kind to_rest (beside c rest) can_rest.once (can_link_all c rest to_rest tc tr can_rest) n k e in
        elim (or_some (c.kind_at n) (rest.kind_at n) i h) [ inl x ↦ cg n i m x f | inr x ↦ can.apart n i m x.1 f ]

    free_exit : (m : PlugLink) → AllByRecursion (λ l. Distinct l m) to_rest → AllByRecursion (IsFree m.exit) to_rest
    free_exit m d = each_map (λ l. Distinct l m) (IsFree m.exit) (λ l x. (x.exits, x.exit_entry)) to_rest d

    free_entry : (m : PlugLink) → AllByRecursion (λ l. Distinct l m) to_rest → AllByRecursion (IsFree m.entry) to_rest
    free_entry m d = each_map (λ l. Distinct l m) (IsFree m.entry) (λ l x. (x.entry_exit, x.entries)) to_rest d

    around_rest : (n : Name) (k : Kind) → rest.kind_at n ≡ Some k → AllByRecursion (IsFree n) to_rest → (plug c to_rest rest).kind_at n ≡ Some k
    around_rest n k e free = kind_free to_rest (beside c rest) n free ∙ kind_of_right c rest cr tc tr n k e

    around_c : (n : Name) (k : Kind) → c.kind_at n ≡ Some k → AllByRecursion (IsFree n) to_rest → (plug c to_rest rest).kind_at n ≡ Some k
    around_c n k e free = kind_free to_rest (beside c rest) n free ∙ kind_left c rest n k e

    abbrev JoinsPart : PlugLink → Type 0
    JoinsPart m = Joins m (plug c to_rest rest) g ⊎ Joins m g (plug c to_rest rest)

    from_rest : (m : PlugLink) → Joins m rest g ⊎ Joins m g rest → AllByRecursion (λ l. Distinct l m) to_rest → JoinsPart m
    from_rest m (inl j) d = inl (record { shape = j.shape; exit = around_rest m.exit (Exit j.shape) j.exit (free_exit m d); entry = j.entry })
    from_rest m (inr j) d = inr (record { shape = j.shape; exit = j.exit; entry = around_rest m.entry (Entry j.shape) j.entry (free_entry m d) })

    from_c : (m : PlugLink) → Joins m c g ⊎ Joins m g c → AllByRecursion (λ l. Distinct l m) to_rest → JoinsPart m
    from_c m (inl j) d = inl (record { shape = j.shape; exit = around_c m.exit (Exit j.shape) j.exit (free_exit m d); entry = j.entry })
    from_c m (inr j) d = inr (record { shape = j.shape; exit = j.exit; entry = around_c m.entry (Entry j.shape) j.entry (free_entry m d) })

    part_joins : AllByRecursion JoinsPart to_part
    part_joins =
        each_both ToPart (λ m. AllByRecursion (Distinct m) to_rest) JoinsPart (λ m o d. from_c m o.joins (distinct_back m to_rest d))
        to_part part_links (failing_apart (touches rest) ms outside_distinct)

    rest_joins : AllByRecursion JoinsPart ls
    rest_joins =
        each_both (λ m. Joins m rest g ⊎ Joins m g rest) (λ m. AllByRecursion (λ l. Distinct l m) to_rest) JoinsPart from_rest
        ls can.joins (each_swap Distinct ls to_rest rest_distinct)

    can_around : CanPlug (plug c to_rest rest) (to_part ++ ls) g
    can_around =
        record {
          apart = around_apart;
          joins = each_append JoinsPart to_part ls part_joins rest_joins;
          once = once_append to_part ls (once_passing (λ l. not (touches rest l)) ms cl.once) can.once part_distinct;
        }

-- a circuit refined in a part is refined
module _ (rest new old : Circuit) (ls : List PlugLink) (tr : Typed rest) (cn : CanPlug rest ls new) (co : CanPlug rest ls old) (r : Refines new old) where
  whole_new : Typed (plug rest ls new)
  whole_new = plug_typed rest new ls tr r.new_typed cn

  whole_old : Typed (plug rest ls old)
  whole_old = plug_typed rest old ls tr r.old_typed co

  to_old : (n : Name) (k : Kind) → IsEnd k → (new.kind_at n ≡ Some k → old.kind_at n ≡ Some k) → (plug rest ls new).kind_at n ≡ Some k → (plug rest ls old).kind_at n ≡ Some k
  to_old n k end same e =
      let o = outer_end rest new ls tr r.new_typed cn n k end e in
      elim o.kind [ inl f ↦ rest_end rest old ls tr r.old_typed co n k f o.free | inr f ↦ part_end rest old ls tr r.old_typed co n k (same f.1) o.free ]

  to_new : (n : Name) (k : Kind) → IsEnd k → (old.kind_at n ≡ Some k → new.kind_at n ≡ Some k) → (plug rest ls old).kind_at n ≡ Some k → (plug rest ls new).kind_at n ≡ Some k
  to_new n k end same e =
      let o = outer_end rest old ls tr r.old_typed co n k end e in
      elim o.kind [ inl f ↦ rest_end rest new ls tr r.new_typed cn n k f o.free | inr f ↦ part_end rest new ls tr r.new_typed cn n k (same f.1) o.free ]

  part_ports : SamePorts (plug rest ls new) (plug rest ls old)
  part_ports =
      record {
        entries = λ n a. (to_old n (Entry a) tt (r.ports.entries n a).0, to_new n (Entry a) tt (r.ports.entries n a).1);
        exits = λ n a. (to_old n (Exit a) tt (r.ports.exits n a).0, to_new n (Exit a) tt (r.ports.exits n a).1);
      }

  bound : ℕ
  bound = tr.names.0 + (r.new_typed.names.0 + r.old_typed.names.0)

  part_shows : (c : Circuit) (ms : List PlugLink) (t : List Move) → Typed c → CanPlug c ms (plug rest ls new) → CanPlug c ms (plug rest ls old) → IsLong bound c → Shows (plug c ms (plug rest ls new)) t → Shows (plug c ms (plug rest ls old)) t
  unfolding bound
  part_shows c ms t tc hn ho long sh =
      let cr : Apart c rest = long_apart c rest bound long (λ n k e. omega (arith, tr.names.1 n k e)) in
      let an : Apart c new = long_apart c new bound long (λ n k e. omega (arith, r.new_typed.names.1 n k e)) in
      let ao : Apart c old = long_apart c old bound long (λ n k e. omega (arith, r.old_typed.names.1 n k e)) in
      let around : Circuit = plug c (passing (touches rest) ms) rest in
      let ty : Typed around = plug_typed c rest (passing (touches rest) ms) tc tr (can_rest rest new ls tr r.new_typed cn c ms tc hn cr an) in
      subst (λ z. Shows z t) (sym (regrouped rest old ls tr r.old_typed co c ms tc ho cr ao))
      (r.shows around (failing (touches rest) ms ++ ls) t ty (can_around rest new ls tr r.new_typed cn c ms tc hn cr an) (can_around rest old ls tr r.old_typed co c ms tc ho cr ao)
      (subst (λ z. Shows z t) (regrouped rest new ls tr r.new_typed cn c ms tc hn cr an) sh))

  part_refines : Refines (plug rest ls new) (plug rest ls old)
  part_refines = refines_of_long (plug rest ls new) (plug rest ls old) whole_new whole_old part_ports bound part_shows

-- what has the same Entries and Exits can be plugged in the same way
fits_too : (c h g : Circuit) → SamePorts h g → (l : PlugLink) → Joins l c g ⊎ Joins l g c → Joins l c h ⊎ Joins l h c
fits_too c h g same l (inl j) = inl (record { shape = j.shape; exit = j.exit; entry = (same.entries l.entry j.shape).1 j.entry })
fits_too c h g same l (inr j) = inr (record { shape = j.shape; exit = (same.exits l.exit j.shape).1 j.exit; entry = j.entry })

pub whole_refines : WholeRefines
whole_refines rest new old ls typed can apart refines =
    let joins = each_map _ (λ l. Joins l rest new ⊎ Joins l new rest) (fits_too rest new old refines.ports) ls can.joins in
    part_refines rest new old ls typed (record { apart = apart; joins = joins; once = can.once }) can refines
