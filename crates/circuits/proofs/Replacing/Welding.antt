-- The circuit without the part, plugged to what replaces the part and without the Buffers of the links, is the circuit with the part replaced.
use Rattle.std.proofs.Common.{◌≡◌, ◌≢◌, ℕ, ◌<◌, ◌⊎◌, inl, inr, refl, sym, ap, subst, ◌∙◌, true, false, Bool, bytes_eq, if◌then◌else◌, List, [], ◌∷◌, length, Option, Some, None, arith, true≢false}
use Rattle.std.specs.List.{AllByRecursion}
use Rattle.std.proofs.lemmas.Option.{same_Some}
use Rattle.components.specs.declared.kind.Kind.{Kind}
use Rattle.components.specs.declared.kind.Kind.TheVariants.{Entry, Exit, Buffer}
use Rattle.components.specs.Name.{Name, Port, port_get}
use Rattle.components.specs.Kind.{Shape, outs}
use Rattle.components.specs.Numbered.{single_port}
use Rattle.circuits.specs.Circuit.{Circuit, Typed}
use Rattle.circuits.specs.Plug.{PlugLink, link, link_all, as_buffer, plug, beside, or_else, Apart, Joins, UsesNoneTwice, CanPlug}
use Rattle.circuits.specs.Refines.{SamePorts}
use Rattle.circuits.specs.Buffers.{first_port, drop_all}
use Rattle.circuits.specs.Replacing.{is_inner, is_entry, follow, outside, crossing, replaced, IsEnd, In, In.head, In.tail, NoneTwice, Ends}
use Rattle.circuits.proofs.Linking.{kind_exit, kind_entry}
use Rattle.circuits.proofs.Beside.{none_some, unfed}
use Rattle.circuits.proofs.Renaming.{circuit_same}
use Rattle.circuits.proofs.Plugging.Typed.{kind_of_right, feeder_left, feeder_right}
use Rattle.circuits.proofs.Plugging.Links.{CanLinkAt, still_at, can_link_all, plug_typed, IsFree, kind_free}
use Rattle.circuits.proofs.Buffers.Steps.{buffer_plain}
use Rattle.circuits.proofs.Buffers.Several.{NotIn, in_not, Chase, stop, back, CanDropAll, feeder_of_chase, kind_of_kept, kind_of_dropped, gone_stays, drop_all_typed}
use Rattle.circuits.proofs.Replacing.Sorts.{View, entry, exit, inner, view, bool_cases, inner_no_entry, end_not_inner}
use Rattle.circuits.proofs.Replacing.LongNames.{lengthen, shorten, lengthen_length, shorten_some, shorten_none}
use Rattle.circuits.proofs.Replacing.Cutting.{Cut, flip, rest_of, rest_kind, RestNode, was_entry, was_exit, stays, rest_node, rest_typed, kind_end, feeder_into, feeder_out, feeder_kept, inner_of, into_exit, exit_port, inner_input, inner_output, plain_name}
use Rattle.circuits.proofs.Replacing.EndLinks.{link_of, links_of, exits_of, Point, exit_point, entry_point, points_apart, NoPoint, no_point_free, no_point_exits, other_points, point_cases, redirect_all, feeder_linked, redirect_free, redirect_end, in_exits, of_exits}

-- m can stand in the place of left
pub record FitsIn (g left m : Circuit) (size : ℕ) : Type 0 where
  pub typed : Typed m
  pub ports : SamePorts m left
  pub short : (n : Name) (k : Kind) → m.kind_at n ≡ Some k → length n < size
  pub new : (n : Name) (k : Kind) → m.kind_at n ≡ Some k → is_inner (Some k) ≡ true → (g.kind_at n ≡ None) ⊎ (is_inner (left.kind_at n) ≡ true)

module _ (g left m : Circuit) (target : Port → Option Port) (size : ℕ) (ends : List Name) (h : Cut g left target size) (es : Ends left ends) (f : FitsIn g left m size) where
  abbrev rest : Circuit
  rest = rest_of g left target size

  abbrev ls : List PlugLink
  ls = links_of size left ends

  abbrev xs : List Name
  xs = exits_of size left ends

  ends_short : (n : Name) → In n ends → length n < size
  ends_short n i = let (k, end, e) = es.are n i in h.short_part n k e

  end_of_left_at : (n : Name) (k : Kind) → View k → m.kind_at n ≡ Some k → is_inner (Some k) ≡ false → (j : Kind) × IsEnd j × (left.kind_at n ≡ Some j)
  end_of_left_at n _ (entry a) e o = (Entry a, tt, (f.ports.entries n a).0 e)
  end_of_left_at n _ (exit a) e o = (Exit a, tt, (f.ports.exits n a).0 e)
  end_of_left_at n k (inner i) e o = absurd (true≢false (sym i ∙ o))

  end_of_left : (n : Name) (k : Kind) → m.kind_at n ≡ Some k → is_inner (Some k) ≡ false → (j : Kind) × IsEnd j × (left.kind_at n ≡ Some j)
  end_of_left n k e o = end_of_left_at n k (view k) e o

  long_not : (n j : Name) → length n < size → n ≡ lengthen size j → ⊥
  long_not n j s e = let same : length n ≡ length (lengthen size j) = ap length e in omega (arith, same, lengthen_length size j, s)

  rest_apart_at : (n : Name) (k j : Kind) → RestNode g left target size h n k → m.kind_at n ≡ Some j → ⊥
  rest_apart_at n k j (was_entry x a is e ek) ej = long_not n x (f.short n j ej) is
  rest_apart_at n k j (was_exit x a is e ek) ej = long_not n x (f.short n j ej) is
  rest_apart_at n k j (stays u o ge) ej =
      elim (bool_cases (is_inner (Some j))) [
        | inl i ↦ elim (f.new n j ej i) [ inl none ↦ none_some (g.kind_at n) k none ge | inr il ↦ true≢false (sym il ∙ o) ]
        | inr no_i ↦
            let (x, end, ex) = end_of_left n j ej no_i in none_some (g.kind_at n) k (h.fresh n x ex (end_not_inner x end)) ge
      ]

  rest_apart : Apart rest m
  rest_apart n k j e ej = rest_apart_at n k j (rest_node g left target size h n k e) ej

  one_joins : (n : Name) (k : Kind) → IsEnd k → left.kind_at n ≡ Some k → Joins (link_of size (left.kind_at n) n) rest m ⊎ Joins (link_of size (left.kind_at n) n) m rest
  one_joins n (Entry a) end e =
      inl (subst (λ o. Joins (link_of size o n) rest m) (sym e)
      (record { shape = a; exit = kind_end g left target size h n ∙ ap flip e; entry = (f.ports.entries n a).1 e }))
  one_joins n (Exit a) end e =
      inr (subst (λ o. Joins (link_of size o n) m rest) (sym e)
      (record { shape = a; exit = (f.ports.exits n a).1 e; entry = kind_end g left target size h n ∙ ap flip e }))
  one_joins n _ end e = absurd end

  all_joins : (ns : List Name) → ((n : Name) → In n ns → (k : Kind) × IsEnd k × (left.kind_at n ≡ Some k)) → AllByRecursion (λ l. Joins l rest m ⊎ Joins l m rest) (links_of size left ns)
  all_joins [] w = tt
  all_joins (n ∷ ns) w = let (k, end, e) = w n (head refl) in (one_joins n k end e, all_joins ns (λ x i. w x (tail i)))

  others_apart : (n : Name) (ns : List Name) → length n < size → ((x : Name) → In x ns → length x < size) → NotIn n ns → AllByRecursion (λ l. (l.exit ≢ (link_of size (left.kind_at n) n).exit) × (l.entry ≢ (link_of size (left.kind_at n) n).entry)) (links_of size left ns)
  others_apart n [] hn hs away = tt
  others_apart n (x ∷ ns) hn hs away = (
    (
      (λ e. points_apart size n x _ _ hn (hs x (head refl)) away.0 (exit_point size (left.kind_at n) n) (exit_point size (left.kind_at x) x) (sym e)),
      (λ e. points_apart size n x _ _ hn (hs x (head refl)) away.0 (entry_point size (left.kind_at n) n) (entry_point size (left.kind_at x) x) (sym e)),
    ),
    others_apart n ns hn (λ y i. hs y (tail i)) away.1,
  )

  none_twice : (ns : List Name) → ((x : Name) → In x ns → length x < size) → NoneTwice ns → UsesNoneTwice (links_of size left ns)
  none_twice [] hs once = tt
  none_twice (n ∷ ns) hs once = (others_apart n ns (hs n (head refl)) (λ y i. hs y (tail i)) once.0, none_twice ns (λ y i. hs y (tail i)) once.1)

  pub can : CanPlug rest ls m
  can = record { apart = rest_apart; joins = all_joins ends es.are; once = none_twice ends ends_short es.once }

  rest_ty : Typed rest
  rest_ty = rest_typed g left target size h

  abbrev whole : Circuit
  whole = plug rest ls m

  -- the names of inner nodes, and those of g, are no names of links
  m_end : (n : Name) (x : Kind) → IsEnd x → left.kind_at n ≡ Some x → m.kind_at n ≡ Some x
  m_end n (Entry a) end e = (f.ports.entries n a).1 e
  m_end n (Exit a) end e = (f.ports.exits n a).1 e
  m_end n _ end e = absurd end

  m_no_point : (n : Name) (j : Kind) → m.kind_at n ≡ Some j → is_inner (Some j) ≡ true → NoPoint size ends n
  m_no_point n j e i =
      elim (point_cases size ends n) [
        | inl p ↦
            elim p.2 [
              | inl is ↦
                  let (x, end, ex) = es.are p.0 p.1 in
                  let same : j ≡ x = same_Some j x (sym e ∙ ap m.kind_at is ∙ m_end p.0 x end ex) in
                  absurd (true≢false (sym i ∙ ap (λ z. is_inner (Some z)) same ∙ end_not_inner x end))
              | inr is ↦ absurd (long_not n p.0 (f.short n j e) is)
            ]
        | inr none ↦ none
      ]

  g_no_point : (n : Name) (j : Kind) → g.kind_at n ≡ Some j → NoPoint size ends n
  g_no_point n j e =
      elim (point_cases size ends n) [
        | inl p ↦
            elim p.2 [
              | inl is ↦
                  let (x, end, ex) = es.are p.0 p.1 in
                  absurd (none_some (g.kind_at n) j (ap g.kind_at is ∙ h.fresh p.0 x ex (end_not_inner x end)) e)
              | inr is ↦ absurd (long_not n p.0 (h.short n j e) is)
            ]
        | inr none ↦ none
      ]

  left_no_point : (n : Name) → is_inner (left.kind_at n) ≡ true → NoPoint size ends n
  left_no_point n i = let (j, e, ij) = inner_of g left target size h n i in g_no_point n j (h.nodes n j e ij)

  -- the wires of the plugged circuit
  whole_m : (p r : Port) → m.feeder p ≡ Some r → whole.feeder p ≡ redirect_all ls (Some r)
  whole_m p r e = feeder_linked ls (beside rest m) p ∙ ap (redirect_all ls) (feeder_right rest m rest_apart rest_ty f.typed p r e)

  whole_rest : (p r : Port) → rest.feeder p ≡ Some r → whole.feeder p ≡ redirect_all ls (Some r)
  whole_rest p r e = feeder_linked ls (beside rest m) p ∙ ap (redirect_all ls) (feeder_left rest m rest_apart rest_ty f.typed p r e)

  stop_at : (p q : Port) → whole.feeder p ≡ redirect_all ls (Some q) → NoPoint size ends q.node → Chase whole xs q p
  stop_at p q e none = stop (e ∙ redirect_free ls q (no_point_free size left ends q.node none)) (no_point_exits size left ends q.node none)

  -- the walk back from the Exit of the rest that stands for an Entry of left
  chase_entry : (n : Name) (a : Shape) (t q : Port) → left.kind_at n ≡ Some (Entry a) → left.feeder t ≡ Some (first_port n) → g.feeder t ≡ Some q → Chase whole xs q (first_port (lengthen size n))
  chase_entry n a t q e lf gf =
      let v = h.whole.wires t q gf in
      stop_at (first_port (lengthen size n)) q (whole_rest (first_port (lengthen size n)) q (feeder_into g left target size h n 1 a t e lf ∙ gf)) (g_no_point q.node v.from v.is_from)

  record Chased (p r : Port) : Type 0 where
    to : Port
    chase : Chase whole xs to p
    is : outside g m target (Some r) ≡ Some to

  chase_m_at : (p r : Port) → m.feeder p ≡ Some r → (j : Kind) → View j → m.kind_at r.node ≡ Some j → Chased p r
  chase_m_at p r mf j (inner i) e =
      record {
        to = r;
        chase = stop_at p r (whole_m p r mf) (m_no_point r.node j e i);
        is = ap (λ b. if b then follow g (target r) else Some r) (ap is_entry e ∙ inner_no_entry j i);
      }
  chase_m_at p r mf _ (exit a) e =
      let w = f.typed.wires p r mf in
      let z : None ≡ Some w.shape = ap (λ x. port_get (outs x) r.port) (same_Some (Exit a) w.from (sym e ∙ w.is_from)) ∙ w.leaves in
      cc
  chase_m_at p r mf _ (entry a) e =
      let w = f.typed.wires p r mf in
      let first : r.port ≡ 1 = single_port a w.shape r.port (ap (λ x. port_get (outs x) r.port) (same_Some (Entry a) w.from (sym e ∙ w.is_from)) ∙ w.leaves) in
      let el : left.kind_at r.node ≡ Some (Entry a) = (f.ports.entries r.node a).0 e in
      let i : In r.node ends = es.all r.node (Entry a) tt el in
      let (t, lf) = h.part.outputs (first_port r.node) (Entry a) a el refl in
      let (q, gf) = inner_input g left target size h t (first_port r.node) a lf el in
      let here : r ≡ first_port r.node = λ x. record { node = r.node; port = first x } in
      let goes : whole.feeder p ≡ Some (record { node = lengthen size r.node; port = r.port }) =
      whole_m p r mf ∙ redirect_end size left ends es.once ends_short r.node i r (sym (ap (λ o. (link_of size o r.node).entry) el))
      ∙ ap (λ o. Some (record { node = (link_of size o r.node).exit; port = r.port })) el in
      record {
        to = q;
        chase = back (record { node = lengthen size r.node; port = r.port }) goes
            (subst (λ z. In z xs) (ap (λ o. (link_of size o r.node).exit) el) (in_exits size left ends r.node i))
            (chase_entry r.node a t q el lf gf);
        is = ap (λ b. if b then follow g (target r) else Some r) (ap is_entry e) ∙ ap (follow g) (h.to t r (lf ∙ ap Some (sym here))) ∙ gf;
      }

  chase_m : (p r : Port) → m.feeder p ≡ Some r → Chased p r
  chase_m p r mf = let w = f.typed.wires p r mf in chase_m_at p r mf w.from (view w.from) w.is_from

  -- the walk back from an Exit of m
  chase_exit : (n : Name) (a : Shape) → left.kind_at n ≡ Some (Exit a) → (r : Port) × (m.feeder (first_port n) ≡ Some r)
  chase_exit n a e = f.typed.inputs (first_port n) (Exit a) a ((f.ports.exits n a).1 e) refl

  record Crossed (p q : Port) : Type 0 where
    to : Port
    chase : Chase whole xs to p
    is : crossing g left m target (Some q) ≡ Some to

  chase_rest : (p q : Port) → g.feeder p ≡ Some q → is_inner (left.kind_at p.node) ≡ false → Crossed p q
  chase_rest p q gf o =
      let u : shorten size p.node ≡ None = plain_name g left target size h p q gf in
      let v = h.whole.wires p q gf in
      elim (bool_cases (is_inner (left.kind_at q.node))) [
        | inl i ↦
            let (t, lf) = inner_output g left target size h p q gf i in
            let (a, et) = into_exit g left target size h p q t gf o i lf in
            let here : t ≡ first_port t.node = λ x. record { node = t.node; port = exit_port g left target size h t q a lf et x } in
            let (r, mf) = chase_exit t.node a et in
            let c = chase_m (first_port t.node) r mf in
            let it : In t.node ends = es.all t.node (Exit a) tt et in
            let goes : whole.feeder p ≡ Some (first_port t.node) =
            whole_rest p (first_port (lengthen size t.node)) (feeder_out g left target size h p q t u o gf i lf)
            ∙ redirect_end size left ends es.once ends_short t.node it (first_port (lengthen size t.node)) (sym (ap (λ o. (link_of size o t.node).entry) et))
            ∙ ap (λ o. Some (record { node = (link_of size o t.node).exit; port = 1 })) et in
            record {
              to = c.to;
              chase = back (first_port t.node) goes (subst (λ z. In z xs) (ap (λ o. (link_of size o t.node).exit) et) (in_exits size left ends t.node it)) c.chase;
              is = ap (λ b. if b then outside g m target (follow m (target q)) else Some q) i
                  ∙ ap (λ z. outside g m target (follow m z)) (h.to t q lf) ∙ ap (λ z. outside g m target (m.feeder z)) here ∙ ap (outside g m target) mf ∙ c.is;
            }
        | inr n ↦
            record {
              to = q;
              chase = stop_at p q (whole_rest p q (feeder_kept g left target size h p q u o gf n)) (g_no_point q.node v.from v.is_from);
              is = ap (λ b. if b then outside g m target (follow m (target q)) else Some q) n;
            }
      ]

  -- the Exits of the links have become Buffers, which can be dropped
  none_linked : (ks : List PlugLink) (c : Circuit) (n : Name) → c.kind_at n ≡ None → (link_all ks c).kind_at n ≡ None
  none_linked [] c n e = e
  none_linked (l ∷ ks) c n e =
      none_linked ks (link l c) n
      (ap (λ z. if bytes_eq n l.entry then None else (if bytes_eq n l.exit then as_buffer z else z)) e ∙ both_none (bytes_eq n l.entry) (bytes_eq n l.exit))
    where
      both_none : (a b : Bool) → (if a then None else (if b then as_buffer None else None)) ≡ None
      both_none true b = refl
      both_none false true = refl
      both_none false false = refl

  free_of_others : (n : Name) (ns : List Name) (x : Name) → length n < size → ((y : Name) → In y ns → length y < size) → NotIn n ns → Point size n x → AllByRecursion (IsFree x) (links_of size left ns)
  free_of_others n ns x hn hs away p = no_point_free size left ns x (other_points size n ns x hn hs away p)

  buffer_at : (ns : List Name) (c : Circuit) → NoneTwice ns → ((y : Name) → In y ns → length y < size) → AllByRecursion (CanLinkAt c) (links_of size left ns) → (n : Name) → In n ns → (a : Shape) × ((link_all (links_of size left ns) c).kind_at (link_of size (left.kind_at n) n).exit ≡ Some (Buffer a))
  buffer_at [] c once hs w n i = elim i [ ]
  buffer_at (y ∷ ns) c once hs w n (head is) =
      let l : PlugLink = link_of size (left.kind_at y) y in (
        w.0.0,
        ap (λ z. (link_all (links_of size left (y ∷ ns)) c).kind_at (link_of size (left.kind_at z) z).exit) is
            ∙ kind_free (links_of size left ns) (link l c) l.exit (free_of_others y ns l.exit (hs y (head refl)) (λ x i. hs x (tail i)) once.0 (exit_point size (left.kind_at y) y))
            ∙ kind_exit l c w.0.0 w.0.1,
      )
  buffer_at (y ∷ ns) c once hs w n (tail i) =
      let l : PlugLink = link_of size (left.kind_at y) y in
      buffer_at ns (link l c) once.1 (λ x j. hs x (tail j))
      (still_at l c w.0 (links_of size left ns) (others_apart y ns (hs y (head refl)) (λ x j. hs x (tail j)) once.0) w.1) n i

  entry_at : (ns : List Name) (c : Circuit) (n : Name) → In n ns → (link_all (links_of size left ns) c).kind_at (link_of size (left.kind_at n) n).entry ≡ None
  entry_at [] c n i = elim i [ ]
  entry_at (y ∷ ns) c n (head is) =
      let l : PlugLink = link_of size (left.kind_at y) y in
      ap (λ z. (link_all (links_of size left (y ∷ ns)) c).kind_at (link_of size (left.kind_at z) z).entry) is
      ∙ none_linked (links_of size left ns) (link l c) l.entry (kind_entry l c)
  entry_at (y ∷ ns) c n (tail i) = entry_at ns (link (link_of size (left.kind_at y) y) c) n i

  exits_apart : (x : Name) (n : Name) (ns : List Name) → length n < size → ((y : Name) → In y ns → length y < size) → NotIn n ns → Point size n x → NotIn x (exits_of size left ns)
  exits_apart x n ns hn hs away p = no_point_exits size left ns x (other_points size n ns x hn hs away p)

  exits_once : (ns : List Name) → ((y : Name) → In y ns → length y < size) → NoneTwice ns → NoneTwice (exits_of size left ns)
  exits_once [] hs once = tt
  exits_once (n ∷ ns) hs once = (
    exits_apart (link_of size (left.kind_at n) n).exit n ns (hs n (head refl)) (λ y i. hs y (tail i)) once.0 (exit_point size (left.kind_at n) n),
    exits_once ns (λ y i. hs y (tail i)) once.1,
  )

  end_chase : (n : Name) (j : Kind) → IsEnd j → left.kind_at n ≡ Some j → (q : Port) × Chase whole xs q (first_port ((link_of size (left.kind_at n) n).exit))
  end_chase n (Entry a) end e =
      let (t, lf) = h.part.outputs (first_port n) (Entry a) a e refl in
      let (q, gf) = inner_input g left target size h t (first_port n) a lf e in
      (q, subst (λ o. Chase whole xs q (record { node = (link_of size o n).exit; port = 1 })) (sym e) (chase_entry n a t q e lf gf))
  end_chase n (Exit a) end e =
      let (r, mf) = chase_exit n a e in
      let c = chase_m (first_port n) r mf in
      (c.to, subst (λ o. Chase whole xs c.to (record { node = (link_of size o n).exit; port = 1 })) (sym e) c.chase)
  end_chase n _ end e = absurd end

  pub can_drop : CanDropAll xs whole
  can_drop =
      record {
        plain = λ b i.
            let (n, j, e) = of_exits size left ends b i in
            let (a, eb) = buffer_at ends (beside rest m) es.once ends_short (can_link_all rest m ls rest_ty f.typed can) n j in
            (Buffer a, a, ap whole.kind_at e ∙ eb, buffer_plain a);
        ends = λ b i.
            let (n, j, e) = of_exits size left ends b i in
            let (x, end, ex) = es.are n j in
            let (q, ch) = end_chase n x end ex in
            (q, subst (λ z. Chase whole xs q (first_port z)) (sym e) ch);
        once = exits_once ends ends_short es.once;
      }

  abbrev welded : Circuit
  welded = drop_all xs whole

  -- the nodes of what is left are those of the circuit with the part replaced
  kind_plain : (n : Name) → NoPoint size ends n → welded.kind_at n ≡ (beside rest m).kind_at n
  kind_plain n none = kind_of_kept xs whole can_drop n (no_point_exits size left ends n none) ∙ kind_free ls (beside rest m) n (no_point_free size left ends n none)

  point_gone_at : (n x : Name) (j : Kind) → In n ends → IsEnd j → left.kind_at n ≡ Some j → Point size n x → welded.kind_at x ≡ None
  point_gone_at n x (Entry a) i end e (inl is) =
      gone_stays xs whole x (ap whole.kind_at (is ∙ sym (ap (λ o. (link_of size o n).entry) e)) ∙ entry_at ends (beside rest m) n i)
  point_gone_at n x (Entry a) i end e (inr is) =
      kind_of_dropped xs whole can_drop x (subst (λ z. In z xs) (sym (is ∙ sym (ap (λ o. (link_of size o n).exit) e))) (in_exits size left ends n i))
  point_gone_at n x (Exit a) i end e (inl is) =
      kind_of_dropped xs whole can_drop x (subst (λ z. In z xs) (sym (is ∙ sym (ap (λ o. (link_of size o n).exit) e))) (in_exits size left ends n i))
  point_gone_at n x (Exit a) i end e (inr is) =
      gone_stays xs whole x (ap whole.kind_at (is ∙ sym (ap (λ o. (link_of size o n).entry) e)) ∙ entry_at ends (beside rest m) n i)
  point_gone_at n x _ i end e p = absurd end

  point_gone : (n x : Name) → In n ends → Point size n x → welded.kind_at x ≡ None
  point_gone n x i p = let (j, end, e) = es.are n i in point_gone_at n x j i end e p

  long_none_at : (n x : Name) → n ≡ lengthen size x → (o : Option Kind) → g.kind_at n ≡ o → g.kind_at n ≡ None
  long_none_at n x is None e = e
  long_none_at n x is (Some k) e = absurd (long_not n x (h.short n k e) is)

  point_none : (n x : Name) → In n ends → Point size n x → g.kind_at x ≡ None
  point_none n x i (inl is) = let (j, end, e) = es.are n i in ap g.kind_at is ∙ h.fresh n j e (end_not_inner j end)
  point_none n x i (inr is) = long_none_at x n is (g.kind_at x) refl

  m_none_at : (n : Name) → NoPoint size ends n → is_inner (m.kind_at n) ≡ false → (o : Option Kind) → m.kind_at n ≡ o → m.kind_at n ≡ None
  m_none_at n none no_m None e = e
  m_none_at n none no_m (Some j) e =
      let (x, end, ex) = end_of_left n j e (sym (ap is_inner e) ∙ no_m) in absurd (in_no_point n (es.all n x end ex) none)
    where
      in_no_point : (y : Name) → In y ends → NoPoint size ends y → ⊥
      in_no_point y i np = go ends i np
        where
          go : (ns : List Name) → In y ns → NoPoint size ns y → ⊥
          go [] i2 np2 = elim i2 [ ]
          go (z ∷ zz) (head is) np2 = np2.0 (inl is)
          go (z ∷ zz) (tail i2) np2 = go zz i2 np2.1

  m_none : (n : Name) → NoPoint size ends n → is_inner (m.kind_at n) ≡ false → m.kind_at n ≡ None
  m_none n none no_m = m_none_at n none no_m (m.kind_at n) refl

  some_of : (o : Option Kind) → is_inner o ≡ true → (j : Kind) × (o ≡ Some j) × (is_inner (Some j) ≡ true)
  some_of None e = absurd (true≢false (sym e))
  some_of (Some j) e = (j, refl, e)

  flip_none : (x : Name) → NotIn x ends → (o : Option Kind) → left.kind_at x ≡ o → flip o ≡ None
  flip_none x away None e = refl
  flip_none x away (Some (Entry a)) e = absurd (in_not x ends (es.all x (Entry a) tt e) away)
  flip_none x away (Some (Exit a)) e = absurd (in_not x ends (es.all x (Exit a) tt e) away)
  flip_none x away (Some _) e = refl

  not_in_of_point : (x n : Name) (ns : List Name) → n ≡ lengthen size x → NoPoint size ns n → NotIn x ns
  not_in_of_point x n [] is none = tt
  not_in_of_point x n (y ∷ ns) is none = ((λ e. none.0 (inr (is ∙ ap (lengthen size) e))), not_in_of_point x n ns is none.1)

  rest_none : (n : Name) → NoPoint size ends n → is_inner (left.kind_at n) ≡ false → (o : Option Name) → shorten size n ≡ o → rest.kind_at n ≡ g.kind_at n
  rest_none n none no_l None u =
      ap (λ z. rest_kind g left target size z n) u ∙ ap (λ b. if b then None else g.kind_at n) no_l
  rest_none n none no_l (Some x) u =
      ap (λ z. rest_kind g left target size z n) u ∙ flip_none x (not_in_of_point x n ends (shorten_some size n x u) none) (left.kind_at x) refl
      ∙ sym (long_none_at n x (shorten_some size n x u) (g.kind_at n) refl)

  kind_m : (n : Name) → is_inner (m.kind_at n) ≡ true → welded.kind_at n ≡ m.kind_at n
  kind_m n i =
      let (j, e, ij) = some_of (m.kind_at n) i in
      kind_plain n (m_no_point n j e ij) ∙ kind_of_right rest m rest_apart rest_ty f.typed n j e ∙ sym e

  kind_out : (n : Name) → is_inner (m.kind_at n) ≡ false → is_inner (left.kind_at n) ≡ false → welded.kind_at n ≡ g.kind_at n
  kind_out n no_m no_l =
      elim (point_cases size ends n) [
        | inl p ↦ point_gone p.0 n p.1 p.2 ∙ sym (point_none p.0 n p.1 p.2)
        | inr none ↦
            kind_plain n none ∙ (λ x. or_else (rest_none n none no_l (shorten size n) refl x) (m_none n none no_m x)) ∙ or_none (g.kind_at n)
      ]
    where
      or_none : (o : Option Kind) → or_else o None ≡ o
      or_none None = refl
      or_none (Some x) = refl

  kind_left_gone : (n : Name) → is_inner (m.kind_at n) ≡ false → is_inner (left.kind_at n) ≡ true → welded.kind_at n ≡ None
  kind_left_gone n no_m il =
      let (j, e, ij) = inner_of g left target size h n il in
      let short : length n < size = h.short_part n j e in
      kind_plain n (left_no_point n il)
      ∙ (λ x. or_else (rest_kind g left target size (shorten_none size n short x) n) (m_none n (left_no_point n il) no_m x))
      ∙ ap (λ b. or_else (if b then None else g.kind_at n) None) il

  new_kind : (n : Name) (a b : Bool) → is_inner (m.kind_at n) ≡ a → is_inner (left.kind_at n) ≡ b → welded.kind_at n ≡ (if a then m.kind_at n else (if b then None else g.kind_at n))
  new_kind n true b im il = kind_m n im
  new_kind n false true im il = kind_left_gone n im il
  new_kind n false false im il = kind_out n im il

  -- and so are its wires
  welded_typed : Typed welded
  welded_typed = drop_all_typed xs whole can_drop (plug_typed rest m ls rest_ty f.typed can)

  no_feeder_at : (p : Port) (c : Circuit) → Typed c → welded.kind_at p.node ≡ c.kind_at p.node → c.feeder p ≡ None → (o : Option Port) → welded.feeder p ≡ o → welded.feeder p ≡ None
  no_feeder_at p c ty same none None e = e
  no_feeder_at p c ty same none (Some q) e =
      let w = welded_typed.wires p q e in
      let (r, fr) = ty.inputs p w.to w.shape (sym same ∙ w.is_to) w.enters in
      absurd (none_some (c.feeder p) r none fr)

  feeder_m_at : (p : Port) → is_inner (m.kind_at p.node) ≡ true → (o : Option Port) → m.feeder p ≡ o → welded.feeder p ≡ outside g m target o
  feeder_m_at p i None e = no_feeder_at p m f.typed (kind_m p.node i) e (welded.feeder p) refl
  feeder_m_at p i (Some r) e =
      let c = chase_m p r e in
      let (j, ej, ij) = some_of (m.kind_at p.node) i in
      feeder_of_chase xs whole can_drop c.to p c.chase (no_point_exits size left ends p.node (m_no_point p.node j ej ij)) ∙ sym c.is

  feeder_out_at : (p : Port) → is_inner (m.kind_at p.node) ≡ false → is_inner (left.kind_at p.node) ≡ false → (o : Option Port) → g.feeder p ≡ o → welded.feeder p ≡ crossing g left m target o
  feeder_out_at p no_m no_l None e = no_feeder_at p g h.whole (kind_out p.node no_m no_l) e (welded.feeder p) refl
  feeder_out_at p no_m no_l (Some q) e =
      let c = chase_rest p q e no_l in
      let v = h.whole.wires p q e in
      feeder_of_chase xs whole can_drop c.to p c.chase (no_point_exits size left ends p.node (g_no_point p.node v.to v.is_to)) ∙ sym c.is

  new_feeder : (p : Port) (a b : Bool) → is_inner (m.kind_at p.node) ≡ a → is_inner (left.kind_at p.node) ≡ b → welded.feeder p ≡ (if a then outside g m target (m.feeder p) else (if b then None else crossing g left m target (g.feeder p)))
  new_feeder p true b im il = feeder_m_at p im (m.feeder p) refl
  new_feeder p false true im il = unfed welded welded_typed p (kind_left_gone p.node im il)
  new_feeder p false false im il = feeder_out_at p im il (g.feeder p) refl

  pub welded_is : welded ≡ replaced g left m target
  welded_is =
      circuit_same welded (replaced g left m target)
      (λ n. new_kind n (is_inner (m.kind_at n)) (is_inner (left.kind_at n)) refl refl)
      (λ p. new_feeder p (is_inner (m.kind_at p.node)) (is_inner (left.kind_at p.node)) refl refl)
