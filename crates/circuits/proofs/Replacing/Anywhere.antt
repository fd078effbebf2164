-- What refines a part refines the circuit in its place, whatever the names of its Entries and Exits.
use Rattle.std.proofs.Common.{◌≡◌, ◌≢◌, ℕ, ◌+◌, ◌<◌, ◌≤◌, inl, inr, refl, sym, ap, subst, ◌∙◌, true, false, Bool, if◌then◌else◌, List, [], ◌∷◌, length, Option, Some, None, arith, true≢false}
use Rattle.std.specs.List.{AllByRecursion}
use Rattle.std.proofs.lemmas.Option.{same_Some}
use Rattle.components.specs.declared.kind.Kind.{Kind}
use Rattle.components.specs.declared.kind.Kind.TheVariants.{Entry, Exit}
use Rattle.components.specs.Name.{Name, Port}
use Rattle.circuits.specs.Values.{ValuesFit}
use Rattle.circuits.specs.Circuit.{Circuit, Typed}
use Rattle.circuits.specs.Refines.{SamePorts, Refines}
use Rattle.circuits.specs.Replacing.{is_inner, replaced, IsPart, IsNew, In, In.head, In.tail, NoneTwice, Ends}
use Rattle.circuits.specs.Renaming.{Swap, port_to, fed_to, renamed}
use Rattle.circuits.proofs.Beside.{none_some}
use Rattle.circuits.proofs.Renaming.{to_inj}
use Rattle.circuits.proofs.Transitive.{typed_to, port_back, fed_source, swap_away, away_fixed, away_names}
use Rattle.circuits.proofs.Renamed.{ports_to, renamed_refines}
use Rattle.circuits.proofs.Replacing.Sorts.{inner_some_at}
use Rattle.circuits.proofs.Replacing.Cutting.{Cut}
use Rattle.circuits.proofs.Replacing.Welding.{FitsIn}
use Rattle.circuits.proofs.Replacing.Replaced.{replaced_is_typed, replaced_law}
use Rattle.circuits.proofs.Replacing.Renamed.{target_to, replaced_same}

module _ (g left right : Circuit) (target : Port → Option Port) (names : List Name) (pt : IsPart g left target) (es : Ends left names) (new : IsNew g left right) (tr : Typed right) (ports : SamePorts right left) where
  size : ℕ
  size = pt.whole.names.0 + (pt.part.names.0 + tr.names.0)

  -- the Entries and Exits alone, and the inner nodes alone
  abbrev only : (Bool → Bool) → Circuit → Circuit
  only f c = record { kind_at = λ n. if f (is_inner (c.kind_at n)) then c.kind_at n else None; feeder = λ p. None }

  abbrev yes_of : Bool → Bool
  yes_of b = b

  abbrev no_of : Bool → Bool
  no_of true = false
  no_of false = true

  only_inner : (c : Circuit) (n : Name) (k : Kind) → (only yes_of c).kind_at n ≡ Some k → (is_inner (c.kind_at n) ≡ true) × (c.kind_at n ≡ Some k)
  only_inner c n k e = go (is_inner (c.kind_at n)) refl e
    where
      go : (b : Bool) → is_inner (c.kind_at n) ≡ b → (if b then c.kind_at n else None) ≡ Some k → (is_inner (c.kind_at n) ≡ true) × (c.kind_at n ≡ Some k)
      go true i f = (i, f)
      go false i f = absurd (none_some None k refl f)

  only_ends : (c : Circuit) (n : Name) (k : Kind) → (only no_of c).kind_at n ≡ Some k → (is_inner (c.kind_at n) ≡ false) × (c.kind_at n ≡ Some k)
  only_ends c n k e = go (is_inner (c.kind_at n)) refl e
    where
      go : (b : Bool) → is_inner (c.kind_at n) ≡ b → (if no_of b then c.kind_at n else None) ≡ Some k → (is_inner (c.kind_at n) ≡ false) × (c.kind_at n ≡ Some k)
      go true i f = absurd (none_some None k refl f)
      go false i f = (i, f)

  short_g : (n : Name) (k : Kind) → g.kind_at n ≡ Some k → length n < size
  unfolding size
  short_g n k e = omega (arith, pt.whole.names.1 n k e)

  short_left : (n : Name) (k : Kind) → left.kind_at n ≡ Some k → length n < size
  unfolding size
  short_left n k e = omega (arith, pt.part.names.1 n k e)

  short_right : (n : Name) (k : Kind) → right.kind_at n ≡ Some k → length n < size
  unfolding size
  short_right n k e = omega (arith, tr.names.1 n k e)

  short_ends : (n : Name) (k : Kind) → (only no_of left).kind_at n ≡ Some k → length n < size
  short_ends n k e = short_left n k (only_ends left n k e).1

  x : Swap
  x = swap_away (only no_of left) size short_ends

  keep_left : (n : Name) → is_inner (left.kind_at n) ≡ true → x.to n ≡ n
  unfolding x
  keep_left n i =
      let (k, e, ik) = inner_some_at (left.kind_at n) i in
      away_fixed (only no_of left) size short_ends (only yes_of left)
      (λ m a b p q. true≢false (sym (only_inner left m b q).0 ∙ (only_ends left m a p).0))
      (λ m a p. short_left m a (only_inner left m a p).1) n k (ap (λ b. if b then left.kind_at n else None) i ∙ e)

  end_is_end : (n : Name) (k : Kind) → left.kind_at n ≡ Some k → is_inner (Some k) ≡ false → is_inner (right.kind_at n) ≡ false
  end_is_end n (Entry a) e i = ap is_inner ((ports.entries n a).1 e)
  end_is_end n (Exit a) e i = ap is_inner ((ports.exits n a).1 e)
  end_is_end n _ e i = absurd (true≢false i)

  keep_right : (n : Name) → is_inner (right.kind_at n) ≡ true → x.to n ≡ n
  unfolding x
  keep_right n i =
      let (k, e, ik) = inner_some_at (right.kind_at n) i in
      away_fixed (only no_of left) size short_ends (only yes_of right)
      (λ m a b p q. true≢false (sym (only_inner right m b q).0 ∙ end_is_end m a (only_ends left m a p).1 (sym (ap is_inner (only_ends left m a p).1) ∙ (only_ends left m a p).0)))
      (λ m a p. short_right m a (only_inner right m a p).1) n k (ap (λ b. if b then right.kind_at n else None) i ∙ e)

  long_end : (n : Name) (k : Kind) → left.kind_at (x.to n) ≡ Some k → is_inner (Some k) ≡ false → size ≤ length n
  unfolding x
  long_end n k e i =
      away_names (only no_of left) size short_ends n k (ap (λ b. if no_of b then left.kind_at (x.to n) else None) (ap is_inner e ∙ i) ∙ e)

  double : ℕ
  double = x.growth + size

  short_renamed : (c : Circuit) → ((n : Name) (k : Kind) → c.kind_at n ≡ Some k → length n < size) → (n : Name) (k : Kind) → c.kind_at (x.to n) ≡ Some k → length n < double
  unfolding double
  short_renamed c s n k e =
      let one_ : length (x.to n) < size = s (x.to n) k e in
      let two : length n ≤ length (x.to n) + x.growth = subst (λ z. length z ≤ length (x.to n) + x.growth) (x.back n) (x.grows (x.to n)) in
      omega (arith, one_, two)

  fed_back_some : (p q : Port) → (renamed x left).feeder p ≡ Some q → left.feeder (port_to x p) ≡ Some (port_to x q)
  fed_back_some p q e = fed_source x left p q e

  cut : Cut g (renamed x left) (target_to x target) double
  unfolding double
  cut =
      record {
        whole = pt.whole;
        part = typed_to x left pt.part;
        to = λ p q e. ap (fed_to x) ((pt.target_is (port_to x p) (port_to x q)).0 (fed_source x left p q e)) ∙ ap Some (port_back x p);
        from = λ p q e.
            let f : target (port_to x q) ≡ Some (port_to x p) = fed_twice (target (port_to x q)) p e in
            ap (fed_to x) ((pt.target_is (port_to x p) (port_to x q)).1 f) ∙ ap Some (port_back x q);
        nodes = λ n k e i.
            let keep : x.to n ≡ n = sym (keep_left (x.to n) (ap is_inner e ∙ i)) ∙ x.back n in
            pt.nodes n k (ap left.kind_at (sym keep) ∙ e) i;
        wires = λ p q ip iq.
            let kp : x.to p.node ≡ p.node = sym (keep_left (x.to p.node) ip) ∙ x.back p.node in
            let kq : x.to q.node ≡ q.node = sym (keep_left (x.to q.node) iq) ∙ x.back q.node in
            let pp : port_to x p ≡ p = λ j. record { node = kp j; port = p.port } in
            let pq : port_to x q ≡ q = λ j. record { node = kq j; port = q.port } in
            let both = pt.wires p q (ap (λ z. is_inner (left.kind_at z)) (sym kp) ∙ ip) (ap (λ z. is_inner (left.kind_at z)) (sym kq) ∙ iq) in (
              (λ e. ap (λ z. fed_to x (left.feeder z)) pp ∙ ap (fed_to x) (both.0 e) ∙ ap Some pq),
              (λ e. both.1 (ap left.feeder (sym pp) ∙ fed_source x left p q e ∙ ap Some pq)),
            );
        no_through = λ p q a b e f h. pt.no_through (port_to x p) (port_to x q) a b (fed_source x left p q e) f h;
        short = λ n k e. let s : length n < size = short_g n k e in omega (arith, s);
        short_part = short_renamed left short_left;
        fresh = λ n k e i. fresh_at n (long_end n k e i) (g.kind_at n) refl;
      }
    where
      fed_twice : (o : Option Port) (p : Port) → fed_to x o ≡ Some p → o ≡ Some (port_to x p)
      fed_twice None p e = absurd (none_some None p refl e)
      fed_twice (Some t) p e = ap Some (sym (port_back x t) ∙ ap (port_to x) (same_Some (port_to x t) p e))

      fresh_at : (n : Name) → size ≤ length n → (o : Option Kind) → g.kind_at n ≡ o → g.kind_at n ≡ None
      fresh_at n l None e = e
      fresh_at n l (Some k) e = absurd (omega (arith, l, short_g n k e))

  names_to : List Name → List Name
  names_to [] = []
  names_to (n ∷ ns) = x.to n ∷ names_to ns

  in_to : (n : Name) (ns : List Name) → In (x.to n) ns → In n (names_to ns)
  unfolding names_to
  in_to n [] i = elim i [ ]
  in_to n (m ∷ ms) (head e) = head (sym (x.back n) ∙ ap x.to e)
  in_to n (m ∷ ms) (tail i) = tail (in_to n ms i)

  in_from : (n : Name) (ns : List Name) → In n (names_to ns) → In (x.to n) ns
  unfolding names_to
  in_from n [] i = elim i [ ]
  in_from n (m ∷ ms) (head e) = head (ap x.to e ∙ x.back m)
  in_from n (m ∷ ms) (tail i) = tail (in_from n ms i)

  apart_to : (n : Name) (ns : List Name) → AllByRecursion (λ m. n ≢ m) ns → AllByRecursion (λ m. x.to n ≢ m) (names_to ns)
  unfolding names_to
  apart_to n [] h = tt
  apart_to n (m ∷ ms) h = ((λ e. h.0 (to_inj x n m e)), apart_to n ms h.1)

  once_names : (ns : List Name) → NoneTwice ns → NoneTwice (names_to ns)
  unfolding names_to
  once_names [] h = tt
  once_names (n ∷ ns) h = (apart_to n ns h.0, once_names ns h.1)

  ends_to : Ends (renamed x left) (names_to names)
  ends_to =
      record {
        all = λ n k end e. in_to n names (es.all (x.to n) k end e);
        are = λ n i. es.are (x.to n) (in_from n names i);
        once = once_names names es.once;
      }

  fits_in : FitsIn g (renamed x left) (renamed x right) double
  fits_in =
      record {
        typed = typed_to x right tr;
        ports = ports_to x right left ports;
        short = short_renamed right short_right;
        new = λ n k e i.
            let keep : x.to n ≡ n = sym (keep_right (x.to n) (ap is_inner e ∙ i)) ∙ x.back n in
            elim (new n k (ap right.kind_at (sym keep) ∙ e) i) [ inl a ↦ inl a | inr a ↦ inr (ap (λ z. is_inner (left.kind_at z)) keep ∙ a) ];
      }

  -- what has the Entries and Exits of the part leaves the circuit typed in its place
  pub typed_anywhere : Typed (replaced g left right target)
  typed_anywhere =
      subst Typed (replaced_same g left right target pt tr ports x keep_left keep_right)
      (replaced_is_typed g (renamed x left) (target_to x target) double cut (renamed x right) (names_to names) ends_to fits_in)

  -- what refines the part refines the circuit in its place
  pub replaced_anywhere : ValuesFit → Refines right left → Refines (replaced g left right target) g
  replaced_anywhere fits r =
      subst (λ z. Refines z g) (replaced_same g left right target pt tr ports x keep_left keep_right)
      (replaced_law g (renamed x left) (target_to x target) double cut fits (renamed x right) (names_to names) ends_to fits_in (renamed_refines x right left r))
