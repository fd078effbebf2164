-- Refinement goes on from step to step, whatever names stand in between.
use Rattle.std.proofs.Common.{◌≡◌, ◌≢◌, ℕ, ◌+◌, ◌<◌, ◌≤◌, ◌⊎◌, inl, inr, refl, sym, ap, subst, ◌∙◌, true, false, Bool, bytes_eq, List, [], ◌∷◌, ◌++◌, length, drop, replicate, Option, Some, None, arith, length-append}
use Rattle.std.proofs.Math.Seq.{drop-append_seam}
use Rattle.std.proofs.lemmas.List.{length-drop, length-replicate}
use Rattle.std.specs.List.{AllByRecursion}
use Rattle.std.proofs.lemmas.Option.{same_Some}
use Rattle.components.specs.declared.kind.Kind.{Kind}
use Rattle.components.specs.declared.kind.Kind.TheVariants.{Entry, Exit}
use Rattle.components.specs.Name.{Name, Port}
use Rattle.components.specs.Orders.{same_bytes, other_bytes}
use Rattle.circuits.specs.Circuit.{Circuit, Typed}
use Rattle.circuits.specs.Run.{Move, Shows}
use Rattle.circuits.specs.Plug.{PlugLink, plug, Apart, Joins, UsesNoneTwice, CanPlug}
use Rattle.circuits.specs.Refines.{SamePorts, Refines}
use Rattle.circuits.specs.Renaming.{Swap, port_to, fed_to, renamed}
use Rattle.circuits.proofs.Names.{name_cases}
use Rattle.circuits.proofs.Renaming.{moves_to, link_to, links_to, shows_to, plug_to, renamed_back, moves_back, links_back, renamed_fixed, to_inj}

pub port_back : (x : Swap) (p : Port) → port_to x (port_to x p) ≡ p
port_back x p = λ i. record { node = x.back p.node i; port = p.port }

-- a renamed circuit is typed
fed_source_at : (x : Swap) (c : Circuit) (p q : Port) (o : Option Port) → c.feeder (port_to x p) ≡ o → fed_to x o ≡ Some q → c.feeder (port_to x p) ≡ Some (port_to x q)
fed_source_at x c p q None f e = let z : None ≡ Some q = e in cc
fed_source_at x c p q (Some r) f e =
    f ∙ ap Some (sym (port_back x r) ∙ ap (port_to x) (same_Some (port_to x r) q e))

pub fed_source : (x : Swap) (c : Circuit) (p q : Port) → (renamed x c).feeder p ≡ Some q → c.feeder (port_to x p) ≡ Some (port_to x q)
fed_source x c p q e = fed_source_at x c p q (c.feeder (port_to x p)) refl e

pub typed_to : (x : Swap) (c : Circuit) → Typed c → Typed (renamed x c)
typed_to x c ty =
    record {
      kinds = λ n k e. ty.kinds (x.to n) k e;
      wires = λ p q e.
          let w = ty.wires (port_to x p) (port_to x q) (fed_source x c p q e) in
          record { to = w.to; from = w.from; shape = w.shape; is_to = w.is_to; is_from = w.is_from; enters = w.enters; leaves = w.leaves };
      inputs = λ p k a e f. let (q, g) = ty.inputs (port_to x p) k a e f in (port_to x q, ap (fed_to x) g);
      outputs = λ q k a e f.
          let (p, g) = ty.outputs (port_to x q) k a e f in
          (port_to x p, ap (λ z. fed_to x (c.feeder z)) (port_back x p) ∙ ap (fed_to x) g ∙ ap Some (port_back x q));
      once = λ p r q e f.
          sym (port_back x p) ∙ ap (port_to x) (ty.once (port_to x p) (port_to x r) (port_to x q) (fed_source x c p q e) (fed_source x c r q f)) ∙ port_back x r;
      names = (
        ty.names.0 + x.growth,
        λ n k e.
            let short : length (x.to n) < ty.names.0 = ty.names.1 (x.to n) k e in
            let back : length n ≤ length (x.to n) + x.growth = subst (λ z. length z ≤ length (x.to n) + x.growth) (x.back n) (x.grows (x.to n)) in
            omega (arith, short, back),
      );
    }

-- what can be plugged can be plugged with other names outside
joins_out : (x : Swap) (c g : Circuit) (l : PlugLink) → ((n : Name) (k : Kind) → g.kind_at n ≡ Some k → x.to n ≡ n) → Joins l c g → Joins (link_to x l) (renamed x c) g
joins_out x c g l fixed j =
    record { shape = j.shape; exit = ap c.kind_at (x.back l.exit) ∙ j.exit; entry = ap g.kind_at (fixed l.entry (Entry j.shape) j.entry) ∙ j.entry }

joins_in : (x : Swap) (c g : Circuit) (l : PlugLink) → ((n : Name) (k : Kind) → g.kind_at n ≡ Some k → x.to n ≡ n) → Joins l g c → Joins (link_to x l) g (renamed x c)
joins_in x c g l fixed j =
    record { shape = j.shape; exit = ap g.kind_at (fixed l.exit (Exit j.shape) j.exit) ∙ j.exit; entry = ap c.kind_at (x.back l.entry) ∙ j.entry }

joins_all : (x : Swap) (c g : Circuit) → ((n : Name) (k : Kind) → g.kind_at n ≡ Some k → x.to n ≡ n) → (ls : List PlugLink) → AllByRecursion (λ l. Joins l c g ⊎ Joins l g c) ls → AllByRecursion (λ l. Joins l (renamed x c) g ⊎ Joins l g (renamed x c)) (links_to x ls)
joins_all x c g fixed [] h = tt
joins_all x c g fixed (l ∷ ls) h =
    (elim h.0 [ inl j ↦ inl (joins_out x c g l fixed j) | inr j ↦ inr (joins_in x c g l fixed j) ], joins_all x c g fixed ls h.1)

apart_links : (x : Swap) (l : PlugLink) (ls : List PlugLink) → AllByRecursion (λ m. (m.exit ≢ l.exit) × (m.entry ≢ l.entry)) ls → AllByRecursion (λ m. (m.exit ≢ x.to l.exit) × (m.entry ≢ x.to l.entry)) (links_to x ls)
apart_links x l [] h = tt
apart_links x l (m ∷ ms) h =
    (((λ e. h.0.0 (to_inj x m.exit l.exit e)), (λ e. h.0.1 (to_inj x m.entry l.entry e))), apart_links x l ms h.1)

pub once_to : (x : Swap) (ls : List PlugLink) → UsesNoneTwice ls → UsesNoneTwice (links_to x ls)
once_to x [] h = tt
once_to x (l ∷ ls) h = (apart_links x l ls h.0, once_to x ls h.1)

plug_can : (x : Swap) (c g : Circuit) (ls : List PlugLink) → ((n : Name) (k : Kind) → g.kind_at n ≡ Some k → x.to n ≡ n) → CanPlug c ls g → CanPlug (renamed x c) (links_to x ls) g
plug_can x c g ls fixed can =
    record {
      apart = λ n k m e f. can.apart n k m (ap c.kind_at (sym (fixed n m f)) ∙ e) f;
      joins = joins_all x c g fixed ls can.joins;
      once = once_to x ls can.once;
    }

-- names moved out of the way: each name of c gets size zeros before it, where no other name is so long
module _ (c : Circuit) (size : ℕ) (short : (n : Name) (k : Kind) → c.kind_at n ≡ Some k → length n < size) where
  zeros : List ℕ
  zeros = replicate size 0

  back_to : Option Kind → Bool → Name → Name
  back_to (Some k) true n = drop size n
  back_to (Some k) false n = n
  back_to None b n = n

  away_at : Option Kind → Name → Name
  away_at (Some k) n = zeros ++ n
  away_at None n = back_to (c.kind_at (drop size n)) (bytes_eq (zeros ++ drop size n) n) n

  away : Name → Name
  away n = away_at (c.kind_at n) n

  zeros_long : (n : Name) → length (zeros ++ n) ≡ size + length n
  unfolding zeros
  zeros_long n = length-append (replicate size 0) n ∙ ap (λ z. z + length n) (length-replicate size 0)

  zeros_drop : (n : Name) → drop size (zeros ++ n) ≡ n
  unfolding zeros
  zeros_drop n = ap (λ z. drop z (replicate size 0 ++ n)) (sym (length-replicate size 0)) ∙ drop-append_seam (replicate size 0) n

  long_none_at : (n : Name) → size ≤ length n → (o : Option Kind) → c.kind_at n ≡ o → c.kind_at n ≡ None
  long_none_at n h None e = e
  long_none_at n h (Some k) e = absurd (omega (arith, short n k e, h))

  long_none : (n : Name) → size ≤ length n → c.kind_at n ≡ None
  long_none n h = long_none_at n h (c.kind_at n) refl

  away_of_some : (n : Name) (k : Kind) → c.kind_at n ≡ Some k → away n ≡ zeros ++ n
  unfolding away away_at
  away_of_some n k e = ap (λ z. away_at z n) e

  away_of_none : (n : Name) → c.kind_at n ≡ None → away n ≡ back_to (c.kind_at (drop size n)) (bytes_eq (zeros ++ drop size n) n) n
  unfolding away away_at
  away_of_none n e = ap (λ z. away_at z n) e

  away_long : (n : Name) (k : Kind) → c.kind_at n ≡ Some k → away (zeros ++ n) ≡ n
  unfolding back_to
  away_long n k e =
      away_of_none (zeros ++ n) (long_none (zeros ++ n) (omega (arith, zeros_long n)))
      ∙ (λ i. back_to (c.kind_at (zeros_drop n i)) (bytes_eq (zeros ++ zeros_drop n i) (zeros ++ n)) (zeros ++ n))
      ∙ ap (λ z. back_to z (bytes_eq (zeros ++ n) (zeros ++ n)) (zeros ++ n)) e
      ∙ ap (λ z. back_to (Some k) z (zeros ++ n)) (same_bytes (zeros ++ n) (zeros ++ n) refl)
      ∙ zeros_drop n

  away_twice_none : (n : Name) → c.kind_at n ≡ None → (o : Option Kind) → c.kind_at (drop size n) ≡ o → away (away n) ≡ n
  unfolding back_to
  away_twice_none n e None f =
      let stays : away n ≡ n = away_of_none n e ∙ ap (λ z. back_to z (bytes_eq (zeros ++ drop size n) n) n) f in
      ap away stays ∙ stays
  away_twice_none n e (Some k) f =
      elim (name_cases (zeros ++ drop size n) n) [
        | inl is ↦
            let goes : away n ≡ drop size n =
            away_of_none n e ∙ (λ i. back_to (f i) (is.test i) n) in
            ap away goes ∙ away_of_some (drop size n) k f ∙ is.is
        | inr ne ↦
            let stays : away n ≡ n = away_of_none n e ∙ (λ i. back_to (f i) (ne.test i) n) in
            ap away stays ∙ stays
      ]

  away_twice_at : (n : Name) (o : Option Kind) → c.kind_at n ≡ o → away (away n) ≡ n
  away_twice_at n (Some k) e = ap away (away_of_some n k e) ∙ away_long n k e
  away_twice_at n None e = away_twice_none n e (c.kind_at (drop size n)) refl

  back_grows : (n : Name) (o : Option Kind) (b : Bool) → length (back_to o b n) ≤ length n + size
  unfolding back_to
  back_grows n (Some k) true = omega (arith, length-drop size n)
  back_grows n (Some k) false = omega arith
  back_grows n None b = omega arith

  away_grows_at : (n : Name) (o : Option Kind) → length (away_at o n) ≤ length n + size
  unfolding away_at
  away_grows_at n (Some k) = omega (arith, zeros_long n)
  away_grows_at n None = back_grows n (c.kind_at (drop size n)) (bytes_eq (zeros ++ drop size n) n)

  pub swap_away : Swap
  unfolding away
  swap_away =
      record { to = away; back = λ n. away_twice_at n (c.kind_at n) refl; growth = size; grows = λ n. away_grows_at n (c.kind_at n) }

  away_short_at : (n : Name) → length n < size → c.kind_at n ≡ None → (o : Option Kind) → away n ≡ n
  unfolding back_to
  away_short_at n h e o =
      away_of_none n e
      ∙ ap (λ z. back_to (c.kind_at (drop size n)) z n) (other_bytes (zeros ++ drop size n) n (λ x. let long : length (zeros ++ drop size n) ≡ length n = ap length x in absurd (omega (arith, long, zeros_long (drop size n), h))))
      ∙ stays (c.kind_at (drop size n))
    where
      stays : (o' : Option Kind) → back_to o' false n ≡ n
      stays None = refl
      stays (Some k) = refl

  none_of : (g : Circuit) → Apart c g → (n : Name) (k : Kind) → g.kind_at n ≡ Some k → (o : Option Kind) → c.kind_at n ≡ o → c.kind_at n ≡ None
  none_of g h n k e None f = f
  none_of g h n k e (Some m) f = absurd (h n m k f e)

  -- the names of another circuit stay
  pub away_fixed : (g : Circuit) → Apart c g → ((n : Name) (k : Kind) → g.kind_at n ≡ Some k → length n < size) → (n : Name) (k : Kind) → g.kind_at n ≡ Some k → swap_away.to n ≡ n
  unfolding swap_away
  away_fixed g h small n k e = away_short_at n (small n k e) (none_of g h n k e (c.kind_at n) refl) None

  -- and each name is long
  pub away_names : (n : Name) (k : Kind) → (renamed swap_away c).kind_at n ≡ Some k → size ≤ length n
  unfolding swap_away
  away_names n k e =
      let long : zeros ++ away n ≡ n = sym (away_of_some (away n) k e) ∙ away_twice_at n (c.kind_at n) refl in
      let same : length (zeros ++ away n) ≡ length n = ap length long in
      omega (arith, same, zeros_long (away n))

pub joins_same : (c h g : Circuit) → SamePorts h g → (ls : List PlugLink) → AllByRecursion (λ l. Joins l c h ⊎ Joins l h c) ls → AllByRecursion (λ l. Joins l c g ⊎ Joins l g c) ls
joins_same c h g same [] j = tt
joins_same c h g same (l ∷ ls) j = (
  elim j.0 [
    | inl k ↦ inl (record { shape = k.shape; exit = k.exit; entry = (same.entries l.entry k.shape).0 k.entry })
    | inr k ↦ inr (record { shape = k.shape; exit = (same.exits l.exit k.shape).0 k.exit; entry = k.entry })
  ],
  joins_same c h g same ls j.1,
)

pub plug_same : (c h g : Circuit) (ls : List PlugLink) → SamePorts h g → CanPlug c ls h → Apart c g → CanPlug c ls g
plug_same c h g ls same can cg = record { apart = cg; joins = joins_same c h g same ls can.joins; once = can.once }

pub ports_then : (h g f : Circuit) → SamePorts h g → SamePorts g f → SamePorts h f
ports_then h g f a b =
    record {
      entries = λ n s. ((λ e. (b.entries n s).0 ((a.entries n s).0 e)), (λ e. (a.entries n s).1 ((b.entries n s).1 e)));
      exits = λ n s. ((λ e. (b.exits n s).0 ((a.exits n s).0 e)), (λ e. (a.exits n s).1 ((b.exits n s).1 e)));
    }

pub refines_refl : (h : Circuit) → Typed h → Refines h h
refines_refl h ty =
    record {
      new_typed = ty;
      old_typed = ty;
      ports = record { entries = λ n a. ((λ e. e), (λ e. e)); exits = λ n a. ((λ e. e), (λ e. e)) };
      shows = λ c ls tr tc can can2 sh. sh;
    }

-- each name of c has at least this length
abbrev pub IsLong : ℕ → Circuit → Type 0
IsLong bound c = (n : Name) (k : Kind) → c.kind_at n ≡ Some k → bound ≤ length n

module _ (h g : Circuit) (th : Typed h) (tg : Typed g) (bound : ℕ)
    (claim : (c : Circuit) (ls : List PlugLink) (tr : List Move) → Typed c → CanPlug c ls h → CanPlug c ls g → IsLong bound c → Shows (plug c ls h) tr → Shows (plug c ls g) tr)
    (c : Circuit) (ls : List PlugLink) (tr : List Move) (tc : Typed c) (ch : CanPlug c ls h) (cg : CanPlug c ls g) where
  size : ℕ
  size = tc.names.0 + (th.names.0 + (tg.names.0 + bound))

  short_c : (n : Name) (k : Kind) → c.kind_at n ≡ Some k → length n < size
  unfolding size
  short_c n k e = omega (arith, tc.names.1 n k e)

  short_h : (n : Name) (k : Kind) → h.kind_at n ≡ Some k → length n < size
  unfolding size
  short_h n k e = omega (arith, th.names.1 n k e)

  short_g : (n : Name) (k : Kind) → g.kind_at n ≡ Some k → length n < size
  unfolding size
  short_g n k e = omega (arith, tg.names.1 n k e)

  x : Swap
  x = swap_away c size short_c

  fixed_h : (n : Name) (k : Kind) → h.kind_at n ≡ Some k → x.to n ≡ n
  unfolding x
  fixed_h = away_fixed c size short_c h ch.apart short_h

  fixed_g : (n : Name) (k : Kind) → g.kind_at n ≡ Some k → x.to n ≡ n
  unfolding x
  fixed_g = away_fixed c size short_c g cg.apart short_g

  long : IsLong bound (renamed x c)
  unfolding x size
  long n k e = omega (arith, away_names c size short_c n k e)

  there : renamed x (plug c ls h) ≡ plug (renamed x c) (links_to x ls) h
  there = plug_to x c ls h ∙ ap (plug (renamed x c) (links_to x ls)) (renamed_fixed x h th fixed_h)

  back_again : renamed x (plug (renamed x c) (links_to x ls) g) ≡ plug c ls g
  back_again =
      plug_to x (renamed x c) (links_to x ls) g
      ∙ (λ i. plug (renamed_back x c i) (links_back x ls i) (renamed_fixed x g tg fixed_g i))

  long_shows : Shows (plug c ls h) tr → Shows (plug c ls g) tr
  long_shows sh =
      let first : Shows (plug (renamed x c) (links_to x ls) h) (moves_to x tr) = subst (λ z. Shows z (moves_to x tr)) there (shows_to x (plug c ls h) tr sh) in
      let last : Shows (plug (renamed x c) (links_to x ls) g) (moves_to x tr) =
      claim (renamed x c) (links_to x ls) (moves_to x tr) (typed_to x c tc) (plug_can x c h ls fixed_h ch) (plug_can x c g ls fixed_g cg) long first in
      subst (λ z. Shows (plug c ls g) z) (moves_back x tr)
      (subst (λ z. Shows z (moves_to x (moves_to x tr))) back_again (shows_to x (plug (renamed x c) (links_to x ls) g) (moves_to x tr) last))

-- circuits with long names alone suffice as surroundings
pub refines_of_long : (h g : Circuit) → Typed h → Typed g → SamePorts h g → (bound : ℕ) → ((c : Circuit) (ls : List PlugLink) (tr : List Move) → Typed c → CanPlug c ls h → CanPlug c ls g → IsLong bound c → Shows (plug c ls h) tr → Shows (plug c ls g) tr) → Refines h g
refines_of_long h g th tg same bound claim =
    record { new_typed = th; old_typed = tg; ports = same; shows = λ c ls tr tc ch cg sh. long_shows h g th tg bound claim c ls tr tc ch cg sh }

pub long_apart : (c g : Circuit) (bound : ℕ) → IsLong bound c → ((n : Name) (k : Kind) → g.kind_at n ≡ Some k → length n < bound) → Apart c g
long_apart c g bound long short n k m e f = omega (arith, long n k e, short n m f)

pub refines_then : (h g f : Circuit) → Refines h g → Refines g f → Refines h f
refines_then h g f hg gf =
    refines_of_long h f hg.new_typed gf.old_typed (ports_then h g f hg.ports gf.ports) hg.old_typed.names.0
    (λ c ls tr tc ch cf long sh.
    let can : CanPlug c ls g = plug_same c h g ls hg.ports ch (long_apart c g hg.old_typed.names.0 long hg.old_typed.names.1) in
    gf.shows c ls tr tc can cf (hg.shows c ls tr tc ch can sh))
