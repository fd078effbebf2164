-- What an instance of the rule is, and what is read of its nodes.
use Rattle.std.proofs.Common.{◌≡◌, ◌≢◌, ℕ, zero, suc, true, refl, sym, ap, subst, ◌∙◌, length, List, [], ◌∷◌, Some, None, true≢false, arith}
use Rattle.std.specs.FinMap as finite
use Rattle.std.specs.List.{AllByRecursion, concat}
use Rattle.std.proofs.lemmas.Option.{none-some, same_Some}
use Rattle.components.specs.declared.kind.Kind.{Kind}
use Rattle.components.specs.declared.kind.Kind.TheVariants.{Split, Join, Entry, Exit}
use Rattle.components.specs.Name.{Name, Port, port_get}
use Rattle.components.specs.Kind.{Shape}
use Rattle.components.specs.NamedGraph.{NamedGraph, IsTyped, HasAllowedNames}
use Rattle.components.specs.Numbered.{single_port}
use Rattle.circuits.specs.Circuit.{circuit_of}
use Rattle.circuits.specs.Replacing.{In, head, tail}
use Rattle.circuits.specs.ReplacedGraph.{Matches}
use Rattle.circuit_plans.specs.Drawing.{DrawnWire, Drawing, port_named, wire}
use Rattle.circuit_plans.specs.Places.{number, places}
use Rattle.circuit_plans.proofs.Namings.{each_in}
use Rattle.circuit_plans.proofs.Places.{PortOf, at, no_port, port_of, in_places, each_at, number_item}
use Rattle.lane_laws.specs.SplitJoin.{SplitJoined, entry, split, join, exit, split_joined, split_joined_wires}
use Rattle.subst_engine.specs.Rule.{NamedRule}
use Rattle.drawn_rules.specs.Placed.{is_inside, IsPlaced}
use Rattle.drawn_rules.proofs.Drawings.{matched, placed}
use Rattle.drawn_rules.proofs.GraphNodes.{body_at, ok_at, carries, Carries}
use Rattle.pure_extract.specs.SplitJoin.{side_name, split_join, CanSplitJoin, IsSplitJoin, SplitJoinMatches}
use Rattle.pure_extract.specs.SplitJoinSides.{ReadsSplit, CanSplitSides}
use Rattle.pure_extract.proofs.SplitJoinLaws.SideNames.{ends_apart, names_once}
use Rattle.pure_extract.proofs.SplitJoinLaws.SplitSides.{old_in, targets, lane}

split_apart : (a b : List Shape) → Split a ≡ Join b → ⊥
split_apart a b e = cc

split_tells : (a b : List Shape) → Split a ≡ Split b → a ≡ b
split_tells a b e = cc

pub apart_kinds : (g : NamedGraph) (s j : Name) (a b : List Shape) → (circuit_of g).kind_at s ≡ Some (Split a) → (circuit_of g).kind_at j ≡ Some (Join b) → s ≢ j
apart_kinds g s j a b is_split is_join e = split_apart a b (same_Some (Split a) (Join b) (sym is_split ∙ ap (circuit_of g).kind_at e ∙ is_join))

no_zero : (xs : List Shape) → port_get xs 0 ≡ None
no_zero [] = refl
no_zero (x ∷ xs) = refl

-- lists of one length, where what has a number in the one has it in the other
pub same_list : (xs ys : List Shape) → length xs ≡ length ys → ((i : ℕ) (a : Shape) → port_get xs i ≡ Some a → port_get ys i ≡ Some a) → xs ≡ ys
same_list [] [] long h = refl
same_list [] (y ∷ ys) long h = absurd (omega (arith, long))
same_list (x ∷ xs) [] long h = absurd (omega (arith, long))
same_list (x ∷ xs) (y ∷ ys) long h =
    let first : y ≡ x = same_Some y x (h 1 x refl) in
    let rest : xs ≡ ys = same_list xs ys (omega (arith, long)) later in
    λ i. sym first i ∷ rest i
  where
    later : (i : ℕ) (a : Shape) → port_get xs i ≡ Some a → port_get ys i ≡ Some a
    later zero a e = absurd (none-some a (sym (no_zero xs) ∙ e))
    later (suc i) a e = h (suc (suc i)) a e

-- the wire of the right graph, as a drawing
data Straight : Type 0 where
  new_exit new_entry : Straight

abbrev straight_kind : Shape → Straight → Kind
straight_kind shape new_exit = Exit shape
straight_kind shape new_entry = Entry shape

abbrev straight_drawing : Shape → Drawing Straight
straight_drawing shape = record { kind = straight_kind shape; nodes = new_exit ∷ new_entry ∷ []; wires = wire new_entry 1 new_exit 1 ∷ [] }

abbrev straight_name : Name → Name → Straight → Name
straight_name s j new_exit = side_name s j exit
straight_name s j new_entry = side_name s j entry

straight_in : (n : Straight) → In n (new_exit ∷ new_entry ∷ [])
straight_in new_exit = head refl
straight_in new_entry = tail (head refl)

module _ (g : NamedGraph) (typed : IsTyped g) (s j : Name) where
  -- an instance

  module _ (can : CanSplitJoin g s j) where
    carried : (i : ℕ) (a : Shape) → port_get can.parts i ≡ Some a → Carries (Split can.parts) (Join can.joined) i i
    carried i a e = carries g typed (record { node = j; port = i }) (record { node = s; port = i }) (Split can.parts) (Join can.joined) (can.between i a e) can.is_split can.is_join

    also : (i : ℕ) (a : Shape) → port_get can.parts i ≡ Some a → port_get can.joined i ≡ Some a
    also i a e = let c = carried i a e in c.enters ∙ sym c.leaves ∙ e

    same_parts : can.parts ≡ can.joined
    same_parts = same_list can.parts can.joined can.even also

    join_kind : (circuit_of g).kind_at j ≡ Some (Join can.parts)
    join_kind = can.is_join ∙ ap (λ z. Some (Join z)) (sym same_parts)

    differ : s ≢ j
    differ = apart_kinds g s j can.parts can.joined can.is_split can.is_join

    kind_there : (n : SplitJoined) → is_inside (split_joined can.parts) n ≡ true → (circuit_of g).kind_at (side_name s j n) ≡ Some ((split_joined can.parts).kind n)
    kind_there entry inside = absurd (true≢false (sym inside))
    kind_there split inside = can.is_split
    kind_there join inside = join_kind
    kind_there exit inside = absurd (true≢false (sym inside))

    -- the wires of the drawing are there
    abbrev IsFed : DrawnWire SplitJoined → Type 0
    IsFed w = is_inside (split_joined can.parts) w.source.at ≡ true → is_inside (split_joined can.parts) w.target.at ≡ true →
        finite.get g.feeders (port_named (side_name s j) w.target) ≡ Some (port_named (side_name s j) w.source)

    all_fed : AllByRecursion IsFed (split_joined_wires can.parts)
    all_fed = (
      (λ from into. absurd (true≢false (sym from))),
      ((λ from into. absurd (true≢false (sym into))), each_at IsFed (lane s j can.parts) (places can.parts) (λ l _ _. can.between (number can.parts l) _ (number_item can.parts l))),
    )

    -- and no others
    abbrev Listed : SplitJoined → ℕ → SplitJoined → ℕ → Type 0
    Listed n i m k = In (wire n i m k) (split_joined_wires can.parts)

    joined_wire : (i k : ℕ) (a : Shape) → port_get can.parts k ≡ Some a → i ≡ k → PortOf can.parts k → Listed split i join k
    joined_wire i k a e same (at l is) =
        subst (λ (z : ℕ × ℕ). Listed split z.0 join z.1) (λ t. (sym (same ∙ is) t, sym is t)) (tail (tail (in_places can.parts (lane s j can.parts) l)))
    joined_wire i k a e same (no_port _ none) = absurd (none-some a (sym none ∙ e))

    abbrev Fed : Name → ℕ → Name → ℕ → Type 0
    Fed n i m k = finite.get g.feeders (record { node = m; port = k }) ≡ Some (record { node = n; port = i })

    node_is : (p q : Port) → Some p ≡ Some q → p.node ≡ q.node
    node_is p q e = ap (λ (z : Port). z.node) (same_Some p q e)

    only : (n m : SplitJoined) (i k : ℕ) → is_inside (split_joined can.parts) n ≡ true → is_inside (split_joined can.parts) m ≡ true → Fed (side_name s j n) i (side_name s j m) k → Listed n i m k
    only entry m i k from into fed = absurd (true≢false (sym from))
    only exit m i k from into fed = absurd (true≢false (sym from))
    only split entry i k from into fed = absurd (true≢false (sym into))
    only split exit i k from into fed = absurd (true≢false (sym into))
    only join entry i k from into fed = absurd (true≢false (sym into))
    only join exit i k from into fed = absurd (true≢false (sym into))
    only split split i k from into fed =
        let c = carries g typed (record { node = s; port = k }) (record { node = s; port = i }) (Split can.parts) (Split can.parts) fed can.is_split can.is_split in
        let twice = typed.once (record { node = s; port = k }) (record { node = j; port = i }) (record { node = s; port = i }) fed (can.between i c.shape c.leaves) in
        absurd (differ (ap (λ (z : Port). z.node) twice))
    only split join i k from into fed =
        let c = carries g typed (record { node = j; port = k }) (record { node = s; port = i }) (Split can.parts) (Join can.parts) fed can.is_split join_kind in
        let same : i ≡ k = ap (λ (z : Port). z.port) (same_Some (record { node = s; port = i }) (record { node = s; port = k }) (sym fed ∙ can.between k c.shape c.enters)) in
        joined_wire i k c.shape c.enters same (port_of can.parts k)
    only join split i k from into fed =
        let c = carries g typed (record { node = s; port = k }) (record { node = j; port = i }) (Join can.parts) (Split can.parts) fed join_kind can.is_split in
        let first : i ≡ 1 = single_port (concat can.parts) c.shape i c.leaves in
        let into_first : k ≡ 1 = single_port (concat can.parts) c.shape k c.enters in
        absurd (can.apart (ap (λ z. finite.get g.feeders (record { node = s; port = z })) (sym into_first) ∙ fed ∙ ap (λ z. Some (record { node = j; port = z })) first))
    only join join i k from into fed =
        let c = carries g typed (record { node = j; port = k }) (record { node = j; port = i }) (Join can.parts) (Join can.parts) fed join_kind join_kind in
        absurd (differ (node_is (record { node = s; port = k }) (record { node = j; port = i }) (sym (can.between k c.shape c.enters) ∙ fed)))

    no_room : (n : Straight) → is_inside (straight_drawing (concat can.parts)) n ≡ true → ⊥
    no_room new_exit inside = true≢false (sym inside)
    no_room new_entry inside = true≢false (sym inside)

    instance_placed : IsPlaced g (split_joined can.parts) (side_name s j) (straight_drawing (concat can.parts)) (straight_name s j)
    instance_placed =
        record {
          kinds = kind_there;
          wires = λ w from into. (
            only w.source.at w.target.at w.source.port w.target.port from into,
            (λ i. each_in IsFed (split_joined_wires can.parts) w all_fed i from into),
          );
          room = λ n inside. absurd (no_room n inside);
        }

    pub instance_matches : Matches g (split_join s j can.parts).left (split_join s j can.parts).right
    instance_matches =
        matched g (split_joined can.parts) (side_name s j) (straight_drawing (concat can.parts)) (straight_name s j) old_in (names_once s j differ) (targets s j can.parts differ) instance_placed

  -- Where the graphs match

  module _ (parts : List Shape) (apart : s ≢ j) (m : Matches g (split_join s j parts).left (split_join s j parts).right) where
    there : IsPlaced g (split_joined parts) (side_name s j) (straight_drawing (concat parts)) (straight_name s j)
    there =
        placed g (split_joined parts) (side_name s j) (straight_drawing (concat parts)) (straight_name s j) old_in (names_once s j apart) (targets s j parts apart)
        straight_in (((λ e. ends_apart s j (sym e)), tt), (tt, tt)) m

    wired : (i : ℕ) (a : Shape) → port_get parts i ≡ Some a → PortOf parts i → finite.get g.feeders (record { node = j; port = i }) ≡ Some (record { node = s; port = i })
    wired i a e (at l is) =
        subst (λ z. finite.get g.feeders (record { node = j; port = z }) ≡ Some (record { node = s; port = z })) (sym is) ((there.wires (lane s j parts l) refl refl).1 (tail (tail (in_places parts (lane s j parts) l))))
    wired i a e (no_port _ none) = absurd (none-some a (sym none ∙ e))

    -- no wire of the drawing leads from the Join to the Split
    abbrev NotBack : DrawnWire SplitJoined → Type 0
    NotBack w = w.source.at ≡ join → w.target.at ≡ split → ⊥

    entry_join : entry ≡ join → ⊥
    entry_join e = cc

    exit_split : exit ≡ split → ⊥
    exit_split e = cc

    split_join_apart : split ≡ join → ⊥
    split_join_apart e = cc

    none_back : AllByRecursion NotBack (split_joined_wires parts)
    none_back = ((λ e _. entry_join e), ((λ _ e. exit_split e), each_at NotBack (lane s j parts) (places parts) (λ l e _. split_join_apart e)))

    pub match_can : CanSplitJoin g s j
    match_can =
        record {
          parts = parts;
          joined = parts;
          is_split = there.kinds split refl;
          is_join = there.kinds join refl;
          even = refl;
          between = λ i a e. wired i a e (port_of parts i);
          apart = λ fed. each_in NotBack (split_joined_wires parts) (wire join 1 split 1) none_back ((there.wires (wire join 1 split 1) refl refl).0 fed) refl refl;
        }

  pub rule_at : (parts : List Shape) (rule : NamedRule) → s ≢ j → rule ≡ split_join s j parts → Matches g rule.left rule.right → IsSplitJoin g s j rule
  unfolding match_can
  rule_at parts rule apart is m = record { can = match_can parts apart (subst (λ (r : NamedRule). Matches g r.left r.right) is m); is = is }

  -- there is no instance where they do not
  pub no_rule : (parts : List Shape) (rule : NamedRule) → ReadsSplit g s j parts → rule ≡ split_join s j parts → ¬ (Matches g rule.left rule.right) → ¬ (CanSplitJoin g s j)
  no_rule parts rule reads is unmet can =
      let same : can.parts ≡ parts = split_tells can.parts parts (same_Some (Split can.parts) (Split parts) (sym can.is_split ∙ reads.is_split)) in
      unmet (subst (λ (r : NamedRule). Matches g r.left r.right) (ap (split_join s j) same ∙ sym is) (instance_matches can))

-- The graphs can be made

pub can_sides : (g : NamedGraph) → IsTyped g → HasAllowedNames g → (s j n m : Name) (parts : List Shape) → ReadsSplit g s j parts → n ≡ s → m ≡ j → CanSplitSides n m parts
can_sides g typed allowed s j n m parts reads is_s is_j =
    let from = body_at g s (Split parts) reads.is_split in
    let into = body_at g j (Join reads.joined) reads.is_join in
    subst (λ z. CanSplitSides z m parts) (sym is_s)
    (subst (λ z. CanSplitSides s z parts) (sym is_j) (record {
      apart = apart_kinds g s j parts reads.joined reads.is_split reads.is_join;
      split_name = allowed s from.body from.there;
      join_name = allowed j into.body into.there;
      are = ok_at g typed s (Split parts) reads.is_split;
    }))

pub reads_instance : (g : NamedGraph) (s j : Name) (can : CanSplitJoin g s j) → ReadsSplit g s j can.parts
reads_instance g s j can = record { joined = can.joined; is_split = can.is_split; is_join = can.is_join }

-- The law

pub matches : SplitJoinMatches
matches g s j rule typed h = subst (λ (r : NamedRule). Matches g r.left r.right) (sym h.is) (instance_matches g typed s j h.can)
