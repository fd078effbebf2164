-- Where no row of the table holds, what was found is the loop at the mark.
use Rattle.std.proofs.Common.{◌≡◌, ◌≢◌, ◌⊎◌, ◌↔◌, inl, inr, ℕ, suc, ◌+◌, Bool, ◌≤◌, ◌<◌, refl, sym, ap, subst, ◌∙◌, List, [], ◌∷◌, map, length, Some}
use Rattle.std.specs.List.{AllByRecursion, concat}
use Rattle.std.proofs.lemmas.Bool.{cases_lt}
use Rattle.std.proofs.lemmas.List.{length-append}
use Rattle.std.proofs.lemmas.Option.{same_Some}
use Rattle.components.specs.declared.kind.Kind.{Kind}
use Rattle.components.specs.declared.kind.Kind.TheVariants.{Buffer, Fork, Join, Split, Operator, Constant, Sink0, Pure, Mux, Branch, Init}
use Rattle.components.specs.Name.{Name, Port}
use Rattle.components.specs.Kind.{Shape}
use Rattle.components.specs.Orders.{name_cases}
use Rattle.circuits.specs.Circuit.{Circuit, Typed}
use Rattle.circuits.specs.Laws.{RootIsOne}
use Rattle.circuits.specs.Replacing.{In, head, tail, NoneTwice}
use Rattle.circuits.specs.Root.{PassesThrough, Root}
use Rattle.loop_laws.specs.declared.fault.LoopFaultKind.{LoopFaultKind}
use Rattle.loop_laws.specs.declared.fault.LoopFaultKind.TheVariants.{SelectLeaf, NotPure, ForeignInput, BodyTooBig, LanesUneven, ConditionRoot, FreeCondition, FreeData, TooManyLanes, TooWide}
use Rattle.loop_laws.specs.Polarity.{IsMark, IsMarkOf, exit_bit, back_in, back_out}
use Rattle.loop_laws.specs.Reached.{port_at, HasKind, OnTree, IsLane, Reached, first, later, IsPure, FedBy}
use Rattle.loop_laws.specs.BackPath.{Through, BranchOf, IsLaneBranch}
use Rattle.loop_laws.specs.BodyOrder.{IsBefore, Ascending, InBodyOrder}
use Rattle.loop_laws.specs.Weight.{weight_of, fields_of, fields_at}
use Rattle.loop_laws.specs.Loop.{Lane, Loop, muxes_of, shapes_of, HasLane, HasBranch, IsInside, IsLaneOf, HasTree, HasBody, HasBranches, HasCondition, LoopAt}
use Rattle.loop_laws.specs.Faults.{InBody, Inside, FirstBranch, RootsDiffer, Row}
use Rattle.loop_laws.proofs.Ascending.{each_in, not_both, not_itself}
use Rattle.loop_find.proofs.SomeLane.{after_tree}
use Rattle.loop_find.proofs.LaneShapes.{lane_shape}
use Rattle.loop_find.proofs.BoundData.{one_branch, some_bound}

in_names : (ns : List Name) (n : Name) → In n ns ⊎ ¬ (In n ns)
in_names [] n = inr (λ i. elim i [ ])
in_names (k ∷ ns) n =
    elim (name_cases n k) [
      | inl is ↦ inl (head is)
      | inr other ↦ elim (in_names ns n) [ inl i ↦ inl (tail i) | inr away ↦ inr (λ i. elim i [ head e ↦ other e | tail j ↦ away j ]) ]
    ]

told_le : (a b : ℕ) → (a ≤ b) ⊎ (b < a)
told_le a b = elim (cases_lt b a) [ inl more ↦ inr more | inr less ↦ inl less ]

tell_pure : (k : Kind) → IsPure k ⊎ ¬ (IsPure k)
tell_pure (Buffer shape) = inl tt
tell_pure (Fork shape count) = inl tt
tell_pure (Join shapes) = inl tt
tell_pure (Split shapes) = inl tt
tell_pure (Operator op widths width) = inl tt
tell_pure (Constant shape width value) = inl tt
tell_pure (Pure fun shape) = inl tt
tell_pure (Sink0 shape) = inl tt
tell_pure _ = inr (λ h. h)

-- lanes by a name
has_lane : (xs : List Lane) (f : Lane → Name) (n : Name) → ((x : Lane) × In x xs × (f x ≡ n)) ⊎ ¬ ((x : Lane) × In x xs × (f x ≡ n))
has_lane [] f n = inr (λ h. elim h.1 [ ])
has_lane (x ∷ xs) f n =
    elim (name_cases (f x) n) [
      | inl is ↦ inl (x, head refl, is)
      | inr other ↦
          elim (has_lane xs f n) [
            | inl h ↦ inl (h.0, tail h.1, h.2)
            | inr never ↦ inr (λ h. not_there x xs f n other never h.0 h.1 h.2)
          ]
    ]
  where
    not_there : (x : Lane) (xs : List Lane) (f : Lane → Name) (n : Name) → f x ≢ n → ¬ ((y : Lane) × In y xs × (f y ≡ n)) → (y : Lane) → In y (x ∷ xs) → f y ≡ n → ⊥
    not_there x xs f n other never y (head e) is = other (ap f (sym e) ∙ is)
    not_there x xs f n other never y (tail i) is = never (y, i, is)

-- what was found at a mark
pub record Found (c : Circuit) (m : Name) (l : Loop) : Type 0 where
  pub mark : IsMarkOf c m l.goes_back l.tags
  pub tree : (n : Name) → In n l.tree ↔ ((n ≢ m) × OnTree c m n)
  pub tree_by_name : Ascending l.tree
  pub each_lane : (x : Lane) → In x l.lanes → (its : BranchOf c m l.goes_back x.mux x.branch) × (its.back ≡ x.back) × (its.is_lane.shape ≡ x.shape)
  pub all_lanes : (n : Name) → IsLane c m n → HasLane l n
  pub lanes_by_name : Ascending (muxes_of l)
  pub body : (n : Name) → In n l.body ↔ InBody c m l.goes_back n
  pub in_order : InBodyOrder c l.body [] l.body
  pub body_once : NoneTwice l.body
  pub first : Lane
  pub rest : List Lane
  pub lanes : l.lanes ≡ first ∷ rest
  pub root : Port
  pub its_root : Root c (port_at first.branch 2) root
  pub told : (p : Port) → Root c p root ⊎ ¬ (Root c p root)

module _ (one : RootIsOne) (c : Circuit) (typed : Typed c) (m : Name) (l : Loop) (found : Found c m l) (none : (kind : LoopFaultKind) (n : Name) → ¬ (Row c m l.goes_back kind n)) where
  abbrev d : Bool
  d = l.goes_back

  is_lane : (n : Name) → HasLane l n → IsLane c m n
  is_lane n h = subst (IsLane c m) h.2 (found.each_lane h.0 h.1).0.is_lane

  inside_of : (n : Name) → IsInside l n → Inside c m d n
  inside_of n (inl lane) = inl (is_lane n lane)
  inside_of n (inr i) = inr ((found.body n).0 i)

  inside_back : (n : Name) → Inside c m d n → IsInside l n
  inside_back n (inl lane) = inl (found.all_lanes n lane)
  inside_back n (inr b) = inr ((found.body n).1 b)

  tell_inside : (n : Name) → IsInside l n ⊎ ¬ (Inside c m d n)
  tell_inside n =
      elim (has_lane l.lanes (λ (x : Lane). x.mux) n) [
        | inl lane ↦ inl (inl lane)
        | inr no_lane ↦ elim (in_names l.body n) [ inl i ↦ inl (inr i) | inr away ↦ inr (λ h. elim (inside_back n h) [ inl lane ↦ no_lane lane | inr i ↦ away i ]) ]
      ]

  is_branch : (r : Name) → HasBranch l r → IsLaneBranch c m d r
  is_branch r h = (h.0.mux, subst (BranchOf c m d h.0.mux) h.2 (found.each_lane h.0 h.1).0)

  branch_back : (r : Name) → IsLaneBranch c m d r → HasBranch l r
  branch_back r (lane, its) =
      let (x, i, is) = found.all_lanes lane its.is_lane in
      (x, i, one_branch c typed m d lane x.branch r (subst (λ z. BranchOf c m d z x.branch) is (found.each_lane x i).0) its)

  -- the tree and the lanes
  mark_is : IsMark c m
  mark_is = (exit_bit d, l.tags, found.mark.0, found.mark.1)

  not_mark : (n : Name) (k : Kind) → c.kind_at n ≡ Some k → PassesThrough k → n ≢ m
  not_mark n k is through e = subst PassesThrough (same_Some k (Init (exit_bit d) l.tags) (sym is ∙ ap c.kind_at e ∙ found.mark.0)) through

  leaves : (p q : Port) → OnTree c m q.node → c.feeder p ≡ Some q → In p.node l.tree ⊎ ((p.port ≡ 1) × HasLane l p.node)
  leaves p q on fed =
      elim (after_tree c m typed mark_is d (none SelectLeaf) p q on fed) [
        | inl x ↦ inl ((found.tree p.node).1 (not_mark p.node x.kind x.is_kind x.through, x.on_tree))
        | inr lane ↦ inr (lane.0, found.all_lanes p.node lane.1)
      ]

  each_lane : (x : Lane) → In x l.lanes → IsLaneOf c d x
  each_lane x i =
      let (its, back, shape) = found.each_lane x i in
      record {
        is_mux = its.is_lane.is_mux ∙ ap (λ z. Some (Mux z)) shape;
        is_branch = its.is_branch ∙ ap (λ z. Some (Branch z)) (sym (lane_shape c typed m d x.mux x.branch its) ∙ shape);
        path = subst (λ z. Through c (port_at x.branch (back_out d)) z (port_at x.mux (back_in d))) back its.path;
      }

  has_tree : HasTree c m l
  has_tree =
      record {
        tree = found.tree;
        tree_by_name = found.tree_by_name;
        leaves = leaves;
        lanes = λ n. (is_lane n, found.all_lanes n);
        lanes_by_name = found.lanes_by_name;
        each_lane = each_lane;
      }

  -- the body
  reached_kind : (n : Name) → Reached c m n → (k : Kind) × (c.kind_at n ≡ Some k)
  reached_kind n (first i q lane fed pass) = let w = typed.wires (port_at n i) q fed in (w.to, w.is_to)
  reached_kind n (later i q r fed pass) = let w = typed.wires (port_at n i) q fed in (w.to, w.is_to)

  pure : (n : Name) → Reached c m n → HasKind c IsPure n
  pure n r =
      let (k, is) = reached_kind n r in
      elim (tell_pure k) [
        | inl p ↦ (k, is, p)
        | inr never ↦ absurd (none NotPure n (r, (λ h. never (subst IsPure (same_Some h.0 k (sym h.1 ∙ is)) h.2))))
      ]

  closed : (n : Name) → In n l.body → FedBy c (IsInside l) n
  closed n i port q fed =
      elim (tell_inside q.node) [
        | inl inside ↦ inside
        | inr outside ↦ absurd (none ForeignInput n ((found.body n).0 i, port, q, fed, outside))
      ]

  few : length l.body ≤ 4096
  few = elim (told_le (length l.body) 4096) [ inl h ↦ h | inr more ↦ absurd (none BodyTooBig m (refl, l.body, found.body_once, (λ x i. (found.body x).0 i), inl more)) ]

  light : weight_of c l.body ≤ 16384
  light = elim (told_le (weight_of c l.body) 16384) [ inl h ↦ h | inr more ↦ absurd (none BodyTooBig m (refl, l.body, found.body_once, (λ x i. (found.body x).0 i), inr more)) ]

  has_body : HasBody c m l
  has_body = record { pure = pure; body = found.body; closed = closed; in_order = found.in_order; few = few; light = light }

  -- the Branches
  entered : (p q : Port) (shape : Shape) → IsInside l q.node → c.feeder p ≡ Some q → c.kind_at p.node ≡ Some (Branch shape) → HasBranch l p.node
  entered p q shape inside fed is =
      elim (has_lane l.lanes (λ (x : Lane). x.branch) p.node) [
        | inl has ↦ has
        | inr never ↦
            absurd
            (none LanesUneven p.node
            ((Branch shape, is, tt), p.port, q, fed, inl (inside_of q.node inside, (λ lane. never (branch_back p.node lane)))))
      ]

  branches : (r : Name) → HasBranch l r → FedBy c (IsInside l) r
  branches r has i q fed =
      let lane = is_branch r has in
      elim (tell_inside q.node) [
        | inl inside ↦ inside
        | inr outside ↦ absurd (none LanesUneven r ((Branch lane.1.shape, lane.1.is_branch, tt), i, q, fed, inr (lane, outside)))
      ]

  fed_inside : (lane r : Name) (q : Port) → BranchOf c m d lane r → c.feeder (port_at r 1) ≡ Some q → Inside c m d q.node
  fed_inside lane r q its fed = inside_of q.node (branches r (branch_back r (lane, its)) 1 q fed)

  -- the lane that is first in byte order
  first_in : In found.first l.lanes
  first_in = subst (In found.first) (sym found.lanes) (head refl)

  mapped : (x : Lane) (xs : List Lane) → In x xs → In x.mux (map (λ (x : Lane). x.mux) xs)
  mapped x [] i = elim i [ ]
  mapped x (y ∷ ys) (head e) = head (ap (λ (z : Lane). z.mux) e)
  mapped x (y ∷ ys) (tail i) = tail (mapped x ys i)

  first_branch : FirstBranch c m d found.first.branch
  first_branch =
      record {
        lane = found.first.mux;
        is_first = λ other is different. before_rest other (found.all_lanes other is) different;
        its = (found.each_lane found.first first_in).0;
      }
    where
      before_rest : (other : Name) → HasLane l other → other ≢ found.first.mux → IsBefore found.first.mux other
      before_rest other (x, i, is) different = at (subst (In x) found.lanes i)
        where
          ascending : Ascending (map (λ (x : Lane). x.mux) (found.first ∷ found.rest))
          ascending = subst (λ z. Ascending (map (λ (x : Lane). x.mux) z)) found.lanes found.lanes_by_name

          at : In x (found.first ∷ found.rest) → IsBefore found.first.mux other
          at (head e) = absurd (different (sym is ∙ ap (λ (z : Lane). z.mux) e))
          at (tail j) = subst (IsBefore found.first.mux) is (each_in (IsBefore found.first.mux) (map (λ (x : Lane). x.mux) found.rest) x.mux ascending.0 (mapped x found.rest j))

  -- some data are bound
  mux_names : List Name
  mux_names = muxes_of l

  in_muxes : (n : Name) → IsLane c m n → In n mux_names
  unfolding mux_names
  in_muxes n lane = let (x, i, is) = found.all_lanes n lane in subst (λ z. In z (muxes_of l)) is (mapped x l.lanes i)

  of_mapped : (n : Name) (xs : List Lane) → In n (map (λ (x : Lane). x.mux) xs) → (x : Lane) × In x xs × (x.mux ≡ n)
  of_mapped n [] i = elim i [ ]
  of_mapped n (x ∷ xs) (head e) = (x, head refl, sym e)
  of_mapped n (x ∷ xs) (tail i) = let (y, j, is) = of_mapped n xs i in (y, tail j, is)

  muxes_lanes : (n : Name) → In n mux_names → IsLane c m n
  unfolding mux_names
  muxes_lanes n i = is_lane n (of_mapped n l.lanes i)

  has_branches : HasBranches c m l
  has_branches =
      let (lane, bound) =
      some_bound c typed m d (λ n lane. at n (found.all_lanes n lane)) (λ lane r q its fed. fed_inside lane r q its fed) mux_names muxes_lanes in_muxes found.first.branch first_branch (none FreeData found.first.branch) in
      let (x, i, is) = found.all_lanes lane bound.its.is_lane in
      let same : x.branch ≡ bound.branch = one_branch c typed m d lane x.branch bound.branch (subst (λ z. BranchOf c m d z x.branch) is (found.each_lane x i).0) bound.its in
      record {
        entered = entered;
        branches = branches;
        data_lane = x;
        is_data_lane = i;
        data_source = bound.source;
        is_data = ap (λ z. c.feeder (port_at z 1)) same ∙ bound.fed;
        bound_data = elim bound.bound [ inl also ↦ inl (found.all_lanes bound.source.node also) | inr reached ↦ inr reached ];
      }
    where
      at : (n : Name) → HasLane l n → (r : Name) × BranchOf c m d n r
      at n (x, i, is) = (x.branch, subst (λ z. BranchOf c m d z x.branch) is (found.each_lane x i).0)

  -- the condition

  abbrev Agrees : Lane → Type 0
  Agrees x = Root c (port_at x.branch 2) found.root

  -- of lanes in order, all agree with the first, or one is the first that does not
  data Agreement (xs : List Lane) : Type 0 where
    all_agree : ((x : Lane) → In x xs → Agrees x) → Agreement xs
    one_differs : (x : Lane) → In x xs → ¬ (Agrees x) → ((y : Lane) → In y xs → IsBefore y.mux x.mux → Agrees y) → Agreement xs

  agreement : (xs : List Lane) → Ascending (map (λ (x : Lane). x.mux) xs) → Agreement xs
  agreement [] ascending = all_agree (λ x i. elim i [ ])
  agreement (x ∷ xs) ascending =
      elim (found.told (port_at x.branch 2)) [
        | inl agrees ↦ with_first x xs agrees (agreement xs ascending.1)
        | inr differs ↦ one_differs x (head refl) differs (λ y i before. absurd (none_before y i before))
      ]
    where
      none_before : (y : Lane) → In y (x ∷ xs) → IsBefore y.mux x.mux → ⊥
      none_before y (head e) before = not_itself x.mux (subst (λ (z : Lane). IsBefore z.mux x.mux) e before)
      none_before y (tail i) before = not_both x.mux y.mux (each_in (IsBefore x.mux) (map (λ (x : Lane). x.mux) xs) y.mux ascending.0 (mapped y xs i)) before

      with_first : (x : Lane) (xs : List Lane) → Agrees x → Agreement xs → Agreement (x ∷ xs)
      with_first x xs agrees (all_agree rest) = all_agree (λ y i. or_first x xs agrees rest y i)
        where
          or_first : (x : Lane) (xs : List Lane) → Agrees x → ((y : Lane) → In y xs → Agrees y) → (y : Lane) → In y (x ∷ xs) → Agrees y
          or_first x xs agrees rest y (head e) = subst Agrees (sym e) agrees
          or_first x xs agrees rest y (tail i) = rest y i
      with_first x xs agrees (one_differs z i differs earlier) = one_differs z (tail i) differs (λ y j before. or_before x xs agrees z earlier y j before)
        where
          or_before : (x : Lane) (xs : List Lane) → Agrees x → (z : Lane) → ((y : Lane) → In y xs → IsBefore y.mux z.mux → Agrees y) → (y : Lane) → In y (x ∷ xs) → IsBefore y.mux z.mux → Agrees y
          or_before x xs agrees z earlier y (head e) before = subst Agrees (sym e) agrees
          or_before x xs agrees z earlier y (tail i) before = earlier y i before

  differ : (p : Port) → ¬ (Root c p found.root) → RootsDiffer c p (port_at found.first.branch 2)
  differ p apart =
      ((λ z of_p of_first. apart (subst (Root c p) (one c (port_at found.first.branch 2) z found.root of_first found.its_root) of_p)), found.root, inr found.its_root)

  agreed : (s : Name) → (x : Lane) → In x l.lanes → Agrees x → (lane : Name) → x.mux ≡ lane → BranchOf c m d lane s → RootsDiffer c (port_at s 2) (port_at found.first.branch 2) → ⊥
  agreed s x i agrees lane is its h =
      let same : x.branch ≡ s = one_branch c typed m d lane x.branch s (subst (λ z. BranchOf c m d z x.branch) is (found.each_lane x i).0) its in
      h.0 found.root (subst (λ z. Root c (port_at z 2) found.root) same agrees) found.its_root

  all_lanes_agree : (x : Lane) → In x l.lanes → Agrees x
  all_lanes_agree x i =
      elim (agreement l.lanes found.lanes_by_name) [
        | all_agree h ↦ h x i
        | one_differs z j differs earlier ↦
            absurd
            (none ConditionRoot z.branch (
              found.first.branch,
              first_branch,
              inl (
                z.mux,
                (found.each_lane z j).0,
                differ (port_at z.branch 2) differs,
                (λ other s its before h.
                    let (y, k, is) = found.all_lanes other its.is_lane in
                    agreed s y k (earlier y k (subst (λ n. IsBefore n z.mux) (sym is) before)) other is its h),
              ),
            ))
      ]

  decides_mark : Root c (port_at m 1) found.root
  decides_mark =
      elim (found.told (port_at m 1)) [
        | inl h ↦ h
        | inr apart ↦
            absurd
            (none ConditionRoot m (
              found.first.branch,
              first_branch,
              inr (refl, differ (port_at m 1) apart, (λ lane s its h. let (y, k, is) = found.all_lanes lane its.is_lane in agreed s y k (all_lanes_agree y k) lane is its h)),
            ))
      ]

  has_condition : HasCondition c m l
  has_condition =
      record {
        condition = found.root;
        decides = λ r has. subst (λ z. Root c (port_at z 2) found.root) has.2 (all_lanes_agree has.0 has.1);
        decides_mark = decides_mark;
        bound = λ feeder. none FreeCondition found.root.node (found.first.branch, first_branch, found.root, found.its_root, refl, feeder);
      }

  -- the limits
  ascending_once : (ns : List Name) → Ascending ns → NoneTwice ns
  ascending_once [] h = tt
  ascending_once (n ∷ ns) h = (apart n ns h.0, ascending_once ns h.1)
    where
      apart : (n : Name) (ns : List Name) → AllByRecursion (IsBefore n) ns → AllByRecursion (λ k. n ≢ k) ns
      apart n [] h = tt
      apart n (k ∷ ns) h = ((λ e. not_itself k (subst (λ z. IsBefore z k) e h.0)), apart n ns h.1)

  count_lanes : (xs : List Lane) → length (map (λ (x : Lane). x.mux) xs) ≡ length xs
  count_lanes [] = refl
  count_lanes (x ∷ xs) = ap suc (count_lanes xs)

  count_fields : (xs : List Lane) → ((x : Lane) → In x xs → c.kind_at x.mux ≡ Some (Mux x.shape)) → fields_of c (map (λ (x : Lane). x.mux) xs) ≡ length (concat (map (λ (x : Lane). x.shape) xs))
  count_fields [] h = refl
  count_fields (x ∷ xs) h =
      ap (λ k. fields_at k + fields_of c (map (λ (x : Lane). x.mux) xs)) (h x (head refl))
      ∙ ap (λ z. length x.shape + z) (count_fields xs (λ y i. h y (tail i))) ∙ sym (length-append x.shape (concat (map (λ (x : Lane). x.shape) xs)))

  narrow : length l.lanes ≤ 62
  narrow =
      elim (told_le (length l.lanes) 62) [
        | inl h ↦ h
        | inr more ↦ absurd (none TooManyLanes m (refl, muxes_of l, ascending_once (muxes_of l) found.lanes_by_name, (λ n i. is_lane n (of_mapped n l.lanes i)), subst (λ z. 62 < z) (sym (count_lanes l.lanes)) more))
      ]

  slim : length (concat (shapes_of l)) ≤ 127
  slim =
      elim (told_le (length (concat (shapes_of l))) 127) [
        | inl h ↦ h
        | inr more ↦
            absurd
            (none TooWide m
            (refl, muxes_of l, ascending_once (muxes_of l) found.lanes_by_name, (λ n i. is_lane n (of_mapped n l.lanes i)), subst (λ z. 127 < z) (sym (count_fields l.lanes (λ x i. (each_lane x i).is_mux))) more))
      ]

  pub is_loop : LoopAt c m l
  is_loop = record { mark = found.mark; tree = has_tree; body = has_body; branches = has_branches; condition = has_condition; narrow = narrow; slim = slim }
