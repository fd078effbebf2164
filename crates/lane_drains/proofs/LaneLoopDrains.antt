-- Where a loop in a circuit of its own drains, each tuple loops to the one that goes out.
use Rattle.std.proofs.Common.{◌≡◌, ◌≢◌, ℕ, zero, suc, inl, inr, refl, sym, ap, subst, ◌∙◌, Bool, List, [], ◌∷◌, ◌++◌, length, Some, None, append-nil}
use Rattle.std.proofs.lemmas.Option.{same_Some}
use Rattle.std.specs.List.{AllByRecursion}
use Rattle.body_laws.specs.Bodies.{IsSteady}
use Rattle.circuits.proofs.Lists.{each_map, each_append}
use Rattle.circuits.specs.Circuit.{Circuit, Typed, kind_of}
use Rattle.circuits.specs.CircuitState.{start, initial}
use Rattle.circuits.specs.Drains.{put_by, put_on, loaded, IsNoExit}
use Rattle.circuits.specs.PortTokens.{Token}
use Rattle.circuits.specs.Replacing.{In, In.head}
use Rattle.circuits.specs.Values.{ValuesFit}
use Rattle.lane_drains.specs.Laws.{DrainsAreLoops}
use Rattle.part_drains.proofs.Notions.{drains_to}
use Rattle.circuits.specs.Root.{PassesThrough}
use Rattle.components.specs.Kind.{Shape, ins, outs}
use Rattle.components.specs.Name.{Name, Port, port_get}
use Rattle.components.specs.declared.kind.Kind.{Kind}
use Rattle.components.specs.declared.kind.Kind.TheVariants.{Entry, Exit, Buffer, Fork, Join, Split, Sink0, Source0, Constant, Mux, Branch, Init, Pure, Operator}
use Rattle.lane_drains.proofs.LaneFlow.{Merged, mux_flow, branch_flow, merged_length, lag, lag_length, lagged, takes_length, gives_length}
use Rattle.lane_drains.proofs.LaneTurns.{Flows, FitsFor, all_turns, lane_in, lane_out, of_port, from_exit}
use Rattle.lane_drains.proofs.Streams.{Act, acts_of, acts_do, no_acts, takes_at, gives_at, Does, stream, flow, emptied, along, init_flow, taken_fits, no_entry_acts, no_exit_acts, tree_content}
use Rattle.lane_drains.proofs.Walks.{ComesBackTo, ComesBackTo.fed, ComesBackTo.through, walk}
use Rattle.lane_drains.specs.LaneLoop.{LoopLane, FromLoop, FiresEachTurn, FiresEachTurn.after_lane, FiresEachTurn.after, FiresEachTurn.before, FiresEachTurn.before_branch, FiresEachTurn.before_mark, IsLaneLoop, exit_token, LoopsByTuples}
use Rattle.loop_laws.specs.Polarity.{exit_bit, back_out, exit_out, fresh_in, back_in}
use Rattle.loop_laws.specs.Reached.{port_at}
use Rattle.part_drains.proofs.Draining.{InitBehind, InitBehind.init, InitBehind.past, LedBy, DrainsTo, InputsFit, start_at, led_comes}
use Rattle.part_drains.proofs.PartStates.{loaded_fits}
use Rattle.part_drains.proofs.Untouched.{led_dry, firings_fit}
use Rattle.port_types.specs.Token.{Fits}

body_content : (ins : Name → List Token) (n : Name) (k : Kind) → IsSteady k → initial (Some k) ++ put_by ins (Some k) n ≡ []
body_content ins n (Buffer a) h = refl
body_content ins n (Fork a j) h = refl
body_content ins n (Join bs) h = refl
body_content ins n (Split bs) h = refl
body_content ins n (Sink0 a) h = refl
body_content ins n (Source0 a) h = refl
body_content ins n (Constant a w v) h = refl
body_content ins n (Pure f b) h = refl
body_content ins n (Operator o ws w) h = refl
body_content ins n _ h = absurd h

tree_start : (k : Kind) → PassesThrough k → initial (Some k) ≡ []
tree_start (Buffer a) h = refl
tree_start (Fork a j) h = refl
tree_start _ h = absurd h

tree_no_exit : (k : Kind) → PassesThrough k → IsNoExit k
tree_no_exit (Buffer a) h = tt
tree_no_exit (Fork a j) h = tt
tree_no_exit _ h = absurd h

body_no_exit : (k : Kind) → IsSteady k → IsNoExit k
body_no_exit (Exit a) h = absurd h
body_no_exit _ h = tt

body_no_init : (k : Kind) → IsSteady k → (v m : ℕ) → k ≡ Init v m → ⊥
body_no_init k h v m e = subst IsSteady e h

tree_no_init : (k : Kind) → PassesThrough k → (v m : ℕ) → k ≡ Init v m → ⊥
tree_no_init k h v m e = subst PassesThrough e h

module _ (values : ValuesFit) (c : Circuit) (ty : Typed c) (d : Bool) (mark : Name) (lanes : List LoopLane) (body : List Name) (condition : Port) (loop : IsLaneLoop c d mark lanes body condition) (given got : Name → List Token) (fit : InputsFit c given) (dr : DrainsTo c given got) where
  -- the ways of the bits and of what comes back
  select : (l : LoopLane) → In l lanes → ComesBackTo c (port_at mark 1) (port_at l.mux 1)
  select l i = walk c (port_at l.mux 1) (port_at mark 1) (loop.each_lane l i).select

  back : (l : LoopLane) → In l lanes → ComesBackTo c (port_at l.branch (back_out d)) (port_at l.mux (back_in d))
  back l i = walk c (port_at l.mux (back_in d)) (port_at l.branch (back_out d)) (loop.each_lane l i).back

  decides : (l : LoopLane) → In l lanes → ComesBackTo c condition (port_at l.branch 2)
  decides l i = walk c (port_at l.branch 2) condition (loop.each_lane l i).decides

  decides_mark : ComesBackTo c condition (port_at mark 1)
  decides_mark = walk c (port_at mark 1) condition loop.decides_mark

  -- wires that no Init leads to are empty at rest
  rest_none_at : (p : Port) → (InitBehind c p → ⊥) → (xs : List Token) → dr.rest.wires p ≡ xs → dr.rest.wires p ≡ []
  rest_none_at p never [] e = e
  rest_none_at p never (v ∷ vs) e =
      absurd (never (led_comes c (start c) dr.is_rest.firings dr.rest dr.is_rest.led dr.is_rest.leads (λ q w ws f. start_at c q w ws (c.feeder q) refl f) p v vs e))

  rest_none : (p : Port) → (InitBehind c p → ⊥) → dr.rest.wires p ≡ []
  rest_none p never = rest_none_at p never (dr.rest.wires p) refl

  end_none : (p : Port) (k : Kind) → c.kind_at p.node ≡ Some k → IsNoExit k → (InitBehind c p → ⊥) → dr.end.wires p ≡ []
  end_none p k e h never = dr.others p k e h ∙ rest_none p never

  -- no Init leads into the body or to what is fed from it
  body_feeds : (n : Name) → In n body → (q : Port) → c.feeder (port_at n 1) ≡ Some q → FromLoop lanes body q
  body_feeds n i q f = loop.inputs (port_at n 1) q i f

  loop_no_init : (p : Port) → ((q : Port) → c.feeder p ≡ Some q → FromLoop lanes body q) → InitBehind c p → ⊥
  loop_no_init p from (init q v m f e) =
      elim (from q f) [
        | inl h ↦
            let w = loop.each_lane h.0 h.1 in
            let same : Mux (h.0).shape ≡ Init v m = same_Some (Mux (h.0).shape) (Init v m) (sym w.is_mux ∙ ap (λ (z : Port). c.kind_at z.node) (sym h.2) ∙ e) in
            cc
        | inr i ↦ let (k, kk, may) = loop.body_kind q.node i in body_no_init k may v m (same_Some k (Init v m) (sym kk ∙ e))
      ]
  loop_no_init p from (past q k f e tree ch) =
      elim (from q f) [
        | inl h ↦
            let w = loop.each_lane h.0 h.1 in
            subst PassesThrough (same_Some k (Mux (h.0).shape) (sym e ∙ ap (λ (z : Port). c.kind_at z.node) h.2 ∙ w.is_mux)) tree
        | inr i ↦ loop_no_init (record { node = q.node; port = 1 }) (λ r g. body_feeds q.node i r g) ch
      ]

  fed_no_init : (p q : Port) → c.feeder p ≡ Some q → FromLoop lanes body q → InitBehind c p → ⊥
  fed_no_init p q f from ch = loop_no_init p (λ r g. subst (FromLoop lanes body) (same_Some q r (sym f ∙ g)) from) ch

  -- nor along a way from elsewhere
  way_no_init : (q p : Port) → ((x : Port) → c.feeder x ≡ Some q → InitBehind c x → ⊥) → ComesBackTo c q p → InitBehind c p → ⊥
  way_no_init q p never (fed f) ch = never p f ch
  way_no_init q p never (through u k f kk tree w) (init x v m g e) =
      tree_no_init k tree v m (same_Some k (Init v m) (sym kk ∙ ap (λ (z : Port). c.kind_at z.node) (same_Some u x (sym f ∙ g)) ∙ e))
  way_no_init q p never (through u k f kk tree w) (past x j g e jt ch) =
      way_no_init q (port_at u.node 1) never w (subst (λ (z : Port). InitBehind c (record { node = z.node; port = 1 })) (same_Some x u (sym g ∙ f)) ch)

  condition_never : (x : Port) → c.feeder x ≡ Some condition → InitBehind c x → ⊥
  condition_never x f ch = fed_no_init x condition f loop.condition_from ch

  branch_never : (l : LoopLane) → In l lanes → (i : ℕ) (x : Port) → c.feeder x ≡ Some (port_at l.branch i) → InitBehind c x → ⊥
  branch_never l i j x f (init q v m g e) =
      let w = loop.each_lane l i in
      let same : Branch l.shape ≡ Init v m = same_Some (Branch l.shape) (Init v m) (sym w.is_branch ∙ ap (λ (z : Port). c.kind_at z.node) (same_Some (port_at l.branch j) q (sym f ∙ g)) ∙ e) in
      cc
  branch_never l i j x f (past q k g e tree ch) =
      let w = loop.each_lane l i in
      subst PassesThrough (same_Some k (Branch l.shape) (sym e ∙ ap (λ (z : Port). c.kind_at z.node) (same_Some q (port_at l.branch j) (sym g ∙ f)) ∙ w.is_branch)) tree

  entry_never : (l : LoopLane) → In l lanes → (x : Port) → c.feeder x ≡ Some (port_at l.entry 1) → InitBehind c x → ⊥
  entry_never l i x f (init q v m g e) =
      let w = loop.each_lane l i in
      let same : Entry l.shape ≡ Init v m = same_Some (Entry l.shape) (Init v m) (sym w.is_entry ∙ ap (λ (z : Port). c.kind_at z.node) (same_Some (port_at l.entry 1) q (sym f ∙ g)) ∙ e) in
      cc
  entry_never l i x f (past q k g e tree ch) =
      let w = loop.each_lane l i in
      subst PassesThrough (same_Some k (Entry l.shape) (sym e ∙ ap (λ (z : Port). c.kind_at z.node) (same_Some q (port_at l.entry 1) (sym g ∙ f)) ∙ w.is_entry)) tree

  -- Forks and Buffers behind the mark are led
  mark_leads : (p : Port) → ComesBackTo c (port_at mark 1) p → InitBehind c p
  mark_leads p (fed f) = init (port_at mark 1) (exit_bit d) loop.tags f loop.is_mark
  mark_leads p (through r k f e tree w) = past r k f e tree (mark_leads (port_at r.node 1) w)

  way_dry : (q : Port) → ((x : Port) → c.feeder x ≡ Some q → InitBehind c x → ⊥) → (n : Name) (k : Kind) → c.kind_at n ≡ Some k → PassesThrough k → ComesBackTo c q (port_at n 1) → dr.end.wires (port_at n 1) ≡ []
  way_dry q never n k e tree w = end_none (port_at n 1) k e (tree_no_exit k tree) (way_no_init q (port_at n 1) never w)

  mark_rests : (n : Name) (k : Kind) → c.kind_at n ≡ Some k → PassesThrough k → ComesBackTo c (port_at mark 1) (port_at n 1) → dr.rest.wires (port_at n 1) ≡ []
  mark_rests n k e tree w =
      led_dry c dr.rest dr.is_rest n (record { kind = k; is_kind = e; tree = tree; comes = mark_leads (port_at n 1) w })

  mark_dry : (n : Name) (k : Kind) → c.kind_at n ≡ Some k → PassesThrough k → ComesBackTo c (port_at mark 1) (port_at n 1) → dr.end.wires (port_at n 1) ≡ []
  mark_dry n k e tree w = dr.others (port_at n 1) k e (tree_no_exit k tree) ∙ mark_rests n k e tree w

  -- the drain, as streams
  abbrev content : Port → List Token
  content q = initial (c.kind_at q.node) ++ put_by given (c.kind_at q.node) q.node

  begins : (p q : Port) → c.feeder p ≡ Some q → (loaded c given).wires p ≡ content q
  begins p q f = λ i. initial (kind_of c (f i)) ++ put_on c given (f i)

  no_tree : (q : Port) (k : Kind) → c.kind_at q.node ≡ Some k → PassesThrough k → content q ≡ []
  no_tree q k e h = ap (λ o. initial o ++ put_by given o q.node) e ∙ tree_content given q.node k h

  abbrev str : Port → List Token
  str = stream c ty (loaded c given) dr.firings dr.end dr.leads content begins no_tree

  abbrev acts : Name → List Act
  acts n = acts_of c n (loaded c given) dr.firings dr.end dr.leads

  does : (n : Name) (k : Kind) → c.kind_at n ≡ Some k → AllByRecursion (Does k) (acts n)
  does n k e = acts_do c n k e (loaded c given) dr.firings dr.end dr.leads

  takes_all : (p q : Port) → c.feeder p ≡ Some q → dr.end.wires p ≡ [] → takes_at p.port (acts p.node) ≡ str q
  takes_all = emptied c ty (loaded c given) dr.firings dr.end dr.leads content begins no_tree

  flows : (p q : Port) → c.feeder p ≡ Some q → str q ≡ takes_at p.port (acts p.node) ++ dr.end.wires p
  flows = flow c ty (loaded c given) dr.firings dr.end dr.leads content begins no_tree

  way : (q p : Port) → ((n : Name) (k : Kind) → c.kind_at n ≡ Some k → PassesThrough k → ComesBackTo c q (port_at n 1) → dr.end.wires (port_at n 1) ≡ []) → ComesBackTo c q p → (x : Port) → c.feeder p ≡ Some x → str x ≡ str q
  way = along c ty (loaded c given) dr.firings dr.end dr.leads content begins no_tree

  -- the bits of the condition
  abbrev bits : List Token
  bits = str condition

  way_feeder : (q p : Port) → ComesBackTo c q p → (x : Port) × (c.feeder p ≡ Some x)
  way_feeder q p (fed f) = (q, f)
  way_feeder q p (through u k f kk tree w) = (u, f)

  takes_way : (q p : Port) (k : Kind) → c.kind_at p.node ≡ Some k → IsNoExit k → ((x : Port) → c.feeder x ≡ Some q → InitBehind c x → ⊥) → ComesBackTo c q p → takes_at p.port (acts p.node) ≡ str q
  takes_way q p k e h never w =
      let (x, f) = way_feeder q p w in
      takes_all p x f (end_none p k e h (way_no_init q p never w)) ∙ way q p (way_dry q never) w x f

  mark_takes : takes_at 1 (acts mark) ≡ bits
  mark_takes = takes_way condition (port_at mark 1) (Init (exit_bit d) loop.tags) loop.is_mark tt condition_never decides_mark

  mark_gives : str (port_at mark 1) ≡ exit_token d ∷ bits
  mark_gives =
      ap (λ o. (initial o ++ put_by given o mark) ++ gives_at 1 (acts mark)) loop.is_mark
      ∙ ap (λ z. exit_token d ∷ z) (sym (init_flow (exit_bit d) loop.tags (acts mark) (does mark (Init (exit_bit d) loop.tags) loop.is_mark)) ∙ mark_takes)

  -- at rest each select waits for the first bit
  abbrev begin : Port → List Token
  begin q = initial (c.kind_at q.node)

  begin_is : (p q : Port) → c.feeder p ≡ Some q → (start c).wires p ≡ begin q
  begin_is p q f = λ i. initial (kind_of c (f i))

  begin_tree : (q : Port) (k : Kind) → c.kind_at q.node ≡ Some k → PassesThrough k → begin q ≡ []
  begin_tree q k e h = ap initial e ∙ tree_start k h

  idle : (n : Name) (k : Kind) → c.kind_at n ≡ Some k → (PassesThrough k → ⊥) → acts_of c n (start c) dr.is_rest.firings dr.rest dr.is_rest.leads ≡ []
  idle n k e h =
      no_acts c n (start c) dr.is_rest.firings dr.rest dr.is_rest.leads
      (each_map (λ f. LedBy c f.node) (λ f. f.node ≢ n) (λ f led is. h (subst PassesThrough (same_Some led.kind k (sym led.is_kind ∙ ap c.kind_at is ∙ e)) led.tree)) dr.is_rest.firings dr.is_rest.led)

  select_rests : (l : LoopLane) → In l lanes → dr.rest.wires (port_at l.mux 1) ≡ exit_token d ∷ []
  select_rests l i =
      let w = loop.each_lane l i in
      let (x, f) = way_feeder (port_at mark 1) (port_at l.mux 1) (select l i) in
      ap (λ a. takes_at 1 a ++ dr.rest.wires (port_at l.mux 1)) (sym (idle l.mux (Mux l.shape) w.is_mux (λ h. h)))
      ∙ sym (flow c ty (start c) dr.is_rest.firings dr.rest dr.is_rest.leads begin begin_is begin_tree (port_at l.mux 1) x f)
      ∙ along c ty (start c) dr.is_rest.firings dr.rest dr.is_rest.leads begin begin_is begin_tree (port_at mark 1) (port_at l.mux 1) mark_rests (select l i) x f
      ∙ ap (λ a. begin (port_at mark 1) ++ gives_at 1 a) (idle mark (Init (exit_bit d) loop.tags) loop.is_mark (λ h. h))
      ∙ append-nil (begin (port_at mark 1)) ∙ ap initial loop.is_mark

  select_is : (l : LoopLane) → In l lanes → exit_token d ∷ bits ≡ takes_at 1 (acts l.mux) ++ exit_token d ∷ []
  select_is l i =
      let w = loop.each_lane l i in
      let (x, f) = way_feeder (port_at mark 1) (port_at l.mux 1) (select l i) in
      sym mark_gives ∙ sym (way (port_at mark 1) (port_at l.mux 1) mark_dry (select l i) x f) ∙ flows (port_at l.mux 1) x f
      ∙ ap (λ z. takes_at 1 (acts l.mux) ++ z) (dr.others (port_at l.mux 1) (Mux l.shape) w.is_mux tt ∙ select_rests l i)

  -- the lanes
  mux_stream : (l : LoopLane) → In l lanes → str (port_at l.mux 1) ≡ gives_at 1 (acts l.mux)
  mux_stream l i =
      let w = loop.each_lane l i in ap (λ o. (initial o ++ put_by given o l.mux) ++ gives_at 1 (acts l.mux)) w.is_mux

  branch_stream : (l : LoopLane) → In l lanes → (j : ℕ) → str (port_at l.branch j) ≡ gives_at j (acts l.branch)
  branch_stream l i j =
      let w = loop.each_lane l i in ap (λ o. (initial o ++ put_by given o l.branch) ++ gives_at j (acts l.branch)) w.is_branch

  entry_stream : (l : LoopLane) → In l lanes → str (port_at l.entry 1) ≡ given l.entry
  entry_stream l i =
      let w = loop.each_lane l i in
      ap (λ o. (initial o ++ put_by given o l.entry) ++ gives_at 1 (acts l.entry)) w.is_entry
      ∙ ap (λ a. given l.entry ++ gives_at 1 a) (no_entry_acts l.shape (acts l.entry) (does l.entry (Entry l.shape) w.is_entry)) ∙ append-nil (given l.entry)

  fresh_takes : (l : LoopLane) → In l lanes → takes_at (fresh_in d) (acts l.mux) ≡ given l.entry
  fresh_takes l i =
      let w = loop.each_lane l i in
      takes_all (port_at l.mux (fresh_in d)) (port_at l.entry 1) w.fresh
      (end_none (port_at l.mux (fresh_in d)) (Mux l.shape) w.is_mux tt (entry_never l i (port_at l.mux (fresh_in d)) w.fresh))
      ∙ entry_stream l i

  back_takes : (l : LoopLane) → In l lanes → takes_at (back_in d) (acts l.mux) ≡ gives_at (back_out d) (acts l.branch)
  back_takes l i =
      let w = loop.each_lane l i in
      takes_way (port_at l.branch (back_out d)) (port_at l.mux (back_in d)) (Mux l.shape) w.is_mux tt (branch_never l i (back_out d)) (back l i)
      ∙ branch_stream l i (back_out d)

  decided : (l : LoopLane) → In l lanes → takes_at 2 (acts l.branch) ≡ bits
  decided l i =
      let w = loop.each_lane l i in takes_way condition (port_at l.branch 2) (Branch l.shape) w.is_branch tt condition_never (decides l i)

  next_takes : (l : LoopLane) → (i : In l lanes) → takes_at 1 (acts l.branch) ≡ lane_out c ty d mark lanes body condition loop str l
  next_takes l i =
      let w = loop.each_lane l i in
      takes_all (port_at l.branch 1) w.next w.is_next
      (end_none (port_at l.branch 1) (Branch l.shape) w.is_branch tt (fed_no_init (port_at l.branch 1) w.next w.is_next w.from_loop))
      ∙ ap (of_port str) (sym w.is_next)

  exit_gives : (l : LoopLane) → In l lanes → gives_at (exit_out d) (acts l.branch) ≡ got l.exit
  exit_gives l i =
      let w = loop.each_lane l i in
      sym (branch_stream l i (exit_out d)) ∙ flows (port_at l.exit 1) (port_at l.branch (exit_out d)) w.result
      ∙ ap (λ a. takes_at 1 a ++ dr.end.wires (port_at l.exit 1)) (no_exit_acts l.shape (acts l.exit) (does l.exit (Exit l.shape) w.is_exit))
      ∙ dr.exits l.exit l.shape w.is_exit

  lane_mux : (l : LoopLane) → In l lanes → Merged d (lag (exit_token d) bits) (given l.entry) (gives_at (back_out d) (acts l.branch)) (lane_in c ty d mark lanes body condition loop str l)
  lane_mux l i =
      let w = loop.each_lane l i in
      let (bit, last) = lagged (takes_at 1 (acts l.mux)) (exit_token d) (exit_token d) bits (select_is l i) in
      subst (λ z. Merged d z (given l.entry) (gives_at (back_out d) (acts l.branch)) (str (port_at l.mux 1))) bit
      (subst (λ z. Merged d (takes_at 1 (acts l.mux)) z (gives_at (back_out d) (acts l.branch)) (str (port_at l.mux 1))) (fresh_takes l i)
      (subst (λ z. Merged d (takes_at 1 (acts l.mux)) (takes_at (fresh_in d) (acts l.mux)) z (str (port_at l.mux 1))) (back_takes l i)
      (subst (Merged d (takes_at 1 (acts l.mux)) (takes_at (fresh_in d) (acts l.mux)) (takes_at (back_in d) (acts l.mux))) (sym (mux_stream l i))
      (mux_flow d l.shape (acts l.mux) (does l.mux (Mux l.shape) w.is_mux)))))

  lane_branch : (l : LoopLane) → (i : In l lanes) → Merged d bits (got l.exit) (gives_at (back_out d) (acts l.branch)) (lane_out c ty d mark lanes body condition loop str l)
  lane_branch l i =
      let w = loop.each_lane l i in
      subst (Merged d bits (got l.exit) (gives_at (back_out d) (acts l.branch))) (next_takes l i)
      (subst (λ z. Merged d z (got l.exit) (gives_at (back_out d) (acts l.branch)) (takes_at 1 (acts l.branch))) (decided l i)
      (subst (λ z. Merged d (takes_at 2 (acts l.branch)) z (gives_at (back_out d) (acts l.branch)) (takes_at 1 (acts l.branch))) (exit_gives l i)
      (branch_flow d l.shape (acts l.branch) (does l.branch (Branch l.shape) w.is_branch))))

  -- the body
  body_takes : (p q : Port) → In p.node body → c.feeder p ≡ Some q → takes_at p.port (acts p.node) ≡ str q
  body_takes p q i f =
      let (k, e, may) = loop.body_kind p.node i in
      takes_all p q f (end_none p k e (body_no_exit k may) (fed_no_init p q f (loop.inputs p q i f)))

  body_gives : (p q : Port) → In q.node body → c.feeder p ≡ Some q → gives_at q.port (acts q.node) ≡ str q
  body_gives p q i f =
      let (k, e, may) = loop.body_kind q.node i in
      ap (λ z. z ++ gives_at q.port (acts q.node)) (sym (ap (λ o. initial o ++ put_by given o q.node) e ∙ body_content given q.node k may))

  in_length : (p q : Port) → In p.node body → c.feeder p ≡ Some q → length (acts p.node) ≡ length (str q)
  in_length p q i f =
      let (k, e, may) = loop.body_kind p.node i in
      let w = ty.wires p q f in
      sym (takes_length k may p.port w.shape (ap (λ z. port_get (ins z) p.port) (same_Some k w.to (sym e ∙ w.is_to)) ∙ w.enters) (acts p.node) (does p.node k e))
      ∙ ap length (body_takes p q i f)

  out_length : (p q : Port) → In q.node body → c.feeder p ≡ Some q → length (acts q.node) ≡ length (str q)
  out_length p q i f =
      let (k, e, may) = loop.body_kind q.node i in
      let w = ty.wires p q f in
      sym (gives_length k may q.port w.shape (ap (λ z. port_get (outs z) q.port) (same_Some k w.from (sym e ∙ w.is_from)) ∙ w.leaves) (acts q.node) (does q.node k e))
      ∙ ap length (body_gives p q i f)

  branch_length : (l : LoopLane) → In l lanes → (i : ℕ) (b : Shape) → port_get (ins (Branch l.shape)) i ≡ Some b → (q : Port) → c.feeder (port_at l.branch i) ≡ Some q → length (str q) ≡ length bits
  branch_length l i zero b e q f = let z : None ≡ Some b = e in cc
  branch_length l i (suc zero) b e q f =
      let w = loop.each_lane l i in
      ap length (ap (of_port str) (sym f)) ∙ merged_length d bits (got l.exit) (gives_at (back_out d) (acts l.branch)) (lane_out c ty d mark lanes body condition loop str l) (lane_branch l i)
  branch_length l i (suc (suc zero)) b e q f =
      let w = loop.each_lane l i in
      ap length (way condition (port_at l.branch 2) (way_dry condition condition_never) (decides l i) q f)
  branch_length l i (suc (suc (suc j))) b e q f = let z : None ≡ Some b = e in cc

  mark_length : (i : ℕ) (b : Shape) → port_get ((1 ∷ []) ∷ []) i ≡ Some b → (q : Port) → c.feeder (port_at mark i) ≡ Some q → length (str q) ≡ length bits
  mark_length zero b e q f = let z : None ≡ Some b = e in cc
  mark_length (suc zero) b e q f = ap length (way condition (port_at mark 1) (way_dry condition condition_never) decides_mark q f)
  mark_length (suc (suc i)) b e q f = let z : None ≡ Some b = e in cc

  body_length : (n : Name) → FiresEachTurn c mark lanes body n → In n body → length (acts n) ≡ length bits
  body_length _ (after_lane p l il f) i =
      in_length p (port_at l.mux 1) i f
      ∙ merged_length d (lag (exit_token d) bits) (given l.entry) (gives_at (back_out d) (acts l.branch)) (lane_in c ty d mark lanes body condition loop str l) (lane_mux l il)
      ∙ lag_length (exit_token d) bits
  body_length _ (after p q iq f h) i = in_length p q i f ∙ sym (out_length p q iq f) ∙ body_length q.node h iq
  body_length _ (before p q ip f h) i = out_length p q i f ∙ sym (in_length p q ip f) ∙ body_length p.node h ip
  body_length _ (before_branch j l q il f) i =
      let w = loop.each_lane l il in
      let v = ty.wires (port_at l.branch j) q f in
      out_length (port_at l.branch j) q i f
      ∙ branch_length l il j v.shape (ap (λ z. port_get (ins z) j) (same_Some (Branch l.shape) v.to (sym w.is_branch ∙ v.is_to)) ∙ v.enters) q f
  body_length _ (before_mark j q f) i =
      let v = ty.wires (port_at mark j) q f in
      out_length (port_at mark j) q i f
      ∙ mark_length j v.shape (ap (λ z. port_get (ins z) j) (same_Some (Init (exit_bit d) loop.tags) v.to (sym loop.is_mark ∙ v.is_to)) ∙ v.enters) q f

  -- what passes fits
  stream_fits : (p q : Port) (k : Kind) (a : Shape) → c.feeder p ≡ Some q → c.kind_at p.node ≡ Some k → port_get (ins k) p.port ≡ Some a → AllByRecursion (Fits a) (str q)
  stream_fits p q k a f ek ea =
      subst (AllByRecursion (Fits a)) (sym (flows p q f))
      (each_append (Fits a) (takes_at p.port (acts p.node)) (dr.end.wires p)
      (taken_fits values c ty p k a ek ea (loaded c given) dr.firings dr.end dr.leads (loaded_fits c ty given fit))
      ((firings_fit values c ty (loaded c given) dr.firings dr.end dr.leads (loaded_fits c ty given fit)).wires p k a ek ea))

  ins_fit : (l : LoopLane) → In l lanes → FitsFor c ty d mark lanes body condition loop bits l.shape (lane_in c ty d mark lanes body condition loop str l)
  ins_fit l i =
      let w = loop.each_lane l i in
      let (p, f) = ty.outputs (port_at l.mux 1) (Mux l.shape) l.shape w.is_mux refl in
      let v = ty.wires p (port_at l.mux 1) f in
      let same : v.shape ≡ l.shape = same_Some v.shape l.shape (sym v.leaves ∙ ap (λ z. port_get (outs z) 1) (same_Some v.from (Mux l.shape) (sym v.is_from ∙ w.is_mux))) in
      record {
        long = merged_length d (lag (exit_token d) bits) (given l.entry) (gives_at (back_out d) (acts l.branch)) (str (port_at l.mux 1)) (lane_mux l i) ∙ lag_length (exit_token d) bits;
        all = subst (λ z. AllByRecursion (Fits z) (str (port_at l.mux 1))) same (stream_fits p (port_at l.mux 1) v.to v.shape f v.is_to v.enters);
      }

  outs_fit : (l : LoopLane) → In l lanes → FitsFor c ty d mark lanes body condition loop bits l.shape (lane_out c ty d mark lanes body condition loop str l)
  outs_fit l i =
      let w = loop.each_lane l i in
      record {
        long = merged_length d bits (got l.exit) (gives_at (back_out d) (acts l.branch)) (lane_out c ty d mark lanes body condition loop str l) (lane_branch l i);
        all = subst (AllByRecursion (Fits l.shape)) (ap (of_port str) (sym w.is_next)) (stream_fits (port_at l.branch 1) w.next (Branch l.shape) l.shape w.is_next w.is_branch refl);
      }

  all_flows : Flows c ty d mark lanes body condition loop bits str acts
  all_flows =
      record {
        lengths = λ n i. body_length n (loop.ties n i) i;
        does = λ n k i e. does n k e;
        takes = body_takes;
        gives = body_gives;
        decides = refl;
        ins_fit = ins_fit;
        outs_fit = outs_fit;
      }

  with_lane : (l : LoopLane) → In l lanes → LoopsByTuples c d lanes body condition given got
  with_lane l i =
      let last = (lagged (takes_at 1 (acts l.mux)) (exit_token d) (exit_token d) bits (select_is l i)).1 in
      let done =
      from_exit c ty d mark lanes body condition loop l i bits str (all_turns c ty d mark lanes body condition loop bits str acts all_flows)
      (λ m. given m.entry) (λ m. gives_at (back_out d) (acts m.branch)) (λ m. got m.exit) (λ m j. (lane_mux m j, lane_branch m j)) last in
      record { tuples = done.tuples; results = done.ended; loops = done.loops; columns = done.columns; result_columns = done.ended_columns }

  none_in : (l : LoopLane) → In l [] → ⊥
  none_in l i = elim i [ ]

  by_lanes : (ls : List LoopLane) → lanes ≡ ls → LoopsByTuples c d lanes body condition given got
  by_lanes [] e =
      record {
        tuples = [];
        results = [];
        loops = tt;
        columns = λ l i. absurd (none_in l (subst (In l) e i));
        result_columns = λ l i. absurd (none_in l (subst (In l) e i));
      }
  by_lanes (l ∷ ls) e = with_lane l (subst (In l) (sym e) (head refl))

  -- where the loop drains, each tuple loops to the one that goes out
  pub drains_by_tuples : LoopsByTuples c d lanes body condition given got
  drains_by_tuples = by_lanes lanes refl

pub drains_are_loops : ValuesFit → DrainsAreLoops
drains_are_loops values c d mark lanes body condition ty loop ins outs dr =
    drains_by_tuples values c ty d mark lanes body condition loop ins outs dr.fit_in (drains_to c ins outs dr)
