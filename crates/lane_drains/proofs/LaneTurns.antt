-- Streams of a loop, cut into turns, and the tuples that go through them.
use Rattle.std.proofs.Common.{◌≡◌, ℕ, suc, inl, inr, refl, sym, ap, subst, ◌∙◌, Bool, map, List, [], ◌∷◌, ◌++◌, length, Option, Some, None, arith}
use Rattle.std.proofs.lemmas.Option.{same_Some}
use Rattle.std.specs.List.{AllByRecursion}
use Rattle.circuits.specs.Circuit.{Circuit, Typed}
use Rattle.circuits.specs.PortTokens.{Token, one}
use Rattle.circuits.specs.Replacing.{In}
use Rattle.components.specs.Kind.{Shape, ins, outs}
use Rattle.components.specs.Name.{Name, Port, port_get}
use Rattle.components.specs.declared.kind.Kind.{Kind}
use Rattle.lane_drains.proofs.LaneFlow.{head_of, tail_of, Merged, merged_exit, merged_back, first_bit, exit_not_back, lag, last_of, one_in, one_out, cleaned}
use Rattle.lane_drains.proofs.Streams.{Act, takes_at, gives_at, Does}
use Rattle.lane_drains.specs.LaneLoop.{LoopLane, IsLaneLoop, FiresWith, Tuple, Turn, exit_token, back_token, LoopsTo, LoopsTo.ends, AllLoopTo}
use Rattle.loop_laws.specs.Reached.{port_at}
use Rattle.port_types.specs.Token.{Fits}

no_act : Act
no_act = record { choice = 0; taken = []; given = [] }

first_act : List Act → Act
first_act [] = no_act
first_act (a ∷ acts) = a

some_act : (acts : List Act) (n : ℕ) → length acts ≡ suc n → (acts ≡ first_act acts ∷ tail_of acts) × (length (tail_of acts) ≡ n)
unfolding first_act
some_act [] n e = let k : 0 ≡ suc n = e in absurd (omega (arith, k))
some_act (a ∷ acts) n e = let k : suc (length acts) ≡ suc n = e in (refl, omega (arith, k))

-- what a stream has at an output, and none where there is no output
abbrev pub of_port : (Port → List Token) → Option Port → List Token
of_port f None = []
of_port f (Some q) = f q

-- the streams without their first tokens
abbrev pub later : (Port → List Token) → Port → List Token
later f q = tail_of (f q)

pub later_port : (f : Port → List Token) (o : Option Port) → tail_of (of_port f o) ≡ of_port (later f) o
later_port f None = refl
later_port f (Some q) = refl

module _ (c : Circuit) (ty : Typed c) (d : Bool) (mark : Name) (lanes : List LoopLane) (body : List Name) (condition : Port) (loop : IsLaneLoop c d mark lanes body condition) where
  abbrev pub lane_in : (Port → List Token) → LoopLane → List Token
  lane_in f l = f (port_at l.mux 1)

  abbrev pub lane_out : (Port → List Token) → LoopLane → List Token
  lane_out f l = of_port f (c.feeder (port_at l.branch 1))

  -- a stream with a fitting token for each bit
  pub record FitsFor (bits : List Token) (a : Shape) (tokens : List Token) : Type 0 where
    pub long : length tokens ≡ length bits
    pub all : AllByRecursion (Fits a) tokens

  -- streams of outputs in which each body node fires as often as the condition has bits
  pub record Flows (bits : List Token) (stream : Port → List Token) (acts : Name → List Act) : Type 0 where
    pub lengths : (n : Name) → In n body → length (acts n) ≡ length bits
    pub does : (n : Name) (k : Kind) → In n body → c.kind_at n ≡ Some k → AllByRecursion (Does k) (acts n)
    pub takes : (p q : Port) → In p.node body → c.feeder p ≡ Some q → takes_at p.port (acts p.node) ≡ stream q
    pub gives : (p q : Port) → In q.node body → c.feeder p ≡ Some q → gives_at q.port (acts q.node) ≡ stream q
    pub decides : stream condition ≡ bits
    pub ins_fit : (l : LoopLane) → In l lanes → FitsFor bits l.shape (lane_in stream l)
    pub outs_fit : (l : LoopLane) → In l lanes → FitsFor bits l.shape (lane_out stream l)

  abbrev pub TurnOf : (Port → List Token) → Token → Type 0
  TurnOf f g = Turn c lanes body condition (λ l. head_of (lane_in f l)) (λ l. head_of (lane_out f l)) g

  abbrev pub AllTurns : List Token → (Port → List Token) → Type 0
  AllTurns [] f = Unit {0}
  AllTurns (g ∷ bits) f = TurnOf f g × AllTurns bits (later f)

  more_does : (k : Kind) (acts : List Act) → AllByRecursion (Does k) acts → AllByRecursion (Does k) (tail_of acts)
  more_does k [] h = tt
  more_does k (a ∷ acts) h = h.1

  first_does : (k : Kind) (acts : List Act) (n : ℕ) → length acts ≡ suc n → AllByRecursion (Does k) acts → Does k (first_act acts)
  unfolding first_act
  first_does k [] n e h = let z : 0 ≡ suc n = e in absurd (omega (arith, z))
  first_does k (a ∷ acts) n e h = h.0

  first_fits : (g : Token) (bits : List Token) (a : Shape) (tokens : List Token) → FitsFor (g ∷ bits) a tokens → Fits a (head_of tokens)
  first_fits g bits a [] h = let k : 0 ≡ suc (length bits) = h.long in absurd (omega (arith, k))
  first_fits g bits a (v ∷ tokens) h = h.all.0

  rest_fit : (g : Token) (bits : List Token) (a : Shape) (tokens : List Token) → FitsFor (g ∷ bits) a tokens → FitsFor bits a (tail_of tokens)
  rest_fit g bits a [] h = let k : 0 ≡ suc (length bits) = h.long in absurd (omega (arith, k))
  rest_fit g bits a (v ∷ tokens) h = let k : suc (length tokens) ≡ suc (length bits) = h.long in record { long = omega (arith, k); all = h.all.1 }

  module _ (g : Token) (bits : List Token) (stream : Port → List Token) (acts : Name → List Act) (fl : Flows (g ∷ bits) stream acts) where
    -- the first firing of each body node
    first_fires : (n : Name) → In n body → FiresWith c n (λ q. head_of (stream q))
    first_fires n i =
        let (k, e, may) = loop.body_kind n i in
        let (split, len) = some_act (acts n) (length bits) (fl.lengths n i) in
        let act : Does k (first_act (acts n)) = first_does k (acts n) (length bits) (fl.lengths n i) (fl.does n k i e) in
        record {
          kind = k;
          is_kind = e;
          taken = (first_act (acts n)).taken;
          given = (first_act (acts n)).given;
          fires = cleaned k may (first_act (acts n)) act;
          takes = λ j q f.
              let w = ty.wires (port_at n j) q f in
              let (v, is) = one_in k may j w.shape (ap (λ z. port_get (ins z) j) (same_Some k w.to (sym e ∙ w.is_to)) ∙ w.enters) (first_act (acts n)) act in
              is ∙ ap one (ap head_of (sym (ap (λ z. z ++ takes_at j (tail_of (acts n))) is) ∙ ap (takes_at j) (sym split) ∙ fl.takes (port_at n j) q i f));
          gives = λ p j f.
              let w = ty.wires p (port_at n j) f in
              let (v, is) = one_out k may j w.shape (ap (λ z. port_get (outs z) j) (same_Some k w.from (sym e ∙ w.is_from)) ∙ w.leaves) (first_act (acts n)) act in
              is ∙ ap one (ap head_of (sym (ap (λ z. z ++ gives_at j (tail_of (acts n))) is) ∙ ap (gives_at j) (sym split) ∙ fl.gives p (port_at n j) i f));
        }

    first_turn : TurnOf stream g
    first_turn =
        record {
          fits = λ l i. first_fits g bits l.shape (lane_in stream l) (fl.ins_fit l i);
          next_fits = λ l i. first_fits g bits l.shape (lane_out stream l) (fl.outs_fit l i);
          value = λ q. head_of (stream q);
          starts = λ l i. refl;
          fires = first_fires;
          next = λ l i q f. ap (λ o. head_of (of_port stream o)) (sym f);
          decides = ap head_of fl.decides;
        }

    later_flows : Flows bits (later stream) (λ n. tail_of (acts n))
    later_flows =
        record {
          lengths = λ n i. (some_act (acts n) (length bits) (fl.lengths n i)).1;
          does = λ n k i e. more_does k (acts n) (fl.does n k i e);
          takes = λ p q i f.
              let (k, e, may) = loop.body_kind p.node i in
              let (split, len) = some_act (acts p.node) (length bits) (fl.lengths p.node i) in
              let w = ty.wires p q f in
              let (v, is) = one_in k may p.port w.shape (ap (λ z. port_get (ins z) p.port) (same_Some k w.to (sym e ∙ w.is_to)) ∙ w.enters) (first_act (acts p.node))
              (first_does k (acts p.node) (length bits) (fl.lengths p.node i) (fl.does p.node k i e)) in
              ap tail_of (sym (ap (λ z. z ++ takes_at p.port (tail_of (acts p.node))) is) ∙ ap (takes_at p.port) (sym split) ∙ fl.takes p q i f);
          gives = λ p q i f.
              let (k, e, may) = loop.body_kind q.node i in
              let (split, len) = some_act (acts q.node) (length bits) (fl.lengths q.node i) in
              let w = ty.wires p q f in
              let (v, is) = one_out k may q.port w.shape (ap (λ z. port_get (outs z) q.port) (same_Some k w.from (sym e ∙ w.is_from)) ∙ w.leaves) (first_act (acts q.node))
              (first_does k (acts q.node) (length bits) (fl.lengths q.node i) (fl.does q.node k i e)) in
              ap tail_of (sym (ap (λ z. z ++ gives_at q.port (tail_of (acts q.node))) is) ∙ ap (gives_at q.port) (sym split) ∙ fl.gives p q i f);
          decides = ap tail_of fl.decides;
          ins_fit = λ l i. rest_fit g bits l.shape (lane_in stream l) (fl.ins_fit l i);
          outs_fit = λ l i.
              subst (FitsFor bits l.shape) (later_port stream (c.feeder (port_at l.branch 1))) (rest_fit g bits l.shape (lane_out stream l) (fl.outs_fit l i));
        }

  pub all_turns : (bits : List Token) (stream : Port → List Token) (acts : Name → List Act) → Flows bits stream acts → AllTurns bits stream
  all_turns [] stream acts fl = tt
  all_turns (g ∷ bits) stream acts fl =
      (first_turn g bits stream acts fl, all_turns bits (later stream) (λ n. tail_of (acts n)) (later_flows g bits stream acts fl))

  -- a turn of tuples that agree on the lanes
  turn_from : (x z y : Tuple) (g : Token) → ((l : LoopLane) → In l lanes → x l ≡ z l) → Turn c lanes body condition x y g → Turn c lanes body condition z y g
  turn_from x z y g same t =
      record {
        fits = λ l i. subst (Fits l.shape) (same l i) (t.fits l i);
        next_fits = t.next_fits;
        value = t.value;
        starts = λ l i. t.starts l i ∙ same l i;
        fires = t.fires;
        next = t.next;
        decides = t.decides;
      }

  turn_bit : (x y : Tuple) (g b : Token) → g ≡ b → Turn c lanes body condition x y g → Turn c lanes body condition x y b
  turn_bit x y g b e t = record { fits = t.fits; next_fits = t.next_fits; value = t.value; starts = t.starts; fires = t.fires; next = t.next; decides = t.decides ∙ e }

  -- the tuples whose columns came in, and those that went out
  pub record Done (fresh results : LoopLane → List Token) : Type 0 where
    pub tuples : List Tuple
    pub ended : List Tuple
    pub loops : AllLoopTo c d lanes body condition tuples ended
    pub columns : (l : LoopLane) → In l lanes → fresh l ≡ map (λ (x : Tuple). x l) tuples
    pub ended_columns : (l : LoopLane) → In l lanes → results l ≡ map (λ (y : Tuple). y l) ended

  -- the same where z goes on first
  record GoesOn (z : Tuple) (fresh results : LoopLane → List Token) : Type 0 where
    ends_with : Tuple
    loops : LoopsTo c d lanes body condition ends_with z
    rest : LoopLane → List Token
    done : Done fresh rest
    first : (l : LoopLane) → In l lanes → results l ≡ ends_with l ∷ rest l

  -- what each lane merges and parts
  abbrev Lanes : Token → List Token → (fresh back results : LoopLane → List Token) → (f : Port → List Token) → Type 0
  Lanes v bits fresh back results f =
      (l : LoopLane) → In l lanes → Merged d (lag v bits) (fresh l) (back l) (lane_in f l) × Merged d bits (results l) (back l) (lane_out f l)

  abbrev WaitingLanes : List Token → Tuple → (fresh back results : LoopLane → List Token) → (f : Port → List Token) → Type 0
  WaitingLanes bits z fresh back results f =
      (l : LoopLane) → In l lanes → Merged d (lag (back_token d) bits) (fresh l) (z l ∷ back l) (lane_in f l) × Merged d bits (results l) (back l) (lane_out f l)

  module _ (one_lane : LoopLane) (is_lane : In one_lane lanes) where
    waited : (g : Token) (bits : List Token) (f : Port → List Token) (z : Tuple) (fresh back results : LoopLane → List Token) → WaitingLanes (g ∷ bits) z fresh back results f → (l : LoopLane) → In l lanes → head_of (lane_in f l) ≡ z l
    waited g bits f z fresh back results h l i =
        ap head_of (sym (merged_back d (lag g bits) (fresh l) (z l ∷ back l) (lane_in f l) ((h l i).0)).0)

    out_exit : (g : Token) (bits : List Token) (f : Port → List Token) (results back : List Token) (l : LoopLane) → g ≡ exit_token d → Merged d (g ∷ bits) results back (lane_out f l) → Merged d bits (tail_of results) back (lane_out (later f) l)
    out_exit g bits f results back l e m =
        subst (Merged d bits (tail_of results) back) (later_port f (c.feeder (port_at l.branch 1)))
        (merged_exit d bits results back (lane_out f l) (subst (λ z. Merged d (z ∷ bits) results back (lane_out f l)) e m)).1

    out_back : (g : Token) (bits : List Token) (f : Port → List Token) (results back : List Token) (l : LoopLane) → g ≡ back_token d → Merged d (g ∷ bits) results back (lane_out f l) → (back ≡ head_of (lane_out f l) ∷ tail_of back) × Merged d bits results (tail_of back) (lane_out (later f) l)
    out_back g bits f results back l e m =
        let both = merged_back d bits results back (lane_out f l) (subst (λ z. Merged d (z ∷ bits) results back (lane_out f l)) e m) in
        (both.0, subst (Merged d bits results (tail_of back)) (later_port f (c.feeder (port_at l.branch 1))) both.1)

    exit_exit : (g : Token) (bits : List Token) (f : Port → List Token) (fresh back results : LoopLane → List Token) → Lanes (exit_token d) (g ∷ bits) fresh back results f → g ≡ exit_token d → Lanes (exit_token d) bits (λ l. tail_of (fresh l)) back (λ l. tail_of (results l)) (later f)
    exit_exit g bits f fresh back results h e l i = (
      subst (λ z. Merged d (lag z bits) (tail_of (fresh l)) (back l) (lane_in (later f) l)) e (merged_exit d (lag g bits) (fresh l) (back l) (lane_in f l) ((h l i).0)).1,
      out_exit g bits f (results l) (back l) l e ((h l i).1),
    )

    exit_back : (g : Token) (bits : List Token) (f : Port → List Token) (fresh back results : LoopLane → List Token) → Lanes (exit_token d) (g ∷ bits) fresh back results f → g ≡ back_token d → WaitingLanes bits (λ l. head_of (lane_out f l)) (λ l. tail_of (fresh l)) (λ l. tail_of (back l)) results (later f)
    exit_back g bits f fresh back results h e l i =
        let out = out_back g bits f (results l) (back l) l e ((h l i).1) in (
          subst (λ z. Merged d (lag z bits) (tail_of (fresh l)) (head_of (lane_out f l) ∷ tail_of (back l)) (lane_in (later f) l)) e
              (subst (λ z. Merged d (lag g bits) (tail_of (fresh l)) z (lane_in (later f) l)) out.0
              (merged_exit d (lag g bits) (fresh l) (back l) (lane_in f l) ((h l i).0)).1),
          out.1,
        )

    back_exit : (g : Token) (bits : List Token) (f : Port → List Token) (z : Tuple) (fresh back results : LoopLane → List Token) → WaitingLanes (g ∷ bits) z fresh back results f → g ≡ exit_token d → Lanes (exit_token d) bits fresh back (λ l. tail_of (results l)) (later f)
    back_exit g bits f z fresh back results h e l i = (
      subst (λ w. Merged d (lag w bits) (fresh l) (back l) (lane_in (later f) l)) e (merged_back d (lag g bits) (fresh l) (z l ∷ back l) (lane_in f l) ((h l i).0)).1,
      out_exit g bits f (results l) (back l) l e ((h l i).1),
    )

    back_back : (g : Token) (bits : List Token) (f : Port → List Token) (z : Tuple) (fresh back results : LoopLane → List Token) → WaitingLanes (g ∷ bits) z fresh back results f → g ≡ back_token d → WaitingLanes bits (λ l. head_of (lane_out f l)) fresh (λ l. tail_of (back l)) results (later f)
    back_back g bits f z fresh back results h e l i =
        let out = out_back g bits f (results l) (back l) l e ((h l i).1) in (
          subst (λ w. Merged d (lag w bits) (fresh l) (head_of (lane_out f l) ∷ tail_of (back l)) (lane_in (later f) l)) e
              (subst (λ w. Merged d (lag g bits) (fresh l) w (lane_in (later f) l)) out.0
              (merged_back d (lag g bits) (fresh l) (z l ∷ back l) (lane_in f l) ((h l i).0)).1),
          out.1,
        )

    mutual
      pub from_exit : (bits : List Token) (f : Port → List Token) → AllTurns bits f → (fresh back results : LoopLane → List Token) → Lanes (exit_token d) bits fresh back results f → last_of (exit_token d) bits ≡ exit_token d → Done fresh results
      from_exit [] f all fresh back results h e =
          record { tuples = []; ended = []; loops = tt; columns = λ l i. ((h l i).0).0; ended_columns = λ l i. ((h l i).1).0 }
      from_exit (g ∷ bits) f all fresh back results h e =
          elim (first_bit d g bits (results one_lane) (back one_lane) (lane_out f one_lane) ((h one_lane is_lane).1)) [
            | inl ex ↦
                let x : Tuple = λ l. head_of (lane_in f l) in
                let y : Tuple = λ l. head_of (lane_out f l) in
                let done = from_exit bits (later f) all.1 (λ l. tail_of (fresh l)) back (λ l. tail_of (results l)) (exit_exit g bits f fresh back results h ex) (ap (λ z. last_of z bits) (sym ex) ∙ e) in
                record {
                  tuples = x ∷ done.tuples;
                  ended = y ∷ done.ended;
                  loops = (ends (turn_bit x y g (exit_token d) ex all.0), done.loops);
                  columns = λ l i. (merged_exit d (lag g bits) (fresh l) (back l) (lane_in f l) ((h l i).0)).0 ∙ ap (λ z. x l ∷ z) (done.columns l i);
                  ended_columns = λ l i.
                      (merged_exit d bits (results l) (back l) (lane_out f l) (subst (λ z. Merged d (z ∷ bits) (results l) (back l) (lane_out f l)) ex ((h l i).1))).0
                      ∙ ap (λ z. y l ∷ z) (done.ended_columns l i);
                }
            | inr bk ↦
                let x : Tuple = λ l. head_of (lane_in f l) in
                let y : Tuple = λ l. head_of (lane_out f l) in
                let more = from_back bits (later f) y all.1 (λ l. tail_of (fresh l)) (λ l. tail_of (back l)) results (exit_back g bits f fresh back results h bk) (ap (λ z. last_of z bits) (sym bk) ∙ e) in
                record {
                  tuples = x ∷ more.done.tuples;
                  ended = more.ends_with ∷ more.done.ended;
                  loops = (LoopsTo.turns y (turn_bit x y g (back_token d) bk all.0) more.loops, more.done.loops);
                  columns = λ l i. (merged_exit d (lag g bits) (fresh l) (back l) (lane_in f l) ((h l i).0)).0 ∙ ap (λ z. x l ∷ z) (more.done.columns l i);
                  ended_columns = λ l i. more.first l i ∙ ap (λ z. more.ends_with l ∷ z) (more.done.ended_columns l i);
                }
          ]

      from_back : (bits : List Token) (f : Port → List Token) (z : Tuple) → AllTurns bits f → (fresh back results : LoopLane → List Token) → WaitingLanes bits z fresh back results f → last_of (back_token d) bits ≡ exit_token d → GoesOn z fresh results
      from_back [] f z all fresh back results h e = absurd (exit_not_back d e)
      from_back (g ∷ bits) f z all fresh back results h e =
          elim (first_bit d g bits (results one_lane) (back one_lane) (lane_out f one_lane) ((h one_lane is_lane).1)) [
            | inl ex ↦
                let x : Tuple = λ l. head_of (lane_in f l) in
                let y : Tuple = λ l. head_of (lane_out f l) in
                let done = from_exit bits (later f) all.1 fresh back (λ l. tail_of (results l)) (back_exit g bits f z fresh back results h ex) (ap (λ w. last_of w bits) (sym ex) ∙ e) in
                record {
                  ends_with = y;
                  loops = ends (turn_from x z y (exit_token d) (λ l i. waited g bits f z fresh back results h l i) (turn_bit x y g (exit_token d) ex all.0));
                  rest = λ l. tail_of (results l);
                  done = done;
                  first = λ l i. (merged_exit d bits (results l) (back l) (lane_out f l) (subst (λ w. Merged d (w ∷ bits) (results l) (back l) (lane_out f l)) ex ((h l i).1))).0;
                }
            | inr bk ↦
                let x : Tuple = λ l. head_of (lane_in f l) in
                let y : Tuple = λ l. head_of (lane_out f l) in
                let more = from_back bits (later f) y all.1 fresh (λ l. tail_of (back l)) results (back_back g bits f z fresh back results h bk) (ap (λ w. last_of w bits) (sym bk) ∙ e) in
                record {
                  ends_with = more.ends_with;
                  loops = LoopsTo.turns y (turn_from x z y (back_token d) (λ l i. waited g bits f z fresh back results h l i) (turn_bit x y g (back_token d) bk all.0)) more.loops;
                  rest = more.rest;
                  done = more.done;
                  first = more.first;
                }
          ]
