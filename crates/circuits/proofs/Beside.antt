-- A step stays within its circuit; a simulation of a part is one of the whole.
use Rattle.std.proofs.Common.{◌≡◌, ◌≢◌, ◌⊎◌, inl, inr, refl, sym, ap, subst, ◌∙◌, List, [], ◌∷◌, ◌++◌, Option, Some, None, append-nil}
use Rattle.std.specs.List.{AllByRecursion}
use Rattle.std.proofs.lemmas.Option.{same_Some}
use Rattle.circuits.specs.Values.{ValuesFit}
use Rattle.port_types.specs.Token.{Fits}
use Rattle.components.specs.declared.kind.Kind.{Kind}
use Rattle.components.specs.Name.{Name, Port}
use Rattle.circuits.specs.PortTokens.{Token, share, share_from}
use Rattle.circuits.specs.Circuit.{Circuit, kind_of, Typed}
use Rattle.circuits.specs.CircuitState.{SlotFits, TagsDiffer, CircuitState, start, initial, IsStateOf}
use Rattle.circuits.specs.Firing.{Label, Label.Feed, Label.Take, Label.Fire, Acts}
use Rattle.circuits.specs.Run.{Step, Firing, Firings}
use Rattle.circuits.specs.Plug.{Apart, beside, or_else}
use Rattle.circuits.proofs.Steps.{share_other, append_none}
use Rattle.circuits.proofs.Simulation.{Inner, Sim, inner_then, inner_one, inner_none}
use Rattle.circuits.proofs.Fitting.{step_fits, start_fits, take_fits}

-- s and t are alike at the nodes of c
pub record Agree (c : Circuit) (s t : CircuitState) : Type 0 where
  pub wires : (p : Port) (k : Kind) → c.kind_at p.node ≡ Some k → s.wires p ≡ t.wires p
  pub slots : (n : Name) (k : Kind) → c.kind_at n ≡ Some k → s.slots n ≡ t.slots n

-- t is as s away from the nodes of c
pub record Leaves (c : Circuit) (s t : CircuitState) : Type 0 where
  pub wires : (p : Port) → c.kind_at p.node ≡ None → t.wires p ≡ s.wires p
  pub slots : (n : Name) → c.kind_at n ≡ None → t.slots n ≡ s.slots n

agree_sym : (c : Circuit) (s t : CircuitState) → Agree c s t → Agree c t s
agree_sym c s t h = record { wires = λ p k e. sym (h.wires p k e); slots = λ n k e. sym (h.slots n k e) }

apart_none_at : (c d : Circuit) → Apart c d → (n : Name) (k : Kind) → c.kind_at n ≡ Some k → (o : Option Kind) → d.kind_at n ≡ o → d.kind_at n ≡ None
apart_none_at c d h n k e None f = f
apart_none_at c d h n k e (Some m) f = absurd (h n k m e f)

pub apart_none : (c d : Circuit) → Apart c d → (n : Name) (k : Kind) → c.kind_at n ≡ Some k → d.kind_at n ≡ None
apart_none c d h n k e = apart_none_at c d h n k e (d.kind_at n) refl

pub apart_sym : (c d : Circuit) → Apart c d → Apart d c
apart_sym c d h n k m e f = h n m k f e

pub none_some : {A : Type 0} (o : Option A) (x : A) → o ≡ None → o ≡ Some x → ⊥
none_some o x e f = let g : None ≡ Some x = sym e ∙ f in cc

unfed_at : (c : Circuit) → Typed c → (p : Port) → c.kind_at p.node ≡ None → (o : Option Port) → c.feeder p ≡ o → c.feeder p ≡ None
unfed_at c ty p e None f = f
unfed_at c ty p e (Some q) f = absurd (none_some (c.kind_at p.node) (ty.wires p q f).to e (ty.wires p q f).is_to)

pub unfed : (c : Circuit) → Typed c → (p : Port) → c.kind_at p.node ≡ None → c.feeder p ≡ None
unfed c ty p e = unfed_at c ty p e (c.feeder p) refl

elsewhere : (c : Circuit) (n : Name) (k : Kind) → c.kind_at n ≡ Some k → (m : Name) → c.kind_at m ≡ None → m ≢ n
elsewhere c n k e m f is = none_some (c.kind_at m) k f (ap c.kind_at is ∙ e)

-- a step of c changes nothing away from c
local : (c : Circuit) → Typed c → (s : CircuitState) (n : Name) (l : Label) (t : CircuitState) → Step c s n l t → Leaves c s t
local c ty s n l t st =
    record {
      wires = λ p e.
          st.gives p ∙ ap (λ o. st.between p ++ share_from n st.given o) (unfed c ty p e) ∙ append-nil (st.between p)
          ∙ sym (st.takes p ∙ ap (λ z. z ++ st.between p) (share_other n st.taken p (elsewhere c n st.kind st.is_kind p.node e)));
      slots = λ m e. st.others m (elsewhere c n st.kind st.is_kind m e);
    }

-- x at a node, and y elsewhere
abbrev pick : {A : Type 0} → Option Kind → A → A → A
pick None x y = y
pick (Some k) x y = x

module _ (c : Circuit) (ty : Typed c) (s t : CircuitState) (n : Name) (l : Label) (u : CircuitState) (agree : Agree c s t) (st : Step c s n l u) where
  framed : CircuitState
  framed = record { wires = λ p. pick (c.kind_at p.node) (u.wires p) (t.wires p); slots = λ m. pick (c.kind_at m) (u.slots m) (t.slots m) }

  framed_takes : (p : Port) (o : Option Kind) → c.kind_at p.node ≡ o → t.wires p ≡ share n st.taken p ++ pick o (st.between p) (t.wires p)
  framed_takes p None e = ap (λ z. z ++ t.wires p) (sym (share_other n st.taken p (elsewhere c n st.kind st.is_kind p.node e)))
  framed_takes p (Some k) e = sym (agree.wires p k e) ∙ st.takes p

  framed_gives : (p : Port) (o : Option Kind) → c.kind_at p.node ≡ o → pick o (u.wires p) (t.wires p) ≡ pick o (st.between p) (t.wires p) ++ share_from n st.given (c.feeder p)
  framed_gives p None e = append_none (t.wires p) _ (ap (share_from n st.given) (unfed c ty p e))
  framed_gives p (Some k) e = st.gives p

  framed_others : (m : Name) → m ≢ n → (o : Option Kind) → c.kind_at m ≡ o → pick o (u.slots m) (t.slots m) ≡ t.slots m
  framed_others m h None e = refl
  framed_others m h (Some k) e = st.others m h ∙ agree.slots m k e

  framed_step : Step c t n l framed
  unfolding framed
  framed_step =
      record {
        kind = st.kind;
        is_kind = st.is_kind;
        taken = st.taken;
        given = st.given;
        acts = subst (λ x. Acts st.kind l x st.taken st.given (pick (c.kind_at n) (u.slots n) (t.slots n))) (agree.slots n st.kind st.is_kind)
            (subst (λ o. Acts st.kind l (s.slots n) st.taken st.given (pick o (u.slots n) (t.slots n))) (sym st.is_kind) st.acts);
        between = λ p. pick (c.kind_at p.node) (st.between p) (t.wires p);
        takes = λ p. framed_takes p (c.kind_at p.node) refl;
        gives = λ p. framed_gives p (c.kind_at p.node) refl;
        others = λ m h. framed_others m h (c.kind_at m) refl;
      }

  framed_agree : Agree c u framed
  unfolding framed
  framed_agree =
      record {
        wires = λ p k e. ap (λ o. pick o (u.wires p) (t.wires p)) (sym e);
        slots = λ m k e. ap (λ o. pick o (u.slots m) (t.slots m)) (sym e);
      }

  framed_leaves : Leaves c t framed
  unfolding framed
  framed_leaves =
      record {
        wires = λ p e. ap (λ o. pick o (u.wires p) (t.wires p)) e;
        slots = λ m e. ap (λ o. pick o (u.slots m) (t.slots m)) e;
      }

-- a step of c is made from each state that is alike at c, and stays within c
pub record Framed (c : Circuit) (t : CircuitState) (n : Name) (l : Label) (u : CircuitState) : Type 0 where
  pub to : CircuitState
  pub step : Step c t n l to
  pub agree : Agree c u to
  pub leaves : Leaves c t to

pub frame : (c : Circuit) → Typed c → (s t : CircuitState) (n : Name) (l : Label) (u : CircuitState) → Agree c s t → Step c s n l u → Framed c t n l u
frame c ty s t n l u a st =
    record {
      to = framed c ty s t n l u a st;
      step = framed_step c ty s t n l u a st;
      agree = framed_agree c ty s t n l u a st;
      leaves = framed_leaves c ty s t n l u a st;
    }

framed_firings : (c : Circuit) → Typed c → (s t : CircuitState) (fs : List Firing) (u : CircuitState) → Agree c s t → Firings c s fs u → (w : CircuitState) × Inner c t w × Agree c u w × Leaves c t w
framed_firings c ty s t [] u a e =
    (t, inner_none c t, subst (λ x. Agree c x t) e a, record { wires = λ p h. refl; slots = λ m h. refl })
framed_firings c ty s t (f ∷ fs) u a h =
    let one_step = frame c ty s t f.node (Fire f.choice) h.0 a h.1 in
    let (w, inn, agree, leaves) = framed_firings c ty h.0 one_step.to fs u one_step.agree h.2 in (
      w,
      inner_then c t one_step.to w (inner_one c t one_step.to f.node f.choice one_step.step) inn,
      agree,
      record { wires = λ p e. leaves.wires p e ∙ one_step.leaves.wires p e; slots = λ m e. leaves.slots m e ∙ one_step.leaves.slots m e },
    )

-- the steps of two circuits side by side are those of each
share_left_at : (c d : Circuit) → Apart c d → Typed d → (n : Name) (k : Kind) → c.kind_at n ≡ Some k → (side : List (List Token)) (p : Port) (o o' : Option Port) → d.feeder p ≡ o' → share_from n side (or_else o o') ≡ share_from n side o
share_left_at c d h ty n k e side p (Some q) o' f = refl
share_left_at c d h ty n k e side p None None f = refl
share_left_at c d h ty n k e side p None (Some q) f =
    share_other n side q (λ is. none_some (d.kind_at n) (ty.wires p q f).from (apart_none c d h n k e) (ap d.kind_at (sym is) ∙ (ty.wires p q f).is_from))

share_left : (c d : Circuit) → Apart c d → Typed d → (n : Name) (k : Kind) → c.kind_at n ≡ Some k → (side : List (List Token)) (p : Port) → share_from n side ((beside c d).feeder p) ≡ share_from n side (c.feeder p)
share_left c d h ty n k e side p = share_left_at c d h ty n k e side p (c.feeder p) (d.feeder p) refl

share_right_at : (c d : Circuit) → Apart c d → Typed c → Typed d → (n : Name) (k : Kind) → d.kind_at n ≡ Some k → (side : List (List Token)) (p : Port) (o : Option Port) → c.feeder p ≡ o → share_from n side (or_else o (d.feeder p)) ≡ share_from n side (d.feeder p)
share_right_at c d h tc td n k e side p None f = refl
share_right_at c d h tc td n k e side p (Some q) f =
    share_other n side q (λ is. h n (tc.wires p q f).from k (ap c.kind_at (sym is) ∙ (tc.wires p q f).is_from) e)
    ∙ sym (ap (share_from n side) (unfed d td p (apart_none c d h p.node (tc.wires p q f).to (tc.wires p q f).is_to)))

share_right : (c d : Circuit) → Apart c d → Typed c → Typed d → (n : Name) (k : Kind) → d.kind_at n ≡ Some k → (side : List (List Token)) (p : Port) → share_from n side ((beside c d).feeder p) ≡ share_from n side (d.feeder p)
share_right c d h tc td n k e side p = share_right_at c d h tc td n k e side p (c.feeder p) refl

-- the same node of another circuit makes the same step, where it feeds the same
pub moved : (c d : Circuit) (s : CircuitState) (n : Name) (l : Label) (t : CircuitState) (st : Step c s n l t) → d.kind_at n ≡ Some st.kind → ((p : Port) → share_from n st.given (c.feeder p) ≡ share_from n st.given (d.feeder p)) → Step d s n l t
moved c d s n l t st e h =
    record {
      kind = st.kind;
      is_kind = e;
      taken = st.taken;
      given = st.given;
      acts = st.acts;
      between = st.between;
      takes = st.takes;
      gives = λ p. st.gives p ∙ ap (λ z. st.between p ++ z) (h p);
      others = st.others;
    }

pub kind_left : (c d : Circuit) (n : Name) (k : Kind) → c.kind_at n ≡ Some k → (beside c d).kind_at n ≡ Some k
kind_left c d n k e = ap (λ o. or_else o (d.kind_at n)) e

pub kind_right : (c d : Circuit) (n : Name) → c.kind_at n ≡ None → (beside c d).kind_at n ≡ d.kind_at n
kind_right c d n e = ap (λ o. or_else o (d.kind_at n)) e

module _ (c d : Circuit) (h : Apart c d) (tc : Typed c) (td : Typed d) (s : CircuitState) (n : Name) (l : Label) (t : CircuitState) where
  pub step_left : Step c s n l t → Step (beside c d) s n l t
  step_left st = moved c (beside c d) s n l t st (kind_left c d n st.kind st.is_kind) (λ p. sym (share_left c d h td n st.kind st.is_kind st.given p))

  pub step_right : Step d s n l t → Step (beside c d) s n l t
  step_right st =
      moved d (beside c d) s n l t st (kind_right c d n (apart_none d c (apart_sym c d h) n st.kind st.is_kind) ∙ st.is_kind)
      (λ p. sym (share_right c d h tc td n st.kind st.is_kind st.given p))

  step_of_at : (o : Option Kind) → c.kind_at n ≡ o → Step (beside c d) s n l t → Step c s n l t ⊎ Step d s n l t
  step_of_at (Some k) e st =
      let same : k ≡ st.kind = same_Some k st.kind (sym (kind_left c d n k e) ∙ st.is_kind) in
      inl (moved (beside c d) c s n l t st (e ∙ ap Some same) (λ p. share_left c d h td n k e st.given p))
  step_of_at None e st =
      let is : d.kind_at n ≡ Some st.kind = sym (kind_right c d n e) ∙ st.is_kind in
      inr (moved (beside c d) d s n l t st is (λ p. share_right c d h tc td n st.kind is st.given p))

  pub step_of : Step (beside c d) s n l t → Step c s n l t ⊎ Step d s n l t
  step_of st = step_of_at (c.kind_at n) refl st

firings_right : (c d : Circuit) → Apart c d → Typed c → Typed d → (s : CircuitState) (fs : List Firing) (t : CircuitState) → Firings d s fs t → Firings (beside c d) s fs t
firings_right c d h tc td s [] t e = e
firings_right c d h tc td s (f ∷ fs) t k = (k.0, step_right c d h tc td s f.node (Fire f.choice) k.0 k.1, firings_right c d h tc td k.0 fs t k.2)

inner_right : (c d : Circuit) → Apart c d → Typed c → Typed d → (s t : CircuitState) → Inner d s t → Inner (beside c d) s t
inner_right c d h tc td s t k = record { firings = k.firings; leads = firings_right c d h tc td s k.firings t k.leads }

-- the start of each is a part of the start
initial_left : (c d : Circuit) → Apart c d → Typed c → Typed d → (p : Port) (k : Kind) → c.kind_at p.node ≡ Some k → (o : Option Port) → c.feeder p ≡ o → initial (kind_of (beside c d) (or_else o (d.feeder p))) ≡ initial (kind_of c o)
initial_left c d h tc td p k e None f = ap (λ o. initial (kind_of (beside c d) o)) (unfed d td p (apart_none c d h p.node k e))
initial_left c d h tc td p k e (Some q) f =
    ap initial (kind_left c d q.node (tc.wires p q f).from (tc.wires p q f).is_from) ∙ sym (ap initial (tc.wires p q f).is_from)

agree_left : (c d : Circuit) → Apart c d → Typed c → Typed d → Agree c (start (beside c d)) (start c)
agree_left c d h tc td = record { wires = λ p k e. initial_left c d h tc td p k e (c.feeder p) refl; slots = λ n k e. refl }

initial_right : (c d : Circuit) → Apart c d → Typed d → (p : Port) (o : Option Port) → d.feeder p ≡ o → initial (kind_of (beside c d) o) ≡ initial (kind_of d o)
initial_right c d h td p None f = refl
initial_right c d h td p (Some q) f =
    ap initial (kind_right c d q.node (apart_none d c (apart_sym c d h) q.node (td.wires p q f).from (td.wires p q f).is_from))

agree_right : (c d : Circuit) → Apart c d → Typed c → Typed d → Agree d (start (beside c d)) (start d)
agree_right c d h tc td =
    record {
      wires = λ p k e.
          ap (λ o. initial (kind_of (beside c d) (or_else o (d.feeder p)))) (unfed c tc p (apart_none d c (apart_sym c d h) p.node k e))
          ∙ initial_right c d h td p (d.feeder p) refl;
      slots = λ n k e. refl;
    }

-- beside c, the states of h and g are related as they are alone, and c's parts are alike
record Lifted (c h g : Circuit) (R : CircuitState → CircuitState → Type 0) (s t : CircuitState) : Type 0 where
  sh : CircuitState
  tg : CircuitState
  related : R sh tg
  on_new : Agree h s sh
  on_old : Agree g t tg
  on_c : Agree c s t
  fits : IsStateOf c s

agree_leaves : (c d : Circuit) → Apart c d → (s u t w : CircuitState) → Agree c s t → Leaves d s u → Leaves d t w → Agree c u w
agree_leaves c d h s u t w a su tw =
    record {
      wires = λ p k e. let f = apart_none c d h p.node k e in su.wires p f ∙ a.wires p k e ∙ sym (tw.wires p f);
      slots = λ n k e. let f = apart_none c d h n k e in su.slots n f ∙ a.slots n k e ∙ sym (tw.slots n f);
    }

leaves_none : (c : Circuit) (s : CircuitState) → Leaves c s s
leaves_none c s = record { wires = λ p e. refl; slots = λ n e. refl }

agree_fits : (c : Circuit) (s u : CircuitState) → ((p : Port) (k : Kind) → c.kind_at p.node ≡ Some k → u.wires p ≡ s.wires p) → ((n : Name) (k : Kind) → c.kind_at n ≡ Some k → u.slots n ≡ s.slots n) → IsStateOf c s → IsStateOf c u
agree_fits c s u w x h =
    record {
      wires = λ p k a e f. subst (AllByRecursion (Fits a)) (sym (w p k e)) (h.wires p k a e f);
      slots = λ n k e. subst (AllByRecursion (SlotFits k)) (sym (x n k e)) (h.slots n k e);
      tags = λ n k e. subst TagsDiffer (sym (x n k e)) (h.tags n k e);
    }

module _ (c h g : Circuit) (ch : Apart c h) (cg : Apart c g) (tc : Typed c) (th : Typed h) (tg : Typed g) (R : CircuitState → CircuitState → Type 0) where
  -- a step of c
  lift_c : ValuesFit → (s t : CircuitState) (n : Name) (l : Label) (u : CircuitState) → Lifted c h g R s t → Step c s n l u → (w : CircuitState) × Step c t n l w × Lifted c h g R u w
  lift_c values s t n l u lf st =
      let fr = frame c tc s t n l u lf.on_c st in (
        fr.to,
        fr.step,
        record {
          sh = lf.sh;
          tg = lf.tg;
          related = lf.related;
          on_new = agree_leaves h c (apart_sym c h ch) s u lf.sh lf.sh lf.on_new (local c tc s n l u st) (leaves_none c lf.sh);
          on_old = agree_leaves g c (apart_sym c g cg) t fr.to lf.tg lf.tg lf.on_old fr.leaves (leaves_none c lf.tg);
          on_c = fr.agree;
          fits = step_fits values c tc s n l u st lf.fits;
        },
      )

  -- the new and the old have gone on
  lift_both : (s t u w sh tg' : CircuitState) → Lifted c h g R s t → R sh tg' → Agree h u sh → Agree g w tg' → Leaves h s u → Leaves g t w → Lifted c h g R u w
  lift_both s t u w sh tg' lf r ah ag lh lg =
      record {
        sh = sh;
        tg = tg';
        related = r;
        on_new = ah;
        on_old = ag;
        on_c =
            record {
              wires = λ p k e. lh.wires p (apart_none c h ch p.node k e) ∙ lf.on_c.wires p k e ∙ sym (lg.wires p (apart_none c g cg p.node k e));
              slots = λ n k e. lh.slots n (apart_none c h ch n k e) ∙ lf.on_c.slots n k e ∙ sym (lg.slots n (apart_none c g cg n k e));
            };
        fits = agree_fits c s u (λ p k e. lh.wires p (apart_none c h ch p.node k e)) (λ n k e. lh.slots n (apart_none c h ch n k e)) lf.fits;
      }

-- what is refined is refined beside each circuit
pub beside_sim : ValuesFit → (c h g : Circuit) → Apart c h → Apart c g → Typed c → Typed h → Typed g → Sim h g → Sim (beside c h) (beside c g)
beside_sim values c h g ch cg tc th tg sim =
    record {
      R = Lifted c h g sim.R;
      begins =
          record {
            sh = start h;
            tg = start g;
            related = sim.begins;
            on_new = agree_right c h ch tc th;
            on_old = agree_right c g cg tc tg;
            on_c = record {
              wires = λ p k e. (agree_left c h ch tc th).wires p k e ∙ sym ((agree_left c g cg tc tg).wires p k e);
              slots = λ n k e. refl;
            };
            fits = agree_fits c (start c) (start (beside c h)) (agree_left c h ch tc th).wires (agree_left c h ch tc th).slots (start_fits c tc);
          };
      feeds = λ s t u n v lf st.
          elim (step_of c h ch tc th s n (Feed v) u st) [
            | inl mine ↦
                let (w, st2, lf2) = lift_c c h g ch cg tc th tg sim.R values s t n (Feed v) u lf mine in
                (w, step_left c g cg tc tg t n (Feed v) w st2, lf2)
            | inr its ↦
                let fr = frame h th s lf.sh n (Feed v) u lf.on_new its in
                let (x, st2, r2) = sim.feeds lf.sh lf.tg fr.to n v lf.related fr.step in
                let up = frame g tg lf.tg t n (Feed v) x (agree_sym g t lf.tg lf.on_old) st2 in (
                  up.to,
                  step_right c g cg tc tg t n (Feed v) up.to up.step,
                  lift_both c h g ch cg tc th tg sim.R s t u up.to fr.to x lf r2 fr.agree (agree_sym g x up.to up.agree) (local h th s n (Feed v) u its) up.leaves,
                )
          ];
      takes = λ s t u n v lf st.
          elim (step_of c h ch tc th s n (Take v) u st) [
            | inl mine ↦
                let (w, st2, lf2) = lift_c c h g ch cg tc th tg sim.R values s t n (Take v) u lf mine in
                (t, w, inner_none (beside c g) t, step_left c g cg tc tg t n (Take v) w st2, lf2)
            | inr its ↦
                let fr = frame h th s lf.sh n (Take v) u lf.on_new its in
                let (m, x, inn, st2, r2) = sim.takes lf.sh lf.tg fr.to n v lf.related fr.step in
                let (y, inn2, agree, leaves) = framed_firings g tg lf.tg t inn.firings m (agree_sym g t lf.tg lf.on_old) inn.leads in
                let up = frame g tg m y n (Take v) x agree st2 in (
                  y,
                  up.to,
                  inner_right c g cg tc tg t y inn2,
                  step_right c g cg tc tg y n (Take v) up.to up.step,
                  lift_both c h g ch cg tc th tg sim.R s t u up.to fr.to x lf r2 fr.agree (agree_sym g x up.to up.agree) (local h th s n (Take v) u its)
                      (record { wires = λ p e. up.leaves.wires p e ∙ leaves.wires p e; slots = λ n e. up.leaves.slots n e ∙ leaves.slots n e }),
                )
          ];
      fires = λ s t u n k lf st.
          elim (step_of c h ch tc th s n (Fire k) u st) [
            | inl mine ↦
                let (w, st2, lf2) = lift_c c h g ch cg tc th tg sim.R values s t n (Fire k) u lf mine in
                (w, inner_one (beside c g) t w n k (step_left c g cg tc tg t n (Fire k) w st2), lf2)
            | inr its ↦
                let fr = frame h th s lf.sh n (Fire k) u lf.on_new its in
                let (x, inn, r2) = sim.fires lf.sh lf.tg fr.to n k lf.related fr.step in
                let (y, inn2, agree, leaves) = framed_firings g tg lf.tg t inn.firings x (agree_sym g t lf.tg lf.on_old) inn.leads in (
                  y,
                  inner_right c g cg tc tg t y inn2,
                  lift_both c h g ch cg tc th tg sim.R s t u y fr.to x lf r2 fr.agree (agree_sym g x y agree) (local h th s n (Fire k) u its) leaves,
                )
          ];
      fits = λ s t u n v a lf e st.
          elim (step_of c h ch tc th s n (Take v) u st) [
            | inl mine ↦ take_fits c s n v a u (sym (kind_left c h n mine.kind mine.is_kind ∙ sym mine.is_kind) ∙ e) mine lf.fits
            | inr its ↦
                let fr = frame h th s lf.sh n (Take v) u lf.on_new its in
                sim.fits lf.sh lf.tg fr.to n v a lf.related (sym (kind_right c h n (apart_none h c (apart_sym c h ch) n its.kind its.is_kind)) ∙ e) fr.step
          ];
    }
