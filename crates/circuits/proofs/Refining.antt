-- A simulation is a refinement.
use Rattle.std.proofs.Common.{◌≡◌, ◌≢◌, ℕ, ◌⊎◌, inl, inr, refl, sym, ap, subst, ◌∙◌, if◌then◌else◌, List, [], ◌∷◌, Option, Some, None}
use Rattle.std.specs.List.{AllByRecursion}
use Rattle.std.proofs.lemmas.Option.{same_Some}
use Rattle.circuits.specs.Values.{ValuesFit}
use Rattle.components.specs.declared.kind.Kind.TheVariants.{Entry, Exit}
use Rattle.components.specs.Name.{Name, Port, port_get}
use Rattle.components.specs.Kind.{Shape, outs}
use Rattle.circuits.specs.Circuit.{Circuit, Typed}
use Rattle.circuits.specs.Plug.{PlugLink, link, link_all, redirect, plug, beside, or_else, Apart, Joins, UsesNoneTwice, CanPlug}
use Rattle.circuits.specs.Refines.{SamePorts, Refines}
use Rattle.circuits.proofs.Names.{name_cases}
use Rattle.circuits.proofs.Simulation.{Sim, sim_shows}
use Rattle.circuits.proofs.Linking.{CanLink, link_sim, kind_other}
use Rattle.circuits.proofs.Beside.{beside_sim, apart_none, apart_sym, kind_left, kind_right}

-- a link of two circuits at once, at one shape
pub record Both (l : PlugLink) (x y : Circuit) : Type 0 where
  pub shape : Shape
  pub new : CanLink l x shape
  pub old : CanLink l y shape

still_nothing_at : (l m : PlugLink) (c : Circuit) (a : Shape) → CanLink m c a → m.exit ≢ l.exit → (p q : Port) (o : Option Port) → c.feeder p ≡ o → redirect l o ≡ Some q → q.node ≢ m.exit
still_nothing_at l m c a h ne p q None f e = let g : None ≡ Some q = e in cc
still_nothing_at l m c a h ne p q (Some r) f e =
    elim (name_cases r.node l.entry) [
      | inl is ↦ λ e2. ne (sym e2 ∙ sym (ap (λ (x : Port). x.node) (same_Some _ q (sym (ap (λ b. Some (if b then record { node = l.exit; port = r.port } else r)) is.test) ∙ e))))
      | inr other ↦ λ e2. h.nothing p r f (ap (λ (x : Port). x.node) (same_Some _ q (sym (ap (λ b. Some (if b then record { node = l.exit; port = r.port } else r)) other.test) ∙ e)) ∙ e2)
    ]

-- a link leaves the others
pub still : (l m : PlugLink) (c : Circuit) (a b : Shape) → CanLink l c a → CanLink m c b → m.exit ≢ l.exit → m.entry ≢ l.entry → CanLink m (link l c) b
still l m c a b hl hm nx ne =
    record {
      exit = kind_other l c m.exit nx (λ e. let k : Some (Exit b) ≡ Some (Entry a) = sym hm.exit ∙ ap c.kind_at e ∙ hl.entry in cc) ∙ hm.exit;
      entry = kind_other l c m.entry (λ e. let k : Some (Entry b) ≡ Some (Exit a) = sym hm.entry ∙ ap c.kind_at e ∙ hl.exit in cc) ne ∙ hm.entry;
      nothing = λ p q e. still_nothing_at l m c b hm nx p q (c.feeder p) refl e;
    }

pub still_all : (l : PlugLink) (x y : Circuit) → Both l x y → (ls : List PlugLink) → AllByRecursion (λ m. (m.exit ≢ l.exit) × (m.entry ≢ l.entry)) ls → AllByRecursion (λ m. Both m x y) ls → AllByRecursion (λ m. Both m (link l x) (link l y)) ls
still_all l x y b [] n h = tt
still_all l x y b (m ∷ ms) n h = (
  record {
    shape = h.0.shape;
    new = still l m x b.shape h.0.shape b.new h.0.new n.0.0 n.0.1;
    old = still l m y b.shape h.0.shape b.old h.0.old n.0.0 n.0.1;
  },
  still_all l x y b ms n.1 h.1,
)

pub link_all_sim : (ls : List PlugLink) (x y : Circuit) → UsesNoneTwice ls → AllByRecursion (λ l. Both l x y) ls → Sim x y → Sim (link_all ls x) (link_all ls y)
link_all_sim [] x y n h sim = sim
link_all_sim (l ∷ ls) x y n h sim =
    link_all_sim ls (link l x) (link l y) n.1 (still_all l x y h.0 ls n.0 h.1) (link_sim l x y h.0.shape h.0.new h.0.old sim)

-- an Exit feeds nothing
no_out : (a : Shape) (k : _) (b : Shape) (i : ℕ) → k ≡ Exit a → port_get (outs k) i ≡ Some b → ⊥
no_out a k b i e f = let g : None ≡ Some b = subst (λ x. port_get (outs x) i ≡ Some b) e f in cc

pub exit_feeds_none : (c : Circuit) → Typed c → (n : Name) (a : Shape) → c.kind_at n ≡ Some (Exit a) → (p q : Port) → c.feeder p ≡ Some q → q.node ≢ n
exit_feeds_none c ty n a e p q f is =
    let w = ty.wires p q f in
    no_out a w.from w.shape q.port (same_Some w.from (Exit a) (sym w.is_from ∙ ap c.kind_at is ∙ e)) w.leaves

none_fed_at : (c d : Circuit) → Typed d → (n : Name) → d.kind_at n ≡ None → (p q : Port) (o : Option Port) → c.feeder p ≡ o → ((r : Port) → c.feeder p ≡ Some r → r.node ≢ n) → or_else o (d.feeder p) ≡ Some q → q.node ≢ n
none_fed_at c d td n e p q None f h g is =
    let w = td.wires p q g in let k : None ≡ Some w.from = sym e ∙ ap d.kind_at (sym is) ∙ w.is_from in cc
none_fed_at c d td n e p q (Some r) f h g is = h r f (ap (λ (x : Port). x.node) (same_Some r q g) ∙ is)

none_fed : (c d : Circuit) → Typed d → (n : Name) → d.kind_at n ≡ None → ((p r : Port) → c.feeder p ≡ Some r → r.node ≢ n) → (p q : Port) → (beside c d).feeder p ≡ Some q → q.node ≢ n
none_fed c d td n e h p q g = none_fed_at c d td n e p q (c.feeder p) refl (h p) g

none_fed_right_at : (c d : Circuit) → Typed c → (n : Name) → c.kind_at n ≡ None → (p q : Port) (o : Option Port) → c.feeder p ≡ o → ((r : Port) → d.feeder p ≡ Some r → r.node ≢ n) → or_else o (d.feeder p) ≡ Some q → q.node ≢ n
none_fed_right_at c d tc n e p q None f h g is = h q g is
none_fed_right_at c d tc n e p q (Some r) f h g is =
    let w = tc.wires p r f in let k : None ≡ Some w.from = sym e ∙ ap c.kind_at (sym (ap (λ (x : Port). x.node) (same_Some r q g) ∙ is)) ∙ w.is_from in cc

-- what joins c and g can be linked where they stand side by side
pub joined_out : (c g : Circuit) (l : PlugLink) → Apart c g → Typed c → Typed g → (j : Joins l c g) → CanLink l (beside c g) j.shape
joined_out c g l ap_ tc tg j =
    record {
      exit = kind_left c g l.exit (Exit j.shape) j.exit;
      entry = kind_right c g l.entry (apart_none g c (apart_sym c g ap_) l.entry (Entry j.shape) j.entry) ∙ j.entry;
      nothing = none_fed c g tg l.exit (apart_none c g ap_ l.exit (Exit j.shape) j.exit) (λ p r f. exit_feeds_none c tc l.exit j.shape j.exit p r f);
    }

pub joined_in : (c g : Circuit) (l : PlugLink) → Apart c g → Typed c → Typed g → (j : Joins l g c) → CanLink l (beside c g) j.shape
joined_in c g l ap_ tc tg j =
    let none : c.kind_at l.exit ≡ None = apart_none g c (apart_sym c g ap_) l.exit (Exit j.shape) j.exit in
    record {
      exit = kind_right c g l.exit none ∙ j.exit;
      entry = kind_left c g l.entry (Entry j.shape) j.entry;
      nothing = λ p q e. none_fed_right_at c g tc l.exit none p q (c.feeder p) refl (λ r f. exit_feeds_none g tg l.exit j.shape j.exit p r f) e;
    }

both_one : (c h g : Circuit) (l : PlugLink) → Apart c h → Apart c g → Typed c → Typed h → Typed g → SamePorts h g → Joins l c h ⊎ Joins l h c → Both l (beside c h) (beside c g)
both_one c h g l ch cg tc th tg same (inl j) =
    record {
      shape = j.shape;
      new = joined_out c h l ch tc th j;
      old = joined_out c g l cg tc tg (record { shape = j.shape; exit = j.exit; entry = (same.entries l.entry j.shape).0 j.entry });
    }
both_one c h g l ch cg tc th tg same (inr j) =
    record {
      shape = j.shape;
      new = joined_in c h l ch tc th j;
      old = joined_in c g l cg tc tg (record { shape = j.shape; exit = (same.exits l.exit j.shape).0 j.exit; entry = j.entry });
    }

both_all : (c h g : Circuit) → Apart c h → Apart c g → Typed c → Typed h → Typed g → SamePorts h g → (ls : List PlugLink) → AllByRecursion (λ l. Joins l c h ⊎ Joins l h c) ls → AllByRecursion (λ l. Both l (beside c h) (beside c g)) ls
both_all c h g ch cg tc th tg same [] j = tt
both_all c h g ch cg tc th tg same (l ∷ ls) j = (both_one c h g l ch cg tc th tg same j.0, both_all c h g ch cg tc th tg same ls j.1)

pub plug_sim : ValuesFit → (c h g : Circuit) (ls : List PlugLink) → Typed c → Typed h → Typed g → SamePorts h g → CanPlug c ls h → Apart c g → Sim h g → Sim (plug c ls h) (plug c ls g)
plug_sim values c h g ls tc th tg same can cg sim =
    link_all_sim ls (beside c h) (beside c g) can.once (both_all c h g can.apart cg tc th tg same ls can.joins) (beside_sim values c h g can.apart cg tc th tg sim)

-- a simulation of the modules is a refinement in each surrounding circuit
pub sim_refines : ValuesFit → (h g : Circuit) → Typed h → Typed g → SamePorts h g → Sim h g → Refines h g
sim_refines values h g th tg same sim =
    record {
      new_typed = th;
      old_typed = tg;
      ports = same;
      shows = λ c ls tr tc can can2. sim_shows (plug c ls h) (plug c ls g) (plug_sim values c h g ls tc th tg same can can2.apart sim) tr;
    }
