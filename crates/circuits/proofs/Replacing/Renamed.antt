-- A part, and what replaces it, under other names for their Entries and Exits: the circuit with the part replaced is the same.
use Rattle.std.proofs.Common.{◌≡◌, ℕ, refl, sym, ap, ◌∙◌, true, false, Bool, if◌then◌else◌, Option, Some, None}
use Rattle.std.proofs.lemmas.Option.{same_Some}
use Rattle.components.specs.declared.kind.Kind.{Kind}
use Rattle.components.specs.declared.kind.Kind.TheVariants.{Entry, Exit}
use Rattle.components.specs.Name.{Name, Port, port_get}
use Rattle.components.specs.Kind.{Shape, ins, outs}
use Rattle.circuits.specs.Circuit.{Circuit, Typed}
use Rattle.circuits.specs.Refines.{SamePorts}
use Rattle.circuits.specs.Replacing.{is_inner, is_entry, follow, outside, crossing, replaced, IsPart}
use Rattle.circuits.specs.Renaming.{Swap, port_to, fed_to, renamed}
use Rattle.circuits.proofs.Renaming.{circuit_same}
use Rattle.circuits.proofs.Transitive.{port_back}
use Rattle.circuits.proofs.Replacing.Sorts.{View, entry, exit, inner, view, inner_no_entry}

module _ (x : Swap) where
  abbrev pub target_to : (Port → Option Port) → Port → Option Port
  target_to target q = fed_to x (target (port_to x q))

  -- inner nodes keep their names
  abbrev pub Keeps : Circuit → Type 0
  Keeps c = (n : Name) → is_inner (c.kind_at n) ≡ true → x.to n ≡ n

  inner_same_at : (c : Circuit) → Keeps c → (n : Name) (a b : Bool) → is_inner (c.kind_at (x.to n)) ≡ a → is_inner (c.kind_at n) ≡ b → is_inner (c.kind_at (x.to n)) ≡ is_inner (c.kind_at n)
  inner_same_at c keep n true b e f = ap (λ z. is_inner (c.kind_at z)) (sym (keep (x.to n) e) ∙ x.back n)
  inner_same_at c keep n false true e f = ap (λ z. is_inner (c.kind_at z)) (keep n f)
  inner_same_at c keep n false false e f = e ∙ sym f

  pub inner_same : (c : Circuit) → Keeps c → (n : Name) → is_inner (c.kind_at (x.to n)) ≡ is_inner (c.kind_at n)
  inner_same c keep n = inner_same_at c keep n (is_inner (c.kind_at (x.to n))) (is_inner (c.kind_at n)) refl refl

  pub port_keep : (c : Circuit) → Keeps c → (p : Port) → is_inner (c.kind_at p.node) ≡ true → port_to x p ≡ p
  port_keep c keep p i = λ j. record { node = keep p.node i j; port = p.port }

-- a kind that has outputs
abbrev IsSource : Kind → Type 0
IsSource (Exit a) = ⊥
IsSource _ = Unit {0}

is_source : (k : Kind) (a : Shape) (i : ℕ) → port_get (outs k) i ≡ Some a → IsSource k
is_source (Exit b) a i e = cc
is_source _ a i e = tt

-- the part and what replaces it, under other names for their Entries and Exits
module _ (g left right : Circuit) (target : Port → Option Port) (pt : IsPart g left target) (tr : Typed right) (ports : SamePorts right left) (x : Swap) (kl : (n : Name) → is_inner (left.kind_at n) ≡ true → x.to n ≡ n) (kr : (n : Name) → is_inner (right.kind_at n) ≡ true → x.to n ≡ n) where
  entry_feeds_at : (t q : Port) (a : Shape) → left.feeder t ≡ Some q → left.kind_at q.node ≡ Some (Entry a) → (k : Kind) → View k → left.kind_at t.node ≡ Some k → is_inner (left.kind_at t.node) ≡ true
  entry_feeds_at t q a f e _ (entry b) et =
      let w = pt.part.wires t q f in
      let z : None ≡ Some w.shape = ap (λ k. port_get (ins k) t.port) (same_Some (Entry b) w.to (sym et ∙ w.is_to)) ∙ w.enters in
      cc
  entry_feeds_at t q a f e _ (exit b) et = absurd (pt.no_through t q b a f et e)
  entry_feeds_at t q a f e k (inner i) et = ap is_inner et ∙ i

  entry_feeds : (t q : Port) (a : Shape) → left.feeder t ≡ Some q → left.kind_at q.node ≡ Some (Entry a) → is_inner (left.kind_at t.node) ≡ true
  entry_feeds t q a f e = let w = pt.part.wires t q f in entry_feeds_at t q a f e w.to (view w.to) w.is_to

  follow_same : (r : Port) (a : Shape) → left.kind_at r.node ≡ Some (Entry a) → (o : Option Port) → target r ≡ o → follow g (fed_to x o) ≡ follow g o
  follow_same r a e None f = refl
  follow_same r a e (Some t) f =
      let i : is_inner (left.kind_at t.node) ≡ true = entry_feeds t r a ((pt.target_is t r).1 f) e in
      ap g.feeder (port_keep x left kl t i)

  out_same_at : (r : Port) (k : Kind) → View k → right.kind_at r.node ≡ Some k → IsSource k → outside g (renamed x right) (target_to x target) (Some (port_to x r)) ≡ outside g right target (Some r)
  out_same_at r k (inner i) e s =
      ap (λ n. if is_entry (right.kind_at n) then follow g (target_to x target (port_to x r)) else Some (port_to x r)) (x.back r.node)
      ∙ ap (λ b. if b then follow g (target_to x target (port_to x r)) else Some (port_to x r)) (ap is_entry e ∙ inner_no_entry k i)
      ∙ ap Some (port_keep x right kr r (ap is_inner e ∙ i))
      ∙ ap (λ b. if b then follow g (target r) else Some r) (sym (ap is_entry e ∙ inner_no_entry k i))
  out_same_at r _ (entry a) e s =
      ap (λ n. if is_entry (right.kind_at n) then follow g (target_to x target (port_to x r)) else Some (port_to x r)) (x.back r.node)
      ∙ ap (λ b. if b then follow g (target_to x target (port_to x r)) else Some (port_to x r)) (ap is_entry e)
      ∙ ap (λ z. follow g (fed_to x (target z))) (port_back x r)
      ∙ follow_same r a ((ports.entries r.node a).0 e) (target r) refl
      ∙ ap (λ b. if b then follow g (target r) else Some r) (sym (ap is_entry e))
  out_same_at r _ (exit a) e s = absurd s

  out_same : (p : Port) (o : Option Port) → right.feeder p ≡ o → outside g (renamed x right) (target_to x target) (fed_to x o) ≡ outside g right target o
  out_same p None e = refl
  out_same p (Some r) e = let w = tr.wires p r e in out_same_at r w.from (view w.from) w.is_from (is_source w.from w.shape r.port w.leaves)

  cross_follow : (q : Port) (o : Option Port) → target q ≡ o → outside g (renamed x right) (target_to x target) (follow (renamed x right) (fed_to x o)) ≡ outside g right target (follow right o)
  cross_follow q None e = refl
  cross_follow q (Some t) e =
      ap (λ z. outside g (renamed x right) (target_to x target) (fed_to x (right.feeder z))) (port_back x t) ∙ out_same t (right.feeder t) refl

  cross_at : (q : Port) (b : Bool) → is_inner (left.kind_at q.node) ≡ b → (if is_inner (left.kind_at (x.to q.node)) then outside g (renamed x right) (target_to x target) (follow (renamed x right) (target_to x target q)) else Some q) ≡ (if is_inner (left.kind_at q.node) then outside g right target (follow right (target q)) else Some q)
  cross_at q true i =
      ap (λ b. if b then outside g (renamed x right) (target_to x target) (follow (renamed x right) (target_to x target q)) else Some q) (inner_same x left kl q.node ∙ i)
      ∙ ap (λ z. outside g (renamed x right) (target_to x target) (follow (renamed x right) (fed_to x (target z)))) (port_keep x left kl q i)
      ∙ cross_follow q (target q) refl
      ∙ ap (λ b. if b then outside g right target (follow right (target q)) else Some q) (sym i)
  cross_at q false i =
      ap (λ b. if b then outside g (renamed x right) (target_to x target) (follow (renamed x right) (target_to x target q)) else Some q) (inner_same x left kl q.node ∙ i)
      ∙ ap (λ b. if b then outside g right target (follow right (target q)) else Some q) (sym i)

  cross_same : (o : Option Port) → crossing g (renamed x left) (renamed x right) (target_to x target) o ≡ crossing g left right target o
  cross_same None = refl
  cross_same (Some q) = cross_at q (is_inner (left.kind_at q.node)) refl

  kind_same : (n : Name) (b : Bool) → is_inner (right.kind_at n) ≡ b → (replaced g (renamed x left) (renamed x right) (target_to x target)).kind_at n ≡ (replaced g left right target).kind_at n
  kind_same n b i =
      (λ j. if inner_same x right kr n j then right.kind_at (x.to n) else (if inner_same x left kl n j then None else g.kind_at n)) ∙ kind_at_same b i
    where
      kind_at_same : (c : Bool) → is_inner (right.kind_at n) ≡ c → (if is_inner (right.kind_at n) then right.kind_at (x.to n) else (if is_inner (left.kind_at n) then None else g.kind_at n)) ≡ (if is_inner (right.kind_at n) then right.kind_at n else (if is_inner (left.kind_at n) then None else g.kind_at n))
      kind_at_same true e = ap (λ z. if is_inner (right.kind_at n) then right.kind_at z else (if is_inner (left.kind_at n) then None else g.kind_at n)) (kr n e)
      kind_at_same false e = rw e

  feeder_same : (p : Port) (b : Bool) → is_inner (right.kind_at p.node) ≡ b → (replaced g (renamed x left) (renamed x right) (target_to x target)).feeder p ≡ (replaced g left right target).feeder p
  feeder_same p b i =
      (λ j. if inner_same x right kr p.node j then outside g (renamed x right) (target_to x target) ((renamed x right).feeder p)
      else (if inner_same x left kl p.node j then None else cross_same (g.feeder p) j))
      ∙ feeder_at_same b i
    where
      feeder_at_same : (c : Bool) → is_inner (right.kind_at p.node) ≡ c → (if is_inner (right.kind_at p.node) then outside g (renamed x right) (target_to x target) ((renamed x right).feeder p) else (if is_inner (left.kind_at p.node) then None else crossing g left right target (g.feeder p))) ≡ (replaced g left right target).feeder p
      feeder_at_same true e =
          ap (λ z. if is_inner (right.kind_at p.node) then z else (if is_inner (left.kind_at p.node) then None else crossing g left right target (g.feeder p)))
          (ap (λ z. outside g (renamed x right) (target_to x target) (fed_to x (right.feeder z))) (port_keep x right kr p e) ∙ out_same p (right.feeder p) refl)
      feeder_at_same false e = rw e

  -- the names of their Entries and Exits do not show
  pub replaced_same : replaced g (renamed x left) (renamed x right) (target_to x target) ≡ replaced g left right target
  replaced_same =
      circuit_same _ _ (λ n. kind_same n (is_inner (right.kind_at n)) refl) (λ p. feeder_same p (is_inner (right.kind_at p.node)) refl)
