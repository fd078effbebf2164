-- What an instance of the rule is, and what is read of its nodes.
use Rattle.std.proofs.Common.{◌≡◌, ◌≢◌, ℕ, suc, ◌<◌, ◌≤◌, ◌^◌, true, refl, sym, ap, subst, ◌∙◌, replicate, Some, is_some, arith, true≢false}
use Rattle.std.proofs.lemmas.Option.{none-some, same_Some}
use Rattle.components.specs.declared.kind.Kind.TheVariants.{Fork, Sink0}
use Rattle.components.specs.Name.{Name, Port, port_get}
use Rattle.components.specs.Kind.{Shape}
use Rattle.components.specs.NamedGraph.{NamedGraph, IsTyped, HasAllowedNames}
use Rattle.circuits.specs.Circuit.{circuit_of}
use Rattle.circuits.specs.Buffers.{first_port}
use Rattle.circuits.specs.Replacing.{head, tail}
use Rattle.circuits.specs.ReplacedGraph.{Matches}
use Rattle.circuit_plans.specs.Drawing.{wire}
use Rattle.circuit_plans.specs.Places.{number}
use Rattle.circuit_plans.proofs.Places.{PortOf, at, no_port, port_of}
use Rattle.lane_laws.specs.TrimFork.{Output, CanTrim, Untrimmed, entry, fork, sink, exit, untrimmed, Trimmed, new_entry, new_fork, new_exit, trimmed}
use Rattle.subst_engine.specs.Prefix.{IsTaken, IsFreshPrefix}
use Rattle.subst_engine.specs.Rule.{NamedRule}
use Rattle.drawn_rules.specs.Placed.{is_inside, IsPlaced}
use Rattle.drawn_rules.specs.Labels.{AreFree}
use Rattle.drawn_rules.proofs.Drawings.{matched, placed}
use Rattle.drawn_rules.proofs.GraphNodes.{ok_at, carries, are_free}
use Rattle.drawn_rules.proofs.PlacedAlike.{placed_alike}
use Rattle.pure_extract.specs.TrimFork.{trim_names, old_name, new_name, trim_fork, IsTrimInstance, IsTrimFork, HasTrimInstance, TrimForkMatches}
use Rattle.pure_extract.specs.TrimForkSides.{ReadsTrim, CanTrimSides}
use Rattle.pure_extract.proofs.TrimForkLaws.TrimSides.{old_in, new_in, old_once, new_once, old_targets}

fork_apart : (a b : Shape) (count : ℕ) → Fork a count ≡ Sink0 b → ⊥
fork_apart a b count e = cc

apart_kinds : (g : NamedGraph) (f s : Name) (a b : Shape) (count : ℕ) → (circuit_of g).kind_at f ≡ Some (Fork a count) → (circuit_of g).kind_at s ≡ Some (Sink0 b) → f ≢ s
apart_kinds g f s a b count is_fork is_sink e =
    fork_apart a b count (same_Some (Fork a count) (Sink0 b) (sym is_fork ∙ ap (circuit_of g).kind_at e ∙ is_sink))

-- An instance is read

pub instance_reads : (g : NamedGraph) (prefix ends : ℕ) (f s : Name) (a : Shape) (others : ℕ) (output : Output a (suc others)) → IsTrimInstance g prefix ends f s a others output →
    ReadsTrim g f s a others (number (replicate (suc others) a) output)
instance_reads g prefix ends f s a others output h =
    record {
      some = h.some;
      sunk = a;
      is_fork = h.placed.kinds fork refl;
      is_sink = h.placed.kinds sink refl;
      fed = (h.placed.wires (wire fork (number (replicate (suc others) a) output) sink 1) refl refl).1 (tail (head refl));
    }

-- in one way

fork_tells : (a b : Shape) (others more : ℕ) → Fork a (suc others) ≡ Fork b (suc more) → (a ≡ b) × (others ≡ more)
fork_tells a b others more e = (let k : a ≡ b = cc in k, let k : suc others ≡ suc more = cc in omega (arith, k))

pub reads_one : (g : NamedGraph) (f s : Name) (a b : Shape) (others more port other : ℕ) → ReadsTrim g f s a others port → ReadsTrim g f s b more other → (a ≡ b) × (others ≡ more) × (port ≡ other)
reads_one g f s a b others more port other h k =
    let forks = fork_tells a b others more (same_Some _ _ (sym h.is_fork ∙ k.is_fork)) in
    let ports : port ≡ other = ap (λ (p : Port). p.port) (same_Some (record { node = f; port = port }) (record { node = f; port = other }) (sym h.fed ∙ k.fed)) in
    (forks.0, forks.1, ports)

-- The graphs can be made

output_of : (a : Shape) (others port : ℕ) (shape : Shape) → port_get (replicate (suc others) a) port ≡ Some shape → PortOf (replicate (suc others) a) port → (output : Output a (suc others)) × (number (replicate (suc others) a) output ≡ port)
output_of a others port shape leaves (at l e) = (l, sym e)
output_of a others port shape leaves (no_port e none) = absurd (none-some shape (sym none ∙ leaves))

pub can_sides : (g : NamedGraph) → IsTyped g → HasAllowedNames g → (prefix ends : ℕ) → prefix < 2 ^ 64 → ends < 2 ^ 64 → ¬ (IsTaken g ends) → (f s : Name) (a : Shape) (others port : ℕ) → ReadsTrim g f s a others port →
    CanTrimSides prefix ends f s a others port
can_sides g typed allowed prefix ends small few fresh f s a others port h =
    let carried = carries g typed (first_port s) (record { node = f; port = port }) (Fork a (suc others)) (Sink0 h.sunk) h.fed h.is_fork h.is_sink in
    let ok = ok_at g typed f (Fork a (suc others)) h.is_fork in
    let found = output_of a others port carried.shape carried.leaves (port_of (replicate (suc others) a) port) in
    record {
      free = are_free g allowed ends fresh prefix small few (trim_names f s) ((apart_kinds g f s a h.sunk (suc others) h.is_fork h.is_sink, tt), (tt, tt)) (ap is_some h.is_fork, (ap is_some h.is_sink, tt));
      can = record { shape = ok.0; some = h.some; few = ok.1.1 };
      output = found.0;
      is_output = found.1;
    }

-- under equal names
pub named_sides : (prefix ends : ℕ) (f s n m : Name) (a : Shape) (others port : ℕ) → n ≡ f → m ≡ s → CanTrimSides prefix ends f s a others port → CanTrimSides prefix ends n m a others port
named_sides prefix ends f s n m a others port is_f is_s h =
    subst (λ z. CanTrimSides prefix ends z m a others port) (sym is_f) (subst (λ z. CanTrimSides prefix ends f z a others port) (sym is_s) h)

-- Where the graphs match

module _ (g : NamedGraph) (prefix ends : ℕ) (f s : Name) (a : Shape) (others : ℕ) (output : Output a (suc others)) (free : AreFree prefix ends (trim_names f s)) (few : others ≤ 63) where
  pub instance_matches : IsTrimInstance g prefix ends f s a others output → Matches g (trim_fork prefix ends f s a others output).left (trim_fork prefix ends f s a others output).right
  instance_matches h =
      matched g (untrimmed a others output) (old_name prefix ends f s a others) (trimmed a others) (new_name prefix ends f s a others) (old_in a others)
      (old_once prefix ends f s a others output free few) (old_targets prefix ends f s a others output free few) h.placed

  pub match_placed : Matches g (trim_fork prefix ends f s a others output).left (trim_fork prefix ends f s a others output).right → IsPlaced g (untrimmed a others output) (old_name prefix ends f s a others) (trimmed a others) (new_name prefix ends f s a others)
  match_placed m =
      placed g (untrimmed a others output) (old_name prefix ends f s a others) (trimmed a others) (new_name prefix ends f s a others) (old_in a others)
      (old_once prefix ends f s a others output free few) (old_targets prefix ends f s a others output free few) (new_in a others) (new_once prefix ends f s a others output free few) m

-- the names of the Entry and the Exits are nothing to an instance
pub alike : (g : NamedGraph) (prefix ends other : ℕ) (f s : Name) (a : Shape) (others : ℕ) (output : Output a (suc others)) → IsTrimInstance g prefix ends f s a others output → IsTrimInstance g prefix other f s a others output
alike g prefix ends other f s a others output h =
    record {
      some = h.some;
      differ = h.differ;
      placed = placed_alike g (untrimmed a others output) (old_name prefix ends f s a others) (old_name prefix other f s a others) (trimmed a others) (new_name prefix ends f s a others) (new_name prefix other f s a others)
          old_same new_same h.placed;
    }
  where
    old_same : (n : Untrimmed a others) → is_inside (untrimmed a others output) n ≡ true → old_name prefix ends f s a others n ≡ old_name prefix other f s a others n
    old_same entry inside = absurd (true≢false (sym inside))
    old_same fork inside = refl
    old_same sink inside = refl
    old_same (exit l) inside = absurd (true≢false (sym inside))

    new_same : (n : Trimmed a others) → is_inside (trimmed a others) n ≡ true → new_name prefix ends f s a others n ≡ new_name prefix other f s a others n
    new_same new_entry inside = absurd (true≢false (sym inside))
    new_same new_fork inside = refl
    new_same (new_exit l) inside = absurd (true≢false (sym inside))

few_of : {a : Shape} {others : ℕ} → CanTrim a others → others ≤ 63
few_of can = let h = can.few in omega (arith, h)

module _ (g : NamedGraph) (prefix ends : ℕ) (f s : Name) (a : Shape) (others port : ℕ) (fresh : IsFreshPrefix g ends) (reads : ReadsTrim g f s a others port) (can : CanTrimSides prefix ends f s a others port) (rule : NamedRule)
    (is : (output : Output a (suc others)) → number (replicate (suc others) a) output ≡ port → rule ≡ trim_fork prefix ends f s a others output) where
  pub rule_at : Matches g rule.left rule.right → IsTrimFork g prefix f s rule
  rule_at m =
      let same = is can.output can.is_output in
      record {
        ends = ends;
        shape = a;
        others = others;
        output = can.output;
        fresh = fresh;
        free = can.free;
        at = record {
          some = reads.some;
          differ = apart_kinds g f s a reads.sunk (suc others) reads.is_fork reads.is_sink;
          placed = match_placed g prefix ends f s a others can.output can.free (few_of can.can) (subst (λ (r : NamedRule). Matches g r.left r.right) same m);
        };
        is = same;
      }

  -- there is none of what was read
  never : ¬ (Matches g rule.left rule.right) → (other : ℕ) (output : Output a (suc others)) → IsTrimInstance g prefix other f s a others output → number (replicate (suc others) a) output ≡ port → ⊥
  never unmet other output h numbered =
      unmet (subst (λ (r : NamedRule). Matches g r.left r.right) (sym (is output numbered))
      (instance_matches g prefix ends f s a others output can.free (few_of can.can) (alike g prefix other ends f s a others output h)))

  -- and none of anything else
  pub no_rule : ¬ (Matches g rule.left rule.right) → ¬ (HasTrimInstance g prefix f s)
  no_rule unmet (other, b, more, output, h) =
      let one = reads_one g f s a b others more port (number (replicate (suc more) b) output) reads (instance_reads g prefix other f s b more output h) in
      subst (λ (z : Shape × ℕ). (output : Output z.0 (suc z.1)) → IsTrimInstance g prefix other f s z.0 z.1 output → number (replicate (suc z.1) z.0) output ≡ port → ⊥)
      (λ i. (one.0 i, one.1 i)) (never unmet other) output h (sym one.2)

-- The law

pub matches : TrimForkMatches
matches g prefix f s rule typed h =
    let few = (ok_at g typed f (Fork h.shape (suc h.others)) (h.at.placed.kinds fork refl)).1.1 in
    subst (λ (r : NamedRule). Matches g r.left r.right) (sym h.is) (instance_matches g prefix h.ends f s h.shape h.others h.output h.free (omega (arith, few)) h.at)
