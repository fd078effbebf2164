-- A kind that is read meets its row.
use Rattle.std.proofs.Common.{◌≡◌, inl, inr, ◌&&◌, ◌^◌, ◌≤◌, Bool, true, false, List, [], ◌∷◌, length, replicate, Ok, refl, ap, subst, arith}
use Rattle.std.specs.Prelude.{bytes_eq, nat_le}
use Rattle.std.specs.List.{concat}
use Rattle.std.proofs.lemmas.Bool.{leb-true, and_parts}
use Rattle.std.proofs.lemmas.List.Elements.{All-head, All-tail}
use Rattle.std.proofs.lemmas.Slice.Eq.{bytes_eq-Decides}
use Rattle.port_types.specs.Shape.{IsShape}
use Rattle.components.specs.declared.kind.Kind.{Kind}
use Rattle.components.specs.declared.kind.Kind as kind
use Rattle.components.specs.Kind.{Shape, field, AreParts}
use Rattle.components.specs.declared.component.Component.{Component}
use Rattle.components.specs.declared.component.Component as component
use Rattle.graph_read.specs.declared.fault.GraphFaultKind.TheVariants.{BadPorts}
use Rattle.graph_read.specs.Attributes.{Pair}
use Rattle.graph_read.specs.Rows.{where_ports, all_are, entry_at, exit_at, buffer_at, fork_at, join_at, split_at, source_at, sink_at, mux_at, branch_at, merge_at, ctrl_merge_at}
use Rattle.graph_read.specs.Laws.{MeetsRow, AreRead}
use Rattle.graph_read.proofs.Answers.{same_answer, refused}

-- ---- answers

where_are : (are : Bool) (found kind : Kind) → where_ports are found ≡ Ok kind → (are ≡ true) × (found ≡ kind)
where_are true found kind e = (refl, same_answer found kind e)
where_are false found kind e = refused BadPorts kind e

pub same_shape : (a b : Shape) → bytes_eq a b ≡ true → a ≡ b
same_shape a b test = (bytes_eq-Decides a b).0 test

-- ports of one shape
pub same_shapes : (shape : Shape) (shapes : List Shape) → all_are shape shapes ≡ true → shapes ≡ replicate (length shapes) shape
same_shapes shape [] test = refl
same_shapes shape (other ∷ shapes) test =
    let parts = and_parts (bytes_eq other shape) (all_are shape shapes) test in
    λ i. same_shape other shape parts.0 i ∷ same_shapes shape shapes parts.1 i

-- the kind that was found is this one
pub becomes : (component : Component) (inputs outputs : List Shape) (pairs : List Pair) (found kind : Kind) → found ≡ kind → MeetsRow component inputs outputs pairs found → MeetsRow component inputs outputs pairs kind
becomes component inputs outputs pairs found kind same meets = subst (λ (k : Kind). MeetsRow component inputs outputs pairs k) same meets

-- ---- the rows without attributes

module _ (pairs : List Pair) (k : Kind) where
  pub entry-met : (inputs outputs : List Shape) → AreRead outputs → entry_at inputs outputs ≡ Ok k → MeetsRow component.TheVariants.Entry inputs outputs pairs k
  entry-met [] (shape ∷ []) read e =
      becomes component.TheVariants.Entry [] (shape ∷ []) pairs (kind.TheVariants.Entry shape) k (same_answer (kind.TheVariants.Entry shape) k e)
      (record { is = refl; ok = All-head IsShape shape [] read.each; ports = (inl refl, refl); says = tt })
  entry-met (also ∷ []) (shape ∷ []) read e =
      let found = where_are (bytes_eq also shape) (kind.TheVariants.Entry shape) k e in
      becomes component.TheVariants.Entry (also ∷ []) (shape ∷ []) pairs (kind.TheVariants.Entry shape) k found.1
      (record { is = refl; ok = All-head IsShape shape [] read.each; ports = (inr (ap (λ (s : Shape). s ∷ []) (same_shape also shape found.0)), refl); says = tt })
  entry-met inputs outputs read e = refused BadPorts k e

  pub exit-met : (inputs outputs : List Shape) → AreRead inputs → exit_at inputs outputs ≡ Ok k → MeetsRow component.TheVariants.Exit inputs outputs pairs k
  exit-met (shape ∷ []) [] read e =
      becomes component.TheVariants.Exit (shape ∷ []) [] pairs (kind.TheVariants.Exit shape) k (same_answer (kind.TheVariants.Exit shape) k e)
      (record { is = refl; ok = All-head IsShape shape [] read.each; ports = (refl, inl refl); says = tt })
  exit-met (shape ∷ []) (also ∷ []) read e =
      let found = where_are (bytes_eq also shape) (kind.TheVariants.Exit shape) k e in
      becomes component.TheVariants.Exit (shape ∷ []) (also ∷ []) pairs (kind.TheVariants.Exit shape) k found.1
      (record { is = refl; ok = All-head IsShape shape [] read.each; ports = (refl, inr (ap (λ (s : Shape). s ∷ []) (same_shape also shape found.0))); says = tt })
  exit-met inputs outputs read e = refused BadPorts k e

  pub buffer-met : (inputs outputs : List Shape) → AreRead inputs → buffer_at inputs outputs ≡ Ok k → MeetsRow component.TheVariants.Buffer inputs outputs pairs k
  buffer-met (shape ∷ []) (out ∷ []) read e =
      let found = where_are (bytes_eq out shape) (kind.TheVariants.Buffer shape) k e in
      becomes component.TheVariants.Buffer (shape ∷ []) (out ∷ []) pairs (kind.TheVariants.Buffer shape) k found.1
      (record { is = refl; ok = All-head IsShape shape [] read.each; ports = (refl, ap (λ (s : Shape). s ∷ []) (same_shape out shape found.0)); says = tt })
  buffer-met inputs outputs read e = refused BadPorts k e

  pub fork-met : (inputs outputs : List Shape) → AreRead inputs → AreRead outputs → fork_at inputs outputs ≡ Ok k → MeetsRow component.TheVariants.Fork inputs outputs pairs k
  fork-met (shape ∷ []) (out ∷ outs) read_in read_out e =
      let fork = kind.TheVariants.Fork shape (length (out ∷ outs)) in
      let found = where_are (all_are shape (out ∷ outs)) fork k e in
      becomes component.TheVariants.Fork (shape ∷ []) (out ∷ outs) pairs fork k found.1
      (record { is = refl; ok = (All-head IsShape shape [] read_in.each, (omega arith, read_out.few)); ports = (refl, same_shapes shape (out ∷ outs) found.0); says = tt })
  fork-met inputs outputs read_in read_out e = refused BadPorts k e

  pub join-met : (inputs outputs : List Shape) → AreRead inputs → AreRead outputs → join_at inputs outputs ≡ Ok k → MeetsRow component.TheVariants.Join inputs outputs pairs k
  join-met (shape ∷ shapes) (whole ∷ []) read_in read_out e =
      let join = kind.TheVariants.Join (shape ∷ shapes) in
      let found = where_are (bytes_eq whole (concat (shape ∷ shapes))) join k e in
      let same = same_shape whole (concat (shape ∷ shapes)) found.0 in
      let parts : AreParts (shape ∷ shapes) = record { count = (omega arith, read_in.few); parts = read_in.each; whole = subst IsShape same (All-head IsShape whole [] read_out.each) } in
      becomes component.TheVariants.Join (shape ∷ shapes) (whole ∷ []) pairs join k found.1
      (record { is = refl; ok = parts; ports = (refl, ap (λ (s : Shape). s ∷ []) same); says = tt })
  join-met inputs outputs read_in read_out e = refused BadPorts k e

  pub split-met : (inputs outputs : List Shape) → AreRead inputs → AreRead outputs → split_at inputs outputs ≡ Ok k → MeetsRow component.TheVariants.Split inputs outputs pairs k
  split-met (whole ∷ []) (shape ∷ shapes) read_in read_out e =
      let split = kind.TheVariants.Split (shape ∷ shapes) in
      let found = where_are (bytes_eq whole (concat (shape ∷ shapes))) split k e in
      let same = same_shape whole (concat (shape ∷ shapes)) found.0 in
      let parts : AreParts (shape ∷ shapes) = record { count = (omega arith, read_out.few); parts = read_out.each; whole = subst IsShape same (All-head IsShape whole [] read_in.each) } in
      becomes component.TheVariants.Split (whole ∷ []) (shape ∷ shapes) pairs split k found.1
      (record { is = refl; ok = parts; ports = (ap (λ (s : Shape). s ∷ []) same, refl); says = tt })
  split-met inputs outputs read_in read_out e = refused BadPorts k e

  pub source-met : (inputs outputs : List Shape) → AreRead outputs → source_at inputs outputs ≡ Ok k → MeetsRow component.TheVariants.Source inputs outputs pairs k
  source-met [] (shape ∷ []) read e =
      becomes component.TheVariants.Source [] (shape ∷ []) pairs (kind.TheVariants.Source0 shape) k (same_answer (kind.TheVariants.Source0 shape) k e)
      (record { is = refl; ok = All-head IsShape shape [] read.each; ports = (refl, refl); says = tt })
  source-met inputs outputs read e = refused BadPorts k e

  pub sink-met : (inputs outputs : List Shape) → AreRead inputs → sink_at inputs outputs ≡ Ok k → MeetsRow component.TheVariants.Sink inputs outputs pairs k
  sink-met (shape ∷ []) [] read e =
      becomes component.TheVariants.Sink (shape ∷ []) [] pairs (kind.TheVariants.Sink0 shape) k (same_answer (kind.TheVariants.Sink0 shape) k e)
      (record { is = refl; ok = All-head IsShape shape [] read.each; ports = (refl, refl); says = tt })
  sink-met inputs outputs read e = refused BadPorts k e

  pub mux-met : (inputs outputs : List Shape) → AreRead outputs → mux_at inputs outputs ≡ Ok k → MeetsRow component.TheVariants.Mux inputs outputs pairs k
  mux-met (select ∷ first ∷ second ∷ []) (out ∷ []) read e =
      let found = where_are (bytes_eq select (field 1) && all_are out (first ∷ second ∷ [])) (kind.TheVariants.Mux out) k e in
      let tests = and_parts (bytes_eq select (field 1)) (all_are out (first ∷ second ∷ [])) found.0 in
      becomes component.TheVariants.Mux (select ∷ first ∷ second ∷ []) (out ∷ []) pairs (kind.TheVariants.Mux out) k found.1
      (record {
        is = refl;
        ok = All-head IsShape out [] read.each;
        ports = (λ i. same_shape select (field 1) tests.0 i ∷ same_shapes out (first ∷ second ∷ []) tests.1 i, refl);
        says = tt;
      })
  mux-met inputs outputs read e = refused BadPorts k e

  pub branch-met : (inputs outputs : List Shape) → AreRead inputs → branch_at inputs outputs ≡ Ok k → MeetsRow component.TheVariants.Branch inputs outputs pairs k
  branch-met (shape ∷ condition ∷ []) (first ∷ second ∷ []) read e =
      let found = where_are (bytes_eq condition (field 1) && all_are shape (first ∷ second ∷ [])) (kind.TheVariants.Branch shape) k e in
      let tests = and_parts (bytes_eq condition (field 1)) (all_are shape (first ∷ second ∷ [])) found.0 in
      becomes component.TheVariants.Branch (shape ∷ condition ∷ []) (first ∷ second ∷ []) pairs (kind.TheVariants.Branch shape) k found.1
      (record {
        is = refl;
        ok = All-head IsShape shape (condition ∷ []) read.each;
        ports = (λ i. shape ∷ same_shape condition (field 1) tests.0 i ∷ [], same_shapes shape (first ∷ second ∷ []) tests.1);
        says = tt;
      })
  branch-met inputs outputs read e = refused BadPorts k e

  pub merge-met : (inputs outputs : List Shape) → AreRead inputs → AreRead outputs → merge_at inputs outputs ≡ Ok k → MeetsRow component.TheVariants.Merge inputs outputs pairs k
  merge-met (shape ∷ shapes) (out ∷ []) read_in read_out e =
      let merge = kind.TheVariants.Merge out (length (shape ∷ shapes)) in
      let found = where_are (all_are out (shape ∷ shapes)) merge k e in
      becomes component.TheVariants.Merge (shape ∷ shapes) (out ∷ []) pairs merge k found.1
      (record { is = refl; ok = (All-head IsShape out [] read_out.each, (omega arith, read_in.few)); ports = (same_shapes out (shape ∷ shapes) found.0, refl); says = tt })
  merge-met inputs outputs read_in read_out e = refused BadPorts k e

  pub ctrl_merge-met : (inputs outputs : List Shape) → AreRead inputs → AreRead outputs → ctrl_merge_at inputs outputs ≡ Ok k → MeetsRow component.TheVariants.CtrlMerge inputs outputs pairs k
  ctrl_merge-met (shape ∷ shapes) (out ∷ (width ∷ []) ∷ []) read_in read_out e =
      let merge = kind.TheVariants.CtrlMerge out (length (shape ∷ shapes)) width in
      let found = where_are (all_are out (shape ∷ shapes) && nat_le (length (shape ∷ shapes)) (2 ^ width)) merge k e in
      let tests = and_parts (all_are out (shape ∷ shapes)) (nat_le (length (shape ∷ shapes)) (2 ^ width)) found.0 in
      let index = All-head IsShape (width ∷ []) [] (All-tail IsShape out ((width ∷ []) ∷ []) read_out.each) in
      becomes component.TheVariants.CtrlMerge (shape ∷ shapes) (out ∷ (width ∷ []) ∷ []) pairs merge k found.1
      (record {
        is = refl;
        ok = (
          All-head IsShape out ((width ∷ []) ∷ []) read_out.each,
          (omega arith, read_in.few),
          All-head (λ w. w ≤ 64) width [] index.narrow,
          leb-true (length (shape ∷ shapes)) (2 ^ width) tests.1,
        );
        ports = (same_shapes out (shape ∷ shapes) tests.0, refl);
        says = tt;
      })
  ctrl_merge-met inputs outputs read_in read_out e = refused BadPorts k e
