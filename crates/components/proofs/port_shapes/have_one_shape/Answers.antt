use Rattle.std.proofs.Common.{◌≡◌, ◌≤◌, Some, List, ℕ, length, arith, refl}
use Rattle.port_types.specs.declared.side.Side.TheVariants.{Ins, Outs}
use Rattle.components.specs.Kind.{ins, outs}
use Rattle.components.specs.Name.{port_get}
use Rattle.components.proofs.PortFields.{same_shapes}
use Rattle.components.proofs.PortShapes.{port_is_shape}
use Rattle.components.proofs.port_shapes.have_one_shape.Goals as goal

pub returns : goal.returns
returns c =
    let leaving = port_get (outs c.args.source.now) c.args.output in
    let entering = port_get (ins c.args.target.now) c.args.input in
    let few : (shape : List ℕ) → leaving ≡ Some shape → length shape ≤ c.loop-index.index =
    λ shape is. let ok = port_is_shape c.args.source.now c.requires.source_ok Outs c.args.output shape is in omega (arith, ok.few, c.loop-index-test.false) in
    let short : (shape : List ℕ) → entering ≡ Some shape → length shape ≤ c.loop-index.index =
    λ shape is. let ok = port_is_shape c.args.target.now c.requires.target_ok Ins c.args.input shape is in omega (arith, ok.few, c.loop-index-test.false) in
    (λ yes. same_shapes leaving entering c.loop-index.index c.requires.leaves c.requires.enters few short c.loop-index.invariant, λ same. refl)
