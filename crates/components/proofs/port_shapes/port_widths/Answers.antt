use Rattle.std.proofs.Common.{◌≡◌, ◌∙◌, ◌≤◌, Some, List, ℕ, length, sym, arith}
use Rattle.components.specs.Kind.{ports}
use Rattle.components.specs.Name.{port_get}
use Rattle.components.proofs.PortFields.{read_all, few_fields, one_more}
use Rattle.components.proofs.PortShapes.{port_is_shape}
use Rattle.components.proofs.port_shapes.port_widths.Goals as goal

pub returns-in-None : goal.returns-in-None
returns-in-None c =
    let port = port_get (ports c.args.kind.now c.args.side) c.args.port in
    read_all port c.loop-index.index c.loop-index.widths.items c.requires.there c.loop-index.invariant.0 c.loop-index.invariant.1 (few_fields port c.loop-index.index (sym c.in-None.is ∙ c.field_at.ensures))

pub loop-index-preserved : goal.loop-index-preserved
loop-index-preserved c =
    let port = port_get (ports c.args.kind.now c.args.side) c.args.port in
    one_more port c.loop-index.widths.items c.push.new.self.items c.loop-index.index c.in-Some.width c.loop-index.invariant.0 c.loop-index.invariant.1 (sym c.in-Some.is ∙ c.field_at.ensures) (c.in_ok-push-in-Some.ensures).items

pub returns : goal.returns
returns c =
    let port = port_get (ports c.args.kind.now c.args.side) c.args.port in
    let few : (shape : List ℕ) → port ≡ Some shape → length shape ≤ c.loop-index.index =
    λ shape is. let ok = port_is_shape c.args.kind.now c.requires.ok c.args.side c.args.port shape is in omega (arith, ok.few, c.loop-index-test.false) in
    read_all port c.loop-index.index c.loop-index.widths.items c.requires.there c.loop-index.invariant.0 c.loop-index.invariant.1 few
