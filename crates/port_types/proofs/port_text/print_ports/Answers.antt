use Rattle.std.proofs.Common.{◌≡◌, length, take, ap, subst, ◌∙◌, arith}
use Rattle.std.specs.List.{All}
use Rattle.std.proofs.Math.Seq.{take-length}
use Rattle.std.proofs.lemmas.Grind.{common_steps}
use Rattle.std.proofs.lemmas.List.Elements.{All-more}
use Rattle.port_types.specs.Shape.{IsShape}
use Rattle.port_types.specs.declared.port.Port.{Port}
use Rattle.port_types.specs.PortText.{marked_ports_text}
use Rattle.port_types.specs.PortGrammar.{reading}
use Rattle.port_types.proofs.Joined.{next_marked_port}
use Rattle.port_types.proofs.ReadBack.{reads_back}
use Rattle.port_types.proofs.port_text.print_ports.Goals as goal

pub loop-index-preserved : goal.loop-index-preserved
loop-index-preserved c =
    let next = next_marked_port c.args.side c.args.ports.now c.loop-index.index c.index-ports-index.result (omega arith) in
    let shape : IsShape c.index-ports-index.result.shape = c.in_ok-push_marked_port.ensures.shape in
    record {
      text = grind (arith, common_steps, next);
      shapes = All-more (λ port. IsShape port.shape) c.args.ports.now c.loop-index.index c.index-ports-index.result (omega arith) c.loop-index.invariant.shapes (subst (λ (port : Port). IsShape port.shape) c.index-ports-index.is shape);
    }

pub returns-clause-reads_back : goal.returns-clause-reads_back
returns-clause-reads_back c few =
    let end : c.loop-index.index ≡ length c.args.ports.now = omega arith in
    let whole : take c.loop-index.index c.args.ports.now ≡ c.args.ports.now = ap (λ count. take count c.args.ports.now) end ∙ take-length c.args.ports.now in
    let text : c.from_string.result ≡ marked_ports_text c.args.side c.args.ports.now = c.from_string.ensures ∙ c.loop-index.invariant.text ∙ ap (marked_ports_text c.args.side) whole in
    let shapes = subst (All (λ port. IsShape port.shape)) whole c.loop-index.invariant.shapes in
    ap (reading c.args.side) text ∙ reads_back c.args.side c.args.ports.now (record { few = few; marked = c.requires; shapes = shapes })
