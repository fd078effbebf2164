use Rattle.std.proofs.Common.{◌≡◌, ◌≤◌, drop}
use Rattle.fun_expr.specs.Machine.{begin}
use Rattle.fun_expr.specs.Building.{parts_of, no_parts, built}
use Rattle.fun_expr.proofs.builder.build.Given as goal

-- what is left of the text builds as the whole does
abbrev pub invariant-loop-byte : goal.invariant-loop-byte
invariant-loop-byte l =
    (built l.state (parts_of l.builder) (drop l.byte-index l.text) ≡ built begin no_parts l.text) × (l.state.nesting ≤ l.byte-index)
