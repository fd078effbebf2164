use Rattle.std.proofs.Common.{sym, subst, arith, tests, rules}
use Rattle.port_types.specs.Tag.{IsTagWidth, tag_width}
use Rattle.port_types.proofs.TagWidths.{tag_width_is}
use Rattle.port_types.proofs.tag.tag_width.Goals as goal

pub returns-in-5-to-8-clause-least : goal.returns-in-5-to-8-clause-least
returns-in-5-to-8-clause-least c = subst (IsTagWidth c.args.tags) (grind (arith, tests, rules)) (tag_width_is c.args.tags (omega arith))

pub returns-in-9-to-16-clause-least : goal.returns-in-9-to-16-clause-least
returns-in-9-to-16-clause-least c = subst (IsTagWidth c.args.tags) (grind (arith, tests, rules)) (tag_width_is c.args.tags (omega arith))

pub returns-in-17-to-32-clause-least : goal.returns-in-17-to-32-clause-least
returns-in-17-to-32-clause-least c = subst (IsTagWidth c.args.tags) (grind (arith, tests, rules)) (tag_width_is c.args.tags (omega arith))

pub returns-in-33-to-64-clause-least : goal.returns-in-33-to-64-clause-least
returns-in-33-to-64-clause-least c = subst (IsTagWidth c.args.tags) (grind (arith, tests, rules)) (tag_width_is c.args.tags (omega arith))

pub returns-in-65-to-128-clause-least : goal.returns-in-65-to-128-clause-least
returns-in-65-to-128-clause-least c = subst (IsTagWidth c.args.tags) (grind (arith, tests, rules)) (tag_width_is c.args.tags (omega arith))
