use Rattle.std.proofs.Common.{rules}
use Rattle.rsml_syntax.specs.grammar.Parts.{children_of}
use Rattle.rsml_syntax.specs.rules.Uses.{child_named}
use Rattle.rsml_rules.proofs.Kinship.{answer_held}
use Rattle.rsml_rules.proofs.breaches.paths.+are_steps.Goals as goal

pub are_steps-requires : goal.are_steps-requires
are_steps-requires t c = (search rules, answer_held _ (child_named c.bytes.result.now (children_of c.args.body.now)) _ _ _ (c.child.ensures _ c.requires) c.in-Some-child.is c.child-in-Some-child.view_is)
