use Rattle.std.proofs.Common.{rules}
use Rattle.rsml_syntax.specs.grammar.Parts.{children_of}
use Rattle.rsml_syntax.specs.rules.Uses.{child_named}
use Rattle.rsml_rules.proofs.Kinship.{answer_held}
use Rattle.rsml_rules.proofs.breaches.paths.+is_target.Goals as goal

pub is_target-requires : goal.is_target-requires
is_target-requires t c = (search rules, answer_held _ (child_named c.bytes.result.now (children_of c.args.body.now)) _ _ _ (c.child.ensures _ c.requires) c.in-Some-child.is c.child-in-Some-child.view_is)
