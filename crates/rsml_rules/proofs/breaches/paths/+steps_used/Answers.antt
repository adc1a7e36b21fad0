use Rattle.std.proofs.Common.{rules, List, subst}
use Rattle.rsml_syntax.specs.grammar.Parts.{children_of}
use Rattle.rsml_syntax.specs.rules.Uses.{child_named}
use Rattle.rsml_names.specs.Kin.{Family, Holds, IsChild}
use Rattle.rsml_rules.proofs.Kinship.{answer_held}
use Rattle.rsml_rules.proofs.breaches.paths.+steps_used.Goals as goal

pub steps_used-requires : goal.steps_used-requires
steps_used-requires t c =
    let children = children_of c.args.body.now in
    let found = child_named c.bytes.result.now children in
    let is = subst (λ (fs : List Family). Holds fs c.args.family children → IsChild fs found c.child.result) c.families.ensures (c.child.ensures children) c.requires in
    (search rules, answer_held _ found _ _ _ is c.in-Some-child.is c.child-in-Some-child.view_is)
