use Rattle.std.proofs.Common.{Option, List, sym, subst}
use Rattle.rsml_syntax.specs.declared.syntax.StateDecl.{StateDecl}
use Rattle.rsml_syntax.specs.rules.Uses.{child_named}
use Rattle.rsml_names.specs.Kin.{Child, IsChild, child_of}
use Rattle.rsml_names.proofs.KinLemmas.{held, is_child}
use Rattle.rsml_names.proofs.families.Families.child.Goals as goal

pub returns : goal.returns
returns c = λ children holds.
    let fs = c.args.self.now in
    let f = c.in_ok-family.field-0.now in
    let name = c.args.name.now in
    let here = is_child fs f name c.in_ok-family.ensures.fits in
    subst (λ (r : Option Child). IsChild fs (child_named name children) r) (sym c.child.ensures)
    (subst (λ (cs : List StateDecl). IsChild fs (child_named name cs) (child_of f name)) (held fs c.args.family f children c.in_ok-family.ensures.at holds) here)
