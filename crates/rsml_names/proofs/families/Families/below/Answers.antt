use Rattle.std.proofs.Common.{ℕ, Option, List, slice_get, sym, ap, ◌∙◌, subst}
use Rattle.rsml_syntax.specs.declared.syntax.StateDecl.{StateDecl}
use Rattle.rsml_syntax.specs.grammar.Parts.{children_of}
use Rattle.rsml_names.specs.Kin.{HoldsSome}
use Rattle.rsml_names.proofs.KinLemmas.{held, below_at}
use Rattle.rsml_names.proofs.families.Families.below.Goals as goal

pub returns : goal.returns
returns c = λ children child holds here.
    let fs = c.args.self.now in
    let f = c.in_ok-family.field-0.now in
    let among = ap (λ (cs : List StateDecl). slice_get cs c.args.place) (held fs c.args.family f children c.in_ok-family.ensures.at holds) ∙ here in
    subst (λ (r : Option ℕ). HoldsSome fs r (children_of child.body)) (sym c.below.ensures)
    (below_at fs f.children f.below c.args.place child c.in_ok-family.ensures.fits.below among)
