use Rattle.std.proofs.Common.{◌<◌, length, subst, arith}
use Rattle.rsml_syntax.specs.declared.syntax.Spec.{Spec}
use Rattle.state_tree.specs.Tables.{AreFamilies}
use Rattle.state_tree.proofs.Lists.{get_item}
use Rattle.state_tree.proofs.Walks.{as_many, family_at}
use Rattle.state_tree.proofs.tree.Tree.family.Goals as goal

pub index-requires : goal.index-requires
index-requires c =
    let fs = c.self.inside.families.items in
    let all = subst (λ (s : Spec). AreFamilies s fs) c.self.view_is c.self.invariant.families in
    let l : c.args.component < length fs = subst (λ n. c.args.component < n) (as_many c.args.self.now fs all) c.requires in
    omega (arith, l)

pub returns : goal.returns
returns c =
    let fs = c.self.inside.families.items in
    let all = subst (λ (s : Spec). AreFamilies s fs) c.self.view_is c.self.invariant.families in
    let l : c.args.component < length fs = subst (λ n. c.args.component < n) (as_many c.args.self.now fs all) c.requires in
    family_at c.args.self.now fs c.args.component c.index.result.now all (get_item fs c.args.component c.index.result.now l c.index.ensures)
