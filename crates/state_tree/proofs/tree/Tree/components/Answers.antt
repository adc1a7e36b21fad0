use Rattle.std.proofs.Common.{◌≡◌, length, sym, ap, ◌∙◌, arith}
use Rattle.rsml_syntax.specs.declared.syntax.Spec.{Spec}
use Rattle.rsml_meaning.specs.Instances.{components}
use Rattle.state_tree.proofs.Walks.{few_components, as_many}
use Rattle.state_tree.proofs.tree.Tree.components.Goals as goal

pub overflow_cast-result : goal.overflow_cast-result
overflow_cast-result c =
    let h = few_components c.self.inside.spec.now c.self.invariant.checked in
    let k = as_many c.self.inside.spec.now c.self.inside.families.items c.self.invariant.families in
    omega (arith, h, k, c.len.ensures)

pub returns : goal.returns
returns c =
    let e : c.self.inside.spec.now ≡ c.args.self.now = c.self.view_is in
    let k = as_many c.self.inside.spec.now c.self.inside.families.items c.self.invariant.families in
    let l : c.len.result ≡ length c.self.inside.families.items = omega (arith, c.len.ensures) in
    l ∙ sym k ∙ ap (λ (s : Spec). length (components s)) e
