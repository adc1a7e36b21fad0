use Rattle.std.proofs.Common.{◌&&◌, [], ◌∷◌, length, sym, ap, ◌∙◌, subst, arith, length-append}
use Rattle.rsml_syntax.specs.declared.syntax.Spec.{Spec}
use Rattle.rsml_syntax.specs.limits.Checked.{IsChecked}
use Rattle.rsml_meaning.specs.Active.{active}
use Rattle.rsml_meaning.specs.Instances.{states}
use Rattle.state_tree.specs.nodes.Numbers.{paths, path_around}
use Rattle.state_tree.specs.Numbers.{path_of}
use Rattle.state_tree.specs.Tables.{AreFamilies}
use Rattle.state_tree.proofs.Walks.{step_up, walked, top_active, told_none, and_true, and_false}
use Rattle.state_tree.proofs.tree.Tree.active.Goals as goal

pub returns-then-not-leads : goal.returns-then-not-leads
returns-then-not-leads c = λ w e.
    let s = c.args.self.now in
    let inner = c.loop-outer.inner in
    let outer = c.in-Some.outer in
    let r = step_up s inner outer c.loop-outer.invariant.there c.in-Some.ensures in
    sym (c.loop-outer.invariant.same w e ∙ walked s w c.args.choices.now inner outer c.leads.result e r c.loop-outer.invariant.there c.leads.ensures
    ∙ ap (λ b. active s w (path_of s outer) && b) c.if-not-leads.true ∙ and_false (active s w (path_of s outer)))

pub loop-outer-smaller : goal.loop-outer-smaller
loop-outer-smaller c =
    let s = c.args.self.now in
    let r = step_up s c.loop-outer.inner c.in-Some.outer c.loop-outer.invariant.there c.in-Some.ensures in
    let d = ap length r.1 in
    omega (arith, d, length-append (path_of s c.in-Some.outer) (r.0 ∷ []))

pub loop-outer-preserved : goal.loop-outer-preserved
loop-outer-preserved c =
    let s = c.args.self.now in
    let inner = c.loop-outer.inner in
    let outer = c.in-Some.outer in
    let r = step_up s inner outer c.loop-outer.invariant.there c.in-Some.ensures in
    record {
      there = r.2;
      same = λ w e. c.loop-outer.invariant.same w e ∙ walked s w c.args.choices.now inner outer c.leads.result e r c.loop-outer.invariant.there c.leads.ensures
          ∙ ap (λ b. active s w (path_of s outer) && b) c.if-not-leads.false ∙ and_true (active s w (path_of s outer));
    }

pub returns : goal.returns
returns c = λ w e.
    let s = c.args.self.now in
    let fs = c.self.inside.families.items in
    let all = subst (λ (s : Spec). AreFamilies s fs) c.self.view_is c.self.invariant.families in
    let checked = subst (λ (s : Spec). IsChecked s) c.self.view_is c.self.invariant.checked in
    top_active s fs c.loop-outer.inner w checked all c.loop-outer.invariant.there (told_none (paths (states s)) (path_around (states s) c.loop-outer.inner) c.in_default.ensures)
    ∙ sym (c.loop-outer.invariant.same w e)
