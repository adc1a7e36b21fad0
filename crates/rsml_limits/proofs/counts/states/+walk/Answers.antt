use Rattle.std.proofs.Common.{◌≡◌, ℕ, IfOk, List, sym, ap, ◌∙◌, subst}
use Rattle.std.specs.Option.{option_copied}
use Rattle.rsml_syntax.specs.declared.syntax.Body.{Body}
use Rattle.rsml_syntax.specs.declared.syntax.StateDecl.{StateDecl}
use Rattle.rsml_syntax.specs.limits.Limits.{adds, shown}
use Rattle.rsml_syntax.specs.grammar.Parts.{inside}
use Rattle.rsml_limits.specs.counts.Counting.{counted, child_count}
use Rattle.rsml_limits.proofs.CountChildren.{count_of_one}
use Rattle.rsml_limits.proofs.counts.states.+walk.Goals as goal

pub inside-returns-in-One : goal.inside-returns-in-One
inside-returns-in-One t c =
    let k = c.args.counted in
    let w = c.args.names.now in
    let a = option_copied c.args.array in
    let count : adds (child_count k w a) c.as_slice.result.now ≡ adds (counted k w) (inside a c.args.body.now) =
    ap (λ (ss : List StateDecl). adds (child_count k w a) ss) c.as_slice.ensures
    ∙ sym (count_of_one k w a c.in-One.first c.in-One.children c.in-One.buses c.in-One.transitions)
    ∙ ap (λ (b : Body). adds (counted k w) (inside a b)) (sym c.in-One.is) in
    subst (λ (m : ℕ). IfOk c.all_children.result (λ n. n ≡ shown m)) count c.all_children.ensures
