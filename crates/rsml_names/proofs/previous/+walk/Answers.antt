use Rattle.std.proofs.Common.{◌≡◌, IfOk, List, flat_map, sym, ap, ◌∙◌, subst}
use Rattle.rsml_syntax.specs.declared.syntax.Body.{Body}
use Rattle.rsml_syntax.specs.declared.syntax.StateDecl.{StateDecl}
use Rattle.rsml_syntax.specs.declared.syntax.Sum.{Sum}
use Rattle.rsml_syntax.specs.declared.syntax.Transition.{Transition}
use Rattle.rsml_syntax.specs.text.Names.{Name}
use Rattle.rsml_syntax.specs.grammar.Parts.{transitions_of}
use Rattle.rsml_names.specs.PreviousNames.{gathered, sums_inside, sums_of_state, sums_of_transitions}
use Rattle.rsml_names.proofs.SumsInside.{sums_of_one}
use Rattle.rsml_names.proofs.PreviousGathering.{gathered_turn, gathered_twice}
use Rattle.rsml_names.proofs.previous.+walk.Goals as goal

pub with_children-loop-child-preserved : goal.with_children-loop-child-preserved
with_children-loop-child-preserved t c =
    let body = c.child-item.result.body in
    let own : List Sum = sums_of_transitions (transitions_of body) in
    gathered_turn _ _ _ _ _ _ _ c.loop-child-test.true c.child-item.is c.loop-child.invariant
    (c.in_ok-names.ensures
    ∙ ap (λ (ts : List Transition). gathered c.in_ok-within.within (sums_of_transitions ts)) c.transitions_of.ensures
    ∙ ap (λ (ns : List Name). gathered ns own) c.in_ok-within.ensures
    ∙ gathered_twice c.loop-child.names (sums_inside body) own)

pub with_inside-returns-in-One : goal.with_inside-returns-in-One
with_inside-returns-in-One t c =
    let sums : flat_map (λ (s : StateDecl). sums_of_state s.body) c.as_slice.result.now ≡ sums_inside c.args.body.now =
    ap (λ (ss : List StateDecl). flat_map (λ (s : StateDecl). sums_of_state s.body) ss) c.as_slice.ensures
    ∙ sym (sums_of_one c.in-One.first c.in-One.children c.in-One.buses c.in-One.transitions)
    ∙ ap (λ (b : Body). sums_inside b) (sym c.in-One.is) in
    subst (λ (ss : List Sum). IfOk c.with_children.result (λ n. n ≡ gathered c.args.names ss)) sums c.with_children.ensures
