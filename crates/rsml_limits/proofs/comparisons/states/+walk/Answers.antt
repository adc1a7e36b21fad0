use Rattle.std.proofs.Common.{◌≡◌, List, ap, ◌∙◌, sym, subst, OnOk}
use Rattle.std.specs.Prelude.{flat_map}
use Rattle.std.specs.Option.{option_copied}
use Rattle.rsml_syntax.specs.declared.syntax.StateDecl.{StateDecl}
use Rattle.rsml_syntax.specs.declared.syntax.Body.{Body}
use Rattle.rsml_syntax.specs.rules.Globals.{Globals}
use Rattle.rsml_syntax.specs.grammar.Parts.{inside, nearer, transitions_of}
use Rattle.rsml_syntax.specs.limits.Comparisons.{Comparison, comparisons}
use Rattle.rsml_limits.specs.comparisons.Searched.{searched, transition_comparisons, child_comparisons}
use Rattle.rsml_limits.proofs.AskGathering.{searched_append, searched_turn}
use Rattle.rsml_limits.proofs.Walking.{comparisons_all, comparisons_one}
use Rattle.rsml_limits.proofs.comparisons.states.+walk.Goals as goal

pub inside-returns-in-One : goal.inside-returns-in-One
inside-returns-in-One t c =
    let array = option_copied c.args.array in
    subst (λ (cs : Globals → List Comparison). OnOk c.each_child.result (c.each_child.new.search ≡ searched c.args.search.now cs))
    (λ i g. (ap (flat_map (child_comparisons g array)) c.as_slice.ensures
    ∙ sym (ap (λ (b : Body). flat_map (comparisons g) (inside array b)) c.in-One.is ∙ comparisons_one g array c.in-One.first c.in-One.children c.in-One.buses c.in-One.transitions)) i)
    c.each_child.ensures

pub inside-returns-in-All : goal.inside-returns-in-All
inside-returns-in-All t c =
    let array = option_copied c.args.array in
    subst (λ (cs : Globals → List Comparison). OnOk c.each_child-in-All.result (c.each_child-in-All.new.search ≡ searched c.args.search.now cs))
    (λ i g. (ap (flat_map (child_comparisons g array)) c.as_slice-in-All.ensures
    ∙ sym (ap (λ (b : Body). flat_map (comparisons g) (inside array b)) c.in-All.is ∙ comparisons_all g array c.in-All.children)) i)
    c.each_child-in-All.ensures

pub each_child-loop-child-preserved : goal.each_child-loop-child-preserved
each_child-loop-child-preserved t c =
    let array = option_copied c.args.array in
    let x = c.child-item.result in
    let around : option_copied c.nearer-around.result ≡ nearer x.size array = c.nearer-around.ensures ∙ ap (λ size. nearer size array) c.as_ref.ensures.value in
    let own = transition_comparisons (nearer x.size array) (transitions_of x.body) in
    searched_turn (λ (g : Globals) (d : StateDecl). child_comparisons g array d) _ _ _ _ _ _ c.loop-child-test.true c.child-item.is
    (c.in_ok-state.ensures
    ∙ ap (λ a. searched c.inside.new.search (transition_comparisons a (transitions_of x.body))) around
    ∙ ap (λ w. searched w own) (c.in_ok-inside.ensures ∙ ap (λ a. searched c.loop-child.search (λ g. flat_map (comparisons g) (inside a x.body))) around)
    ∙ sym (searched_append c.loop-child.search (λ g. flat_map (comparisons g) (inside (nearer x.size array) x.body)) own))
    c.loop-child.invariant
