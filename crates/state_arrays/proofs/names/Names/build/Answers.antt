use Rattle.std.proofs.Common.{refl, ap, ◌∙◌}
use Rattle.rsml_syntax.specs.rules.Globals.{globals}
use Rattle.state_arrays.proofs.MadeLemmas.{event_arrays_by, input_arrays_by, previous_arrays_by, definition_arrays_by, receive_arrays_by, send_arrays_by, numbered}
use Rattle.state_arrays.proofs.names.Names.build.Goals as goal

pub all_named-requires-clause-events : goal.all_named-requires-clause-events
all_named-requires-clause-events c = event_arrays_by _ _ _ _ c.spec-spec.ensures.same refl (c.in_ok-globals.ensures ∙ ap globals c.as_slice.ensures) c.spec-spec.ensures.checked

pub all_named-requires-clause-inputs : goal.all_named-requires-clause-inputs
all_named-requires-clause-inputs c = input_arrays_by _ _ _ _ c.spec-spec.ensures.same refl (c.in_ok-globals.ensures ∙ ap globals c.as_slice.ensures) c.spec-spec.ensures.checked

pub all_named-requires-clause-previous : goal.all_named-requires-clause-previous
all_named-requires-clause-previous c = previous_arrays_by _ _ _ _ c.spec-spec.ensures.same refl (c.in_ok-globals.ensures ∙ ap globals c.as_slice.ensures) _ c.spec-spec.ensures.checked

pub all_named-requires-clause-definitions : goal.all_named-requires-clause-definitions
all_named-requires-clause-definitions c = definition_arrays_by _ _ _ _ c.spec-spec.ensures.same refl (c.in_ok-globals.ensures ∙ ap globals c.as_slice.ensures) c.spec-spec.ensures.checked

pub all_named-requires-clause-receives : goal.all_named-requires-clause-receives
all_named-requires-clause-receives c = receive_arrays_by _ _ _ _ c.spec-spec.ensures.same refl (c.in_ok-globals.ensures ∙ ap globals c.as_slice.ensures) c.spec-spec.ensures.checked

pub all_named-requires-clause-sends : goal.all_named-requires-clause-sends
all_named-requires-clause-sends c = send_arrays_by _ _ _ _ c.spec-spec.ensures.same refl (c.in_ok-globals.ensures ∙ ap globals c.as_slice.ensures) c.spec-spec.ensures.checked

pub invariant_of-result : goal.invariant_of-result
invariant_of-result c =
    let made = c.in_ok-named.ensures in
    numbered _ _ _ _ c.spec-spec.ensures.same refl (c.in_ok-globals.ensures ∙ ap globals c.as_slice.ensures) _ c.in_ok-named.named.events c.in_ok-named.named.cells.inputs c.in_ok-named.named.cells.previous
    c.in_ok-named.named.interfaces.definitions c.in_ok-named.named.interfaces.receives c.in_ok-named.named.interfaces.sends c.in_ok-paths.paths c.spec-spec.ensures.checked refl made.events
    made.inputs made.previous made.definitions made.receives made.sends c.in_ok-paths.ensures
