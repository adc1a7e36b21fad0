use Rattle.std.proofs.Common.{flat_map, sym, ap, ◌∙◌, subst}
use Rattle.rsml_meaning.specs.Words.{Each}
use Rattle.rsml_meaning.specs.Instances.{globals_of, components}
use Rattle.rsml_meaning.specs.Transitions.{transitions_of}
use Rattle.ground_members.specs.Scoped.{TransitionIsScoped}
use Rattle.ground_members.specs.Written.{all_made_by}
use Rattle.ground_members.proofs.Rules.{transitions_scoped}
use Rattle.ground_members.proofs.transitions.ground_transitions.Goals as goal

pub transitions_from-requires-clause-scoped : goal.transitions_from-requires-clause-scoped
transitions_from-requires-clause-scoped c =
    let s = c.args.lookup.now in
    let g = globals_of s in
    subst (Each (TransitionIsScoped s)) (sym (ap (all_made_by g) c.as_slice.ensures.value ∙ c.in_ok-written.ensures.made g ∙ ap (λ t. flat_map (transitions_of g) (components t)) c.requires.tree))
    (transitions_scoped s c.requires.before.checked c.requires.before.short)
