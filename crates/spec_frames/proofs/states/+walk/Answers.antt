use Rattle.std.proofs.Common.{sym, ◌∙◌, true≢false}
use Rattle.std.specs.Cmp.Lexicographic.{pointwise}
use Rattle.spec_frames.specs.helpers.Sameness.{same_transition, same_child}
use Rattle.spec_frames.proofs.BodyLemmas.{one_passes}
use Rattle.spec_frames.proofs.states.+walk.Goals as goal
use Rattle.spec_frames.proofs.states.+walk.Goals.{same_body-then-eq, same_body-else-eq, same_body-then-eq-2, same_body-else-eq-2}

pub same_body-returns-then-same_transitions : goal.same_body-returns-then-same_transitions
same_body-returns-then-same_transitions t c = elim c.if-eq-2.branch [
  | same_body-else-eq-2 w ↦ absurd (true≢false (sym c.if-same_transitions.true ∙ w.value-is ∙ w.if-eq-2.false))
  | same_body-then-eq-2 w ↦ elim c.if-eq.branch [
    | same_body-else-eq v ↦ absurd (true≢false (sym w.if-eq-2.true ∙ v.value-is ∙ v.if-eq.false))
    | same_body-then-eq v ↦
        let k = c.in-One-One in
        c.same_children.ensures
        ∙ (λ i. pointwise same_child (c.as_slice-then-same_transitions.ensures i) (c.as_slice-then-same_transitions-2.ensures i))
        ∙ one_passes c.args.one.now c.args.two.now k.first k.other k.children k.others k.buses k.groups k.transitions k.moves k.is-0 k.is-1
        (sym c.eq.ensures ∙ v.if-eq.true)
        (sym v.eq-then-eq.ensures ∙ sym v.value-is ∙ w.if-eq-2.true)
        (sym (w.same_transitions.ensures ∙ (λ i. pointwise same_transition (w.as_slice.ensures i) (w.as_slice-then-eq-2.ensures i))) ∙ sym w.value-is ∙ c.if-same_transitions.true)
  ]
]
