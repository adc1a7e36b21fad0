use Rattle.std.proofs.Common.{◌+◌, ◌∙◌, ap, length, sym, subst}
use Rattle.std.proofs.lemmas.List.{length_push}
use Rattle.rsml_ground.specs.Truths.{is_active}
use Rattle.phrase_diagrams.specs.Tells.{Tells}
use Rattle.phrase_diagrams.specs.Active.{AreActive}
use Rattle.bdd_core.proofs.StepLemmas.{keeps_trans}
use Rattle.phrase_diagrams.proofs.Told.{active_keeps, active_push, spell_choices}
use Rattle.phrase_diagrams.proofs.states.active_states.Goals as goal

pub active_state-requires-clause-each : goal.active_state-requires-clause-each
active_state-requires-clause-each c =
    subst (λ fs. AreActive c.loop-node.arena c.args.layout.now c.args.tree.now fs) (sym c.as_slice.ensures.value) c.loop-node.invariant.each

pub loop-node-preserved : goal.loop-node-preserved
loop-node-preserved c =
    let s = c.args.tree.now in
    let levels = c.args.layout.now in
    let items = c.loop-node.active.items in
    let diagram = c.in_ok-diagram.diagram in
    let new = c.active_state.new.arena in
    let told : Tells new levels (λ w. is_active s w (length items)) diagram =
    subst (λ i. Tells new levels (λ w. is_active s w i) diagram) (sym c.loop-node.invariant.many) c.in_ok-diagram.ensures.answer in
    record {
      keeps = keeps_trans c.args.arena.now c.loop-node.arena new c.loop-node.invariant.keeps c.active_state.ensures.keeps;
      many = ap length c.in_ok-push.ensures.items ∙ length_push items diagram ∙ ap (λ n. n + 1) c.loop-node.invariant.many;
      each = subst (λ fs. AreActive new levels s fs) (sym c.in_ok-push.ensures.items)
          (active_push new levels s items diagram (active_keeps c.loop-node.arena new levels s items c.active_state.ensures.keeps c.loop-node.invariant.each) told);
    }

pub active_state-requires-clause-choices : goal.active_state-requires-clause-choices
active_state-requires-clause-choices c = spell_choices c.args.tree.now c.args.layout.now c.requires.tree c.law.ensures c.world_laws.ensures.all
