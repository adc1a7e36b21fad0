use Rattle.std.proofs.Common.{◌≡◌, ◌<◌, ◌&&◌, Bool, true, false, List, ◌++◌, length, refl, sym, ap, ◌∙◌, subst}
use Rattle.std.proofs.lemmas.List.Elements.{All-append}
use Rattle.std.proofs.lemmas.List.Folds.{list_all-append}
use Rattle.rsml_meaning.specs.Instances.{components}
use Rattle.state_tree.proofs.Walks.{step_up, and_true}
use Rattle.rsml_ground.specs.Truths.{is_active}
use Rattle.rsml_ground.specs.declared.choices.Choice.{Choice}
use Rattle.rsml_ground.specs.Choices.{AreOfComponents, are_chosen, is_chosen, some_choice}
use Rattle.rsml_ground.proofs.Activity.{around_before, top_active}
use Rattle.rsml_ground.proofs.choices.choices_around.Goals as goal

pub loop-outer-smaller : goal.loop-outer-smaller
loop-outer-smaller c = around_before c.args.tree.now c.requires.checked c.loop-outer.inner c.in-Some.outer c.loop-outer.invariant.there c.in-Some.ensures

turned : (a o p : Bool) → ((a && p) && o) ≡ (a && (o && p))
turned true true true = refl
turned true true false = refl
turned true false true = refl
turned true false false = refl
turned false o p = refl

pub loop-outer-preserved : goal.loop-outer-preserved
loop-outer-preserved c =
    let s = c.args.tree.now in
    let inner = c.loop-outer.inner in
    let outer = c.in-Some.outer in
    let old = c.loop-outer.choices.items in
    let more = some_choice c.choice_for.result in
    record {
      there = (step_up s inner outer c.loop-outer.invariant.there c.in-Some.ensures).2;
      components = subst (AreOfComponents s) (sym c.in_ok-put.ensures)
          (All-append (λ (x : Choice). x.component < length (components s)) old more c.loop-outer.invariant.components c.choice_for.ensures.component);
      active = λ w ch.
          ap (λ (cs : List Choice). are_chosen w.choices cs && is_active s w outer) c.in_ok-put.ensures
          ∙ ap (λ (b : Bool). b && is_active s w outer) (list_all-append (is_chosen w.choices) old more)
          ∙ turned (are_chosen w.choices old) (is_active s w outer) (are_chosen w.choices more)
          ∙ ap (λ (b : Bool). are_chosen w.choices old && b) (sym (c.choice_for.ensures.active w ch))
          ∙ c.loop-outer.invariant.active w ch;
    }

pub returns-clause-active : goal.returns-clause-active
returns-clause-active c = λ w ch.
    let s = c.args.tree.now in
    let all = are_chosen w.choices c.loop-outer.choices.items in
    sym (and_true all)
    ∙ ap (λ (b : Bool). all && b) (sym (top_active s c.requires.checked c.loop-outer.inner w c.loop-outer.invariant.there c.in_default.ensures))
    ∙ c.loop-outer.invariant.active w ch
