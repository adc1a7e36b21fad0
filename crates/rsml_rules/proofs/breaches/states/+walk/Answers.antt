use Rattle.std.proofs.Common.{◌≡◌, ◌+◌, [], List, take, Option, true, false, refl, ap, sym, ◌∙◌, subst}
use Rattle.std.specs.Prelude.{flat_map, OnOk}
use Rattle.std.specs.Option.{option_copied}
use Rattle.std.proofs.lemmas.Option.{slice_get_read}
use Rattle.rsml_syntax.specs.declared.syntax.Body.{Body}
use Rattle.rsml_syntax.specs.rules.Breaches.{Breach}
use Rattle.rsml_rules.specs.breaches.Noting.{noted}
use Rattle.rsml_syntax.specs.grammar.Parts as parts
use Rattle.rsml_syntax.specs.rules.Rules as rules
use Rattle.rsml_names.specs.Kin.{Family, Holds}
use Rattle.rsml_rules.proofs.Earlier.{names_turn}
use Rattle.rsml_rules.proofs.Kinship.{held_none}
use Rattle.rsml_rules.proofs.Walking.{inside_one, inside_all, state_noted, child_turn}
use Rattle.rsml_rules.proofs.breaches.states.+walk.Goals as goal
use Rattle.rsml_rules.proofs.breaches.states.+walk.Goals.{each_child-in-Some+in_ok-judged, each_child-in_default}

pub inside-returns-in-One : goal.inside-returns-in-One
inside-returns-in-One t c =
    let array = option_copied c.args.array in
    let e = ap (λ (b : Body). parts.inside array b) c.in-One.is ∙ inside_one array c.in-One.first c.in-One.children c.in-One.buses c.in-One.transitions in
    subst (λ (ps : List parts.Part). OnOk c.each_child.result (c.each_child.new.worst ≡ noted c.args.worst.now (flat_map (rules.judged c.args.setting.now.tables) ps)))
    (ap (λ ds. parts.child_parts true array [] ds) c.as_slice.ensures ∙ sym e) c.each_child.ensures

pub inside-returns-in-All : goal.inside-returns-in-All
inside-returns-in-All t c =
    let array = option_copied c.args.array in
    let e = ap (λ (b : Body). parts.inside array b) c.in-All.is ∙ inside_all array c.in-All.children in
    subst (λ (ps : List parts.Part). OnOk c.each_child-in-All.result (c.each_child-in-All.new.worst ≡ noted c.args.worst.now (flat_map (rules.judged c.args.setting.now.tables) ps)))
    (ap (λ ds. parts.child_parts false array [] ds) c.as_slice-in-All.ensures ∙ sym e) c.each_child-in-All.ensures

pub judged-returns-in_ok-closing : goal.judged-returns-in_ok-closing
judged-returns-in_ok-closing t c =
    let near = c.nearer-array.ensures ∙ ap (λ (s : parts.State). parts.nearer s.size s.array) c.state.view_is in
    c.in_ok-closing.ensures
    ∙ state_noted c.args.setting.now.tables c.args.state.now c.args.worst.now c.opening.new.worst c.inside.new.worst _ c.args.body.now c.opening.ensures near c.requires.body c.in_ok-inside.ensures

pub each_child-loop-place-preserved : goal.each_child-loop-place-preserved
each_child-loop-place-preserved t c =
    let cs = c.args.children.now in
    let i = c.loop-place.place in
    let x = c.index-children-place.result in
    let names = c.args.names.now in
    elim c.match-below.branch [
      | each_child-in-Some+in_ok-judged w ↦
          child_turn c.args.setting.now.tables c.loop-place.worst c.match-below.worst _ c.args.in_one (option_copied c.args.array) (take i names) (take (i + 1) names) cs i x c.is_earlier.result (option_copied c.as_ref.result)
          c.loop-place-test.true
          c.index-children-place.is
          (names_turn names cs i x c.requires.names c.loop-place-test.true c.index-children-place.is)
          c.is_earlier.ensures
          c.as_ref.ensures.value
          (w.worst-is ∙ w.in_ok-judged.ensures)
          c.loop-place.invariant
      | each_child-in_default w ↦
          held_none c.families.result.now c.below.result x w.in_default.is
          (c.below.ensures cs x
          (subst (λ (fs : List Family). Holds fs c.args.family cs) (sym c.families.ensures) c.requires.family)
          (slice_get_read cs _ i x refl c.loop-place-test.true c.index-children-place.is))
    ]
