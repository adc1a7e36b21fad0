use Rattle.std.proofs.Common.{◌<◌, ◌==◌, ℕ, true, false, List, length, sym, ap, ◌∙◌, subst}
use Rattle.std.specs.List.{list_any}
use Rattle.rsml_syntax.specs.declared.syntax.Spec.{Spec}
use Rattle.rsml_meaning.specs.Worlds.{IsWorld}
use Rattle.spelled_numbers.specs.declared.slot.Slot.{Slot}
use Rattle.world_levels.specs.Spelling.{free_from, spelled_world}
use Rattle.guard_encode.specs.Holding.{key_truth, values_in}
use Rattle.guard_encode.proofs.HoldingLemmas.{free_value, part_level}
use Rattle.guard_encode.proofs.holding.value.Goals as goal

pub is_true-requires-clause-world : goal.is_true-requires-clause-world
is_true-requires-clause-world c = subst (λ (s : Spec). IsWorld s c.args.world.now) (sym c.layout-layout.ensures.spec) c.requires.world

pub is_true-requires-clause-part : goal.is_true-requires-clause-part
is_true-requires-clause-part c =
    let l = c.layout-layout.result.now in
    part_level l.slots c.args.level
    (subst (λ (ss : List Slot). c.args.level < length ss) (sym c.layout-layout.ensures.slots) c.requires.level)
    (ap (λ (xs : List ℕ). list_any (λ o. o == c.args.level) xs) (sym c.free_levels.ensures) ∙ sym c.contains.ensures.value ∙ c.if-contains.false)

pub returns-then-contains : goal.returns-then-contains
returns-then-contains c =
    let k = c.args.levels.now in
    c.key_truth.ensures
    ∙ sym (free_value c.world_laws.ensures.free k c.args.world.now c.args.level
    (ap (λ (ss : List Slot). list_any (λ o. o == c.args.level) (free_from ss 0)) (sym c.layout-layout.ensures.slots)
    ∙ ap (λ (xs : List ℕ). list_any (λ o. o == c.args.level) xs) (sym c.free_levels.ensures) ∙ sym c.contains.ensures.value ∙ c.if-contains.true))

pub returns-else-contains : goal.returns-else-contains
unfolding values_in
returns-else-contains c =
    let k = c.args.levels.now in
    let w = c.args.world.now in
    c.is_true.ensures (key_truth k w)
    ∙ (λ i. spelled_world (c.layout-layout.ensures.spec i) (c.layout-layout.ensures.slots i) w (key_truth k w) c.args.level)
