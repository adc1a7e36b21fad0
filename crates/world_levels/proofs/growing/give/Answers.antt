use Rattle.std.proofs.Common.{◌≡◌, ◌-◌, slice_index_or, refl, ◌∙◌, arith}
use Rattle.std.proofs.lemmas.List.{get_or_default}
use Rattle.world_levels.proofs.LevelLemmas.{given}
use Rattle.world_levels.proofs.growing.give.Goals as goal

pub returns-clause-grows : goal.returns-clause-grows
returns-clause-grows c =
    let lacks : c.index_mut.result.now ≡ slice_index_or c.args.left.now.items c.args.part 0 =
    c.index_mut.ensures.value ∙ get_or_default c.args.left.now.items c.args.part c.index_mut.result.now 0 c.requires.part in
    given c.args.slots.now.items c.add.new.slots.items c.args.left.now.items _ c.args.part c.args.weight (c.index_mut.result.now - c.args.weight) c.requires.part
    (omega (arith, lacks, c.requires.weight)) (omega (arith, lacks, c.requires.weight))
    c.in_ok-add.ensures.last c.in_ok-add.ensures.few refl
