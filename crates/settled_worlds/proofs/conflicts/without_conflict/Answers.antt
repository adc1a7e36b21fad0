use Rattle.std.proofs.Common.{subst}
use Rattle.linear_conflicts.specs.Rows.{AreInConflict}
use Rattle.settled_worlds.specs.Conflicts.{IsWithout}
use Rattle.settled_worlds.proofs.ConflictLemmas.{conflict_off}
use Rattle.settled_worlds.proofs.RowLemmas.{if_some}
use Rattle.settled_worlds.proofs.conflicts.without_conflict.Goals as goal

pub returns-in-Some-clause-answer : goal.returns-in-Some-clause-answer
returns-in-Some-clause-answer c =
    let k = c.args.levels.now in
    let rows = c.in_ok-rows.rows in
    let core = c.in-Some.core.items in
    let found : AreInConflict c.args.ranges.now c.as_slice-2.result.now core =
    if_some c.in_ok-core.field-0 c.in-Some.core _ c.in-Some.is c.in_ok-core.ensures in
    let less : IsWithout k rows.literals.items core c.args.arena.now c.without.new.arena c.args.f c.in_ok-less-in-Some.less =
    subst (λ ls. IsWithout k ls core c.args.arena.now c.without.new.arena c.args.f c.in_ok-less-in-Some.less) c.as_slice-in-Some.ensures.value
    (subst (λ ps. IsWithout k c.as_slice-in-Some.result.now ps c.args.arena.now c.without.new.arena c.args.f c.in_ok-less-in-Some.less) c.as_slice-in-Some-2.ensures.value
    c.in_ok-less-in-Some.ensures.answer) in
    conflict_off k c.args.ranges.now rows core c.args.arena.now c.without.new.arena c.args.f c.in_ok-less-in-Some.less c.requires.ranges c.in_ok-rows.ensures
    (subst (λ rs. AreInConflict c.args.ranges.now rs core) c.as_slice-2.ensures.value found) less
