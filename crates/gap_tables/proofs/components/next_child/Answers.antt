use Rattle.std.proofs.Common.{◌≡◌, ◌<◌, ◌&&◌, not, suc, false, true, None, length, sym, subst, ◌∙◌, slice_index_or, arith}
use Rattle.guard_encode.specs.Encoding.{Tells}
use Rattle.guard_encode.proofs.StepLemmas.{keeps_on, told_on}
use Rattle.group_verdicts.proofs.Keeping.{on_old}
use Rattle.group_verdicts.proofs.Parts.{many_choices}
use Rattle.world_columns.specs.Columns.{is_allowed}
use Rattle.world_columns.specs.Gaps.{IsWidestChild}
use Rattle.gap_tables.specs.Widening.{FindsLater, IsNowhere, begins_with, child_at, children_alone}
use Rattle.gap_tables.proofs.Places.{get_index}
use Rattle.gap_tables.proofs.Steps as steps
use Rattle.gap_tables.proofs.PartAnswers.{bad_worlds, begun_child, child_widest, told_any, told_child, unread_widest}
use Rattle.gap_tables.proofs.components.next_child.Goals as goal

pub returns-then-not-is_read-clause-answer : goal.returns-then-not-is_read-clause-answer
returns-then-not-is_read-clause-answer c = λ set cs of many later other begun.
    let a = c.args.encoder.now in
    let s = a.machine.base.spec in
    let w = c.args.world.now in
    let all = many_choices s w c.requires.world in
    let there = c.requires.component in
    let less : length cs < length w.choices = omega (arith, many, all, there) in
    let not : slice_index_or c.args.read.now.choices (length cs) true ≡ false =
    subst (λ n. slice_index_or c.args.read.now.choices n true ≡ false) (sym many) (sym c.is_read.ensures ∙ c.if-not-is_read.true) in (
      steps.next_child s c.args.read.now set w cs (child_at (length cs) w) None c.requires.world of (get_index w.choices (length cs) 0 less) begun.0 (unread_widest s c.args.read.now set w cs not begun.0),
      told_any a cs c.args.inside begun.1,
    )

pub returns-clause-answer : goal.returns-clause-answer
returns-clause-answer c = λ set cs of many later other begun.
    let a = c.args.encoder.now in
    let b = c.coming.new.encoder in
    let e = c.child_of.new.encoder in
    let d = c.having.new.encoder in
    let s = a.machine.base.spec in
    let read = c.args.read.now in
    let w = c.args.world.now in
    let child = c.in_ok-child.child in
    let all = many_choices s w c.requires.world in
    let there = c.requires.component in
    let less : length cs < length w.choices = omega (arith, many, all, there) in
    let after : FindsLater a read w (suc (length cs)) 0 c.args.after = subst (λ n. FindsLater a read w (suc n) 0 c.args.after) (sym many) later in
    let truth = bad_worlds a read w (suc (length cs)) 0 c.args.after c.args.others c.args.inside (λ v. not (set v)) (begins_with (children_alone cs)) after other begun.1 in
    let found = c.in_ok-bad.ensures.answer after.later other.told begun.1.told after.finds other.tells begun.1.tells in
    let widest = on_old (λ s. IsWidestChild (λ x. IsNowhere s (λ v. truth v && is_allowed x (child_at c.args.component v))) c.child_in-own.result child) a b c.in_ok-bad.ensures.keeps (c.in_ok-child.ensures.answer truth found) in
    let here = subst (λ n. IsWidestChild (λ x. IsNowhere s (λ v. truth v && is_allowed x (child_at n v))) (child_at n w) child) (sym many)
    (subst (λ own. IsWidestChild (λ x. IsNowhere s (λ v. truth v && is_allowed x (child_at c.args.component v))) own child) c.child_in-own.ensures widest) in
    let ae = keeps_on a b e c.in_ok-bad.ensures.keeps c.in_ok-child.ensures.keeps in
    let ad = keeps_on a e d ae c.in_ok-narrowed.ensures.keeps in
    let told = c.in_ok-narrowed.ensures.answer begun.1.told (told_on a e begun.1.told c.args.inside ae begun.1.tells) in (
      begun_child a d read w set cs child ad c.requires.world of less begun.0
          (child_widest a read w set cs (child_at (length cs) w) c.args.after c.args.others c.args.inside child after other begun.1 here),
      told_child a d cs child c.in_ok-narrowed.narrowed c.args.inside ad begun.1
          (subst (λ n. Tells d (λ v. begun.1.told v && is_allowed child (child_at n v)) c.in_ok-narrowed.narrowed) (sym many) told),
    )
