use Rattle.std.proofs.Common.{◌≡◌, ◌<◌, Some, length, sym, ◌∙◌, subst, slice_get, SFits, to_z, of_z, w64, pos, ◌+ℤ◌, ℤ, rules}
use Rattle.std.proofs.lemmas.Int.{to_z-of_z}
use Rattle.rsml_syntax.specs.declared.syntax.Spec.{Spec}
use Rattle.rsml_meaning.specs.Cells.{cells}
use Rattle.state_tree.proofs.Lists.{within_get}
use Rattle.guard_encode.proofs.StepLemmas.{keeps_on}
use Rattle.group_verdicts.specs.Finding.{Bounded}
use Rattle.group_verdicts.proofs.Keeping.{spec_of, ref_on}
use Rattle.group_verdicts.proofs.BoundSteps.{number_in, bounded_by_ends, bounded_below, bounded_above, bounded_at_one, still_told, not_less}
use Rattle.group_verdicts.proofs.cells.least_by_halving.Goals as goal

pub loop-low-init : goal.loop-low-init
loop-low-init c =
    let a = c.args.encoder.now in
    let s = c.worlds-worlds.result.now in
    let own : s ≡ a.machine.base.spec = spec_of a c.machine.result.now s c.worlds-worlds.ensures c.machine.ensures in
    let there = within_get (cells s) c.args.cell (subst (λ (t : Spec). c.args.cell < length (cells t)) (sym own) c.requires.cell) in
    let low_fits : SFits w64 c.low-low.result = search rules in
    let high_fits : SFits w64 c.high-high.result = search rules in
    record {
      keeps = c.in_ok-told.ensures.keeps;
      is_ref = c.in_ok-told.ensures.is_ref;
      of_cell = c.in_ok-told.ensures.answer;
      bounded = bounded_by_ends a there.0 c.args.cell (to_z w64 (of_z w64 c.low-low.result)) (to_z w64 (of_z w64 c.high-high.result)) c.args.f
          (subst (λ (t : Spec). slice_get (cells t) c.args.cell ≡ Some there.0) own there.1)
          (to_z-of_z w64 c.low-low.result low_fits ∙ c.low-low.ensures there.0 there.1)
          (to_z-of_z w64 c.high-high.result high_fits ∙ c.high-high.ensures there.0 there.1);
    }

pub loop-low-preserved-then-branch : goal.loop-low-preserved-then-branch
loop-low-preserved-then-branch c =
    let a = c.args.encoder.now in
    let b = c.loop-low.encoder in
    let d = c.may_be_at_most.new.self in
    let told = c.in_ok-told.told in
    let before = c.loop-low.invariant in
    let keeps = c.in_ok-may_be_at_most.ensures.keeps in
    let low = to_z w64 c.loop-low.low-bits in
    let middle = to_z w64 (of_z w64 c.halfway-middle.result) in
    let high = to_z w64 c.loop-low.high-bits in
    record {
      keeps = keeps_on a b d before.keeps keeps;
      is_ref = ref_on b d told keeps before.is_ref;
      of_cell = still_told a b d c.args.cell c.args.f told keeps before.of_cell;
      bounded = bounded_below a b c.args.cell low middle high c.args.f told c.in_ok-may_be_at_most.field-0 before.keeps c.if-branch.true before.bounded before.of_cell c.in_ok-may_be_at_most.ensures.answer;
    }

pub loop-low-preserved : goal.loop-low-preserved
loop-low-preserved c =
    let a = c.args.encoder.now in
    let b = c.loop-low.encoder in
    let d = c.may_be_at_most.new.self in
    let told = c.in_ok-told.told in
    let before = c.loop-low.invariant in
    let keeps = c.in_ok-may_be_at_most.ensures.keeps in
    let low = to_z w64 c.loop-low.low-bits in
    let middle = to_z w64 (of_z w64 c.halfway-middle.result) in
    let high = to_z w64 c.loop-low.high-bits in
    let fits : SFits w64 (middle +ℤ pos 1) = search rules in
    record {
      keeps = keeps_on a b d before.keeps keeps;
      is_ref = ref_on b d told keeps before.is_ref;
      of_cell = still_told a b d c.args.cell c.args.f told keeps before.of_cell;
      bounded = subst (λ (n : ℤ). Bounded a (number_in c.args.cell) n high c.args.f) (sym (to_z-of_z w64 (middle +ℤ pos 1) fits))
          (bounded_above a b c.args.cell low middle high c.args.f told c.in_ok-may_be_at_most.field-0 before.keeps c.if-branch.false before.bounded before.of_cell c.in_ok-may_be_at_most.ensures.answer);
    }

pub returns-clause-answer : goal.returns-clause-answer
returns-clause-answer c =
    bounded_at_one c.args.encoder.now (number_in c.args.cell) (to_z w64 c.loop-low.low-bits) (to_z w64 c.loop-low.high-bits) c.args.f
    (not_less (to_z w64 c.loop-low.low-bits) (to_z w64 c.loop-low.high-bits) c.loop-low-test.false) c.loop-low.invariant.bounded
