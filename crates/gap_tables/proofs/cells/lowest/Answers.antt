use Rattle.std.proofs.Common.{ℤ, to_z, of_z, w64, SFits, rules, sym, subst, pos, ◌+ℤ◌, ◌<ℤ◌, ◌≤ℤ◌}
use Rattle.std.proofs.lemmas.Int.{to_z-of_z}
use Rattle.guard_encode.proofs.StepLemmas.{keeps_on}
use Rattle.group_verdicts.proofs.Keeping.{ref_on}
use Rattle.gap_tables.specs.Widening.{LowestEnd}
use Rattle.gap_tables.proofs.Ends.{lower_half, not_lower, last_low}
use Rattle.gap_tables.proofs.cells.lowest.Goals as goal

pub loop-end-preserved-then-branch : goal.loop-end-preserved-then-branch
loop-end-preserved-then-branch c =
    let a = c.args.encoder.now in
    let b = c.loop-end.encoder in
    let d = c.lies.new.encoder in
    let before = c.loop-end.invariant in
    let keeps = c.in_ok-lies.ensures.keeps in
    let low = to_z w64 (of_z w64 c.args.low) in
    let own = to_z w64 (of_z w64 c.args.own) in
    let high = to_z w64 (of_z w64 c.args.high) in
    let from = to_z w64 c.loop-end.end-bits in
    let middle = to_z w64 (of_z w64 c.lower_half-middle.result) in
    let to = to_z w64 c.loop-end.good-bits in
    let fits : SFits w64 c.lower_half-middle.result = search rules in
    let same = to_z-of_z w64 c.lower_half-middle.result fits in
    record {
      keeps = keeps_on a b d before.keeps keeps;
      told_ref = ref_on b d c.args.told keeps before.told_ref;
      between = lower_half a b c.args.cell c.args.told low own high from middle to c.in_ok-lies.field-0 before.keeps
          (subst (λ (n : ℤ). from ≤ℤ n) (sym same) c.lower_half-middle.ensures.low) (subst (λ (n : ℤ). n <ℤ to) (sym same) c.lower_half-middle.ensures.high)
          c.in_ok-lies.ensures.answer c.if-branch.true before.between;
    }

pub loop-end-preserved : goal.loop-end-preserved
loop-end-preserved c =
    let a = c.args.encoder.now in
    let b = c.loop-end.encoder in
    let d = c.lies.new.encoder in
    let before = c.loop-end.invariant in
    let keeps = c.in_ok-lies.ensures.keeps in
    let low = to_z w64 (of_z w64 c.args.low) in
    let own = to_z w64 (of_z w64 c.args.own) in
    let high = to_z w64 (of_z w64 c.args.high) in
    let from = to_z w64 c.loop-end.end-bits in
    let middle = to_z w64 (of_z w64 c.lower_half-middle.result) in
    let to = to_z w64 c.loop-end.good-bits in
    let fits : SFits w64 c.lower_half-middle.result = search rules in
    let same = to_z-of_z w64 c.lower_half-middle.result fits in
    let more_fits : SFits w64 (middle +ℤ pos 1) = search rules in
    record {
      keeps = keeps_on a b d before.keeps keeps;
      told_ref = ref_on b d c.args.told keeps before.told_ref;
      between = subst (λ (n : ℤ). LowestEnd a c.args.cell c.args.told low own high n to) (sym (to_z-of_z w64 (middle +ℤ pos 1) more_fits))
          (not_lower a b c.args.cell c.args.told low own high from middle to c.in_ok-lies.field-0 before.keeps
          (subst (λ (n : ℤ). from ≤ℤ n) (sym same) c.lower_half-middle.ensures.low) (subst (λ (n : ℤ). n <ℤ to) (sym same) c.lower_half-middle.ensures.high)
          c.in_ok-lies.ensures.answer c.if-branch.false before.between);
    }

pub returns-clause-answer : goal.returns-clause-answer
returns-clause-answer c =
    let a = c.args.encoder.now in
    let low = to_z w64 (of_z w64 c.args.low) in
    let own = to_z w64 (of_z w64 c.args.own) in
    let high = to_z w64 (of_z w64 c.args.high) in
    let from = to_z w64 c.loop-end.end-bits in
    let to = to_z w64 c.loop-end.good-bits in
    let low_fits : SFits w64 c.args.low = search rules in
    let own_fits : SFits w64 c.args.own = search rules in
    let high_fits : SFits w64 c.args.high = search rules in
    let not_less : from <ℤ to → ⊥ = search rules in
    subst (λ (n : ℤ). LowestEnd a c.args.cell c.args.told n c.args.own c.args.high to to) (to_z-of_z w64 c.args.low low_fits)
    (subst (λ (n : ℤ). LowestEnd a c.args.cell c.args.told low n c.args.high to to) (to_z-of_z w64 c.args.own own_fits)
    (subst (λ (n : ℤ). LowestEnd a c.args.cell c.args.told low own n to to) (to_z-of_z w64 c.args.high high_fits)
    (last_low a c.args.cell c.args.told low own high from to not_less c.loop-end.invariant.between)))
