use Rattle.std.proofs.Common.{ℤ, to_z, of_z, w64, SFits, rules, sym, subst, pos, ◌-ℤ◌, ◌<ℤ◌, ◌≤ℤ◌}
use Rattle.std.proofs.lemmas.Int.{to_z-of_z}
use Rattle.guard_encode.proofs.StepLemmas.{keeps_on}
use Rattle.group_verdicts.proofs.Keeping.{ref_on}
use Rattle.gap_tables.specs.Widening.{HighestEnd}
use Rattle.gap_tables.proofs.Ends.{higher_half, not_higher, last_high}
use Rattle.gap_tables.proofs.cells.highest.Goals as goal

pub loop-good-preserved-then-branch : goal.loop-good-preserved-then-branch
loop-good-preserved-then-branch c =
    let a = c.args.encoder.now in
    let b = c.loop-good.encoder in
    let d = c.lies.new.encoder in
    let before = c.loop-good.invariant in
    let keeps = c.in_ok-lies.ensures.keeps in
    let own = to_z w64 (of_z w64 c.args.own) in
    let high = to_z w64 (of_z w64 c.args.high) in
    let from = to_z w64 c.loop-good.good-bits in
    let middle = to_z w64 (of_z w64 c.upper_half-middle.result) in
    let to = to_z w64 c.loop-good.end-bits in
    let fits : SFits w64 c.upper_half-middle.result = search rules in
    let same = to_z-of_z w64 c.upper_half-middle.result fits in
    record {
      keeps = keeps_on a b d before.keeps keeps;
      told_ref = ref_on b d c.args.told keeps before.told_ref;
      between = higher_half a b c.args.cell c.args.told own high from middle to c.in_ok-lies.field-0 before.keeps
          (subst (λ (n : ℤ). from <ℤ n) (sym same) c.upper_half-middle.ensures.low) (subst (λ (n : ℤ). n ≤ℤ to) (sym same) c.upper_half-middle.ensures.high)
          c.in_ok-lies.ensures.answer c.if-branch.true before.between;
    }

pub loop-good-preserved : goal.loop-good-preserved
loop-good-preserved c =
    let a = c.args.encoder.now in
    let b = c.loop-good.encoder in
    let d = c.lies.new.encoder in
    let before = c.loop-good.invariant in
    let keeps = c.in_ok-lies.ensures.keeps in
    let own = to_z w64 (of_z w64 c.args.own) in
    let high = to_z w64 (of_z w64 c.args.high) in
    let from = to_z w64 c.loop-good.good-bits in
    let middle = to_z w64 (of_z w64 c.upper_half-middle.result) in
    let to = to_z w64 c.loop-good.end-bits in
    let fits : SFits w64 c.upper_half-middle.result = search rules in
    let same = to_z-of_z w64 c.upper_half-middle.result fits in
    let less_fits : SFits w64 (middle -ℤ pos 1) = search rules in
    record {
      keeps = keeps_on a b d before.keeps keeps;
      told_ref = ref_on b d c.args.told keeps before.told_ref;
      between = subst (λ (n : ℤ). HighestEnd a c.args.cell c.args.told own high from n) (sym (to_z-of_z w64 (middle -ℤ pos 1) less_fits))
          (not_higher a b c.args.cell c.args.told own high from middle to c.in_ok-lies.field-0 before.keeps
          (subst (λ (n : ℤ). from <ℤ n) (sym same) c.upper_half-middle.ensures.low) (subst (λ (n : ℤ). n ≤ℤ to) (sym same) c.upper_half-middle.ensures.high)
          c.in_ok-lies.ensures.answer c.if-branch.false before.between);
    }

pub returns-clause-answer : goal.returns-clause-answer
returns-clause-answer c =
    let a = c.args.encoder.now in
    let own = to_z w64 (of_z w64 c.args.own) in
    let high = to_z w64 (of_z w64 c.args.high) in
    let from = to_z w64 c.loop-good.good-bits in
    let to = to_z w64 c.loop-good.end-bits in
    let own_fits : SFits w64 c.args.own = search rules in
    let high_fits : SFits w64 c.args.high = search rules in
    let not_less : from <ℤ to → ⊥ = search rules in
    subst (λ (n : ℤ). HighestEnd a c.args.cell c.args.told c.args.own n from from) (to_z-of_z w64 c.args.high high_fits)
    (subst (λ (n : ℤ). HighestEnd a c.args.cell c.args.told n high from from) (to_z-of_z w64 c.args.own own_fits)
    (last_high a c.args.cell c.args.told own high from to not_less c.loop-good.invariant.between))
