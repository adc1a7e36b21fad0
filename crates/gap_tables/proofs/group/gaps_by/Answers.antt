use Rattle.std.proofs.Common.{◌≡◌, ◌<◌, ◌≤◌, length, sym, ap, arith, rules}
use Rattle.rsml_syntax.specs.declared.syntax.Spec.{Spec}
use Rattle.rsml_meaning.specs.Groups.{groups}
use Rattle.elaborate.specs.Machine.{GroundMachine}
use Rattle.guard_encode.proofs.BoundLemmas.{none_stay}
use Rattle.guard_encode.proofs.StepLemmas.{keeps_on}
use Rattle.group_verdicts.proofs.Keeping.{on_new, on_old}
use Rattle.group_verdicts.proofs.ListLemmas.{found_all}
use Rattle.world_columns.specs.GapsOf.{AreGroupGaps}
use Rattle.gap_tables.specs.Widening.{ToldAt}
use Rattle.gap_tables.proofs.GroupLemmas.{told_more}
use Rattle.gap_tables.proofs.group.gaps_by.Goals as goal

pub loop-group-init : goal.loop-group-init
loop-group-init c = record {
  keeps = search rules;
  counts = c.in_ok-counts.ensures c.args.encoder.now (sym c.machine-machine.ensures);
  so_far = search rules;
}

pub gaps_of-requires-clause-group : goal.gaps_of-requires-clause-group
gaps_of-requires-clause-group c =
    let m = c.args.encoder.now.machine in
    let many = ap (λ (t : Spec). length (groups t)) c.groups.ensures in
    let same = ap (λ (n : GroundMachine). length (groups n.base.spec)) c.machine-machine.ensures in
    let less : c.loop-group.group < length (groups m.base.spec) = omega (arith, c.loop-group-test.true, c.count-group-end.ensures, many, same) in
    on_new (λ s. c.loop-group.group < length (groups s)) c.args.encoder.now c.loop-group.encoder c.loop-group.invariant.keeps less

pub gaps_of-requires-clause-texts : goal.gaps_of-requires-clause-texts
gaps_of-requires-clause-texts c = on_new (λ s. c.args.texts.now ≡ s) c.args.encoder.now c.loop-group.encoder c.loop-group.invariant.keeps c.requires.texts

pub loop-group-preserved : goal.loop-group-preserved
loop-group-preserved c =
    let first = c.args.encoder.now in
    let s = first.machine.base.spec in
    let many = ap (λ (t : Spec). length (groups t)) c.groups.ensures in
    let same = ap (λ (n : GroundMachine). length (groups n.base.spec)) c.machine-machine.ensures in
    let less : c.loop-group.group < length (groups s) = omega (arith, c.loop-group-test.true, c.count-group-end.ensures, many, same) in
    let keeps = keeps_on first c.loop-group.encoder c.gaps_of.new.encoder c.loop-group.invariant.keeps c.in_ok-gaps_of.ensures.keeps in
    record {
      keeps = keeps;
      counts = c.in_ok-gaps_of.ensures.counts;
      so_far = told_more (AreGroupGaps s c.args.most) (groups s) c.loop-group.gaps.items c.push.new.self.items c.loop-group.group c.in_ok-gaps_of.field-0 less c.loop-group.invariant.so_far c.in_ok-push.ensures.items
          (on_old (ToldAt c.args.most c.in_ok-gaps_of.field-0 c.loop-group.group) first c.gaps_of.new.encoder keeps c.in_ok-gaps_of.ensures.found);
    }

pub returns : goal.returns
returns c =
    let s = c.args.encoder.now.machine.base.spec in
    let many = ap (λ (t : Spec). length (groups t)) c.groups.ensures in
    let same = ap (λ (n : GroundMachine). length (groups n.base.spec)) c.machine-machine.ensures in
    let past : length (groups s) ≤ c.loop-group.group = omega (arith, c.loop-group-test.false, c.count-group-end.ensures, many, same) in
    found_all (AreGroupGaps s c.args.most) (groups s) _ c.loop-group.group past c.loop-group.invariant.so_far

pub gaps_of-requires-clause-bounds : goal.gaps_of-requires-clause-bounds
gaps_of-requires-clause-bounds c = none_stay c.args.encoder.now c.loop-group.encoder c.loop-group.invariant.keeps c.requires.bounds
