use Rattle.std.proofs.Common.{◌≡◌}
use Rattle.guard_encode.proofs.BoundLemmas.{none_stay}
use Rattle.group_verdicts.proofs.AtLemmas.{there_on}
use Rattle.group_verdicts.proofs.Keeping.{on_new}
use Rattle.gap_tables.proofs.GroupLemmas.{NoneAt, double_at, missing_at, none_at, sound_at}
use Rattle.gap_tables.proofs.PartAnswers.{is_not}
use Rattle.gap_tables.proofs.group.gaps_of.Goals as goal

pub columns_of_two-requires-clause-texts : goal.columns_of_two-requires-clause-texts
columns_of_two-requires-clause-texts c = on_new (λ s. c.args.texts.now ≡ s) c.args.encoder.now c.columns_of_none.new.encoder c.in_ok-missing.ensures.keeps c.requires.texts

pub columns_of_two-requires-clause-group : goal.columns_of_two-requires-clause-group
columns_of_two-requires-clause-group c = there_on c.args.encoder.now c.columns_of_none.new.encoder c.args.group c.in_ok-missing.ensures.keeps c.requires.group

pub returns-then-not-is_empty-clause-found : goal.returns-then-not-is_empty-clause-found
returns-then-not-is_empty-clause-found c =
    missing_at c.columns_of_none.new.encoder.machine.base.spec c.args.group c.args.most c.in_ok-missing.missing (is_not c.is_empty.result _ c.is_empty.ensures c.if-not-is_empty.true) c.in_ok-missing.ensures.found

pub returns-then-not-is_empty-2-clause-found : goal.returns-then-not-is_empty-2-clause-found
returns-then-not-is_empty-2-clause-found c =
    let b = c.columns_of_none.new.encoder in
    let d = c.columns_of_two.new.encoder in
    let group = c.args.group in
    let none = none_at b.machine.base.spec group c.args.most c.in_ok-missing.missing c.requires.some (c.is_empty.ensures.0 c.if-not-is_empty.false) c.in_ok-missing.ensures.found in
    double_at d.machine.base.spec group c.args.most c.in_ok-double.double (on_new (NoneAt group) b d c.in_ok-double.ensures.keeps none)
    (is_not c.is_empty-2.result _ c.is_empty-2.ensures c.if-not-is_empty-2.true) c.in_ok-double.ensures.found

pub returns-clause-found : goal.returns-clause-found
returns-clause-found c =
    let b = c.columns_of_none.new.encoder in
    let d = c.columns_of_two.new.encoder in
    let group = c.args.group in
    let none = none_at b.machine.base.spec group c.args.most c.in_ok-missing.missing c.requires.some (c.is_empty.ensures.0 c.if-not-is_empty.false) c.in_ok-missing.ensures.found in
    sound_at d.machine.base.spec group c.args.most c.in_ok-double.double c.requires.some (on_new (NoneAt group) b d c.in_ok-double.ensures.keeps none)
    (c.is_empty-2.ensures.0 c.if-not-is_empty-2.false) c.in_ok-double.ensures.found

pub columns_of_two-requires-clause-bounds : goal.columns_of_two-requires-clause-bounds
columns_of_two-requires-clause-bounds c = none_stay c.args.encoder.now c.columns_of_none.new.encoder c.in_ok-missing.ensures.keeps c.requires.bounds
