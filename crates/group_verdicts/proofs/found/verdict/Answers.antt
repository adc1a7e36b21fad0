use Rattle.std.proofs.lemmas.Option.{MatchOption-at_none, MatchOption-at_some}
use Rattle.group_verdicts.specs.Least.{IsLeastWorld}
use Rattle.guard_encode.proofs.StepLemmas.{keeps_on}
use Rattle.world_columns.specs.Failing.{enables_none, enables_two}
use Rattle.group_verdicts.proofs.AtLemmas.{there_on}
use Rattle.group_verdicts.proofs.CountsLemmas.{counts_on}
use Rattle.group_verdicts.proofs.FailLemmas.{Nowhere}
use Rattle.group_verdicts.proofs.FoundLemmas.{at_on, double, missing, neither, nowhere, ref_at}
use Rattle.group_verdicts.proofs.found.verdict.Goals as goal

pub least_world-requires : goal.least_world-requires
least_world-requires c =
    let e = c.none_enabled.new.encoder in
    ref_at e c.args.group c.in_ok-none.none enables_none (there_on c.args.encoder.now e c.args.group c.in_ok-none.ensures.keeps c.requires.group) c.in_ok-none.ensures.answer

pub returns-in-Some-clause-found : goal.returns-in-Some-clause-found
returns-in-Some-clause-found c =
    let s = c.least_world.new.encoder.machine.base.spec in
    missing c.none_enabled.new.encoder c.least_world.new.encoder c.args.group c.in_ok-none.none c.in-Some.world c.in_ok-world.ensures.keeps c.in_ok-none.ensures.answer
    (λ truth told. MatchOption-at_some (Nowhere s truth) (IsLeastWorld s truth) c.in-Some.world c.in-Some.is (c.in_ok-world.ensures.answer truth told))

pub two_enabled-requires-clause-counts : goal.two_enabled-requires-clause-counts
two_enabled-requires-clause-counts c =
    counts_on c.none_enabled.new.encoder c.least_world.new.encoder c.none_enabled.new.counts c.in_ok-world.ensures.keeps c.in_ok-none.ensures.counts

pub two_enabled-requires-clause-group : goal.two_enabled-requires-clause-group
two_enabled-requires-clause-group c =
    let first = c.args.encoder.now in
    there_on first c.least_world.new.encoder c.args.group (keeps_on first c.none_enabled.new.encoder c.least_world.new.encoder c.in_ok-none.ensures.keeps c.in_ok-world.ensures.keeps) c.requires.group

pub least_world-requires-2 : goal.least_world-requires-2
least_world-requires-2 c =
    let first = c.args.encoder.now in
    let e = c.two_enabled.new.encoder in
    ref_at e c.args.group c.in_ok-two.two enables_two
    (there_on first e c.args.group (keeps_on first c.least_world.new.encoder e
    (keeps_on first c.none_enabled.new.encoder c.least_world.new.encoder c.in_ok-none.ensures.keeps c.in_ok-world.ensures.keeps) c.in_ok-two.ensures.keeps) c.requires.group)
    c.in_ok-two.ensures.answer

pub returns-in-Some-2-clause-found : goal.returns-in-Some-2-clause-found
returns-in-Some-2-clause-found c =
    let group = c.args.group in
    let seen = c.least_world.new.encoder in
    let e = c.two_enabled.new.encoder in
    let new = c.least_world-2.new.encoder in
    let s = new.machine.base.spec in
    let none = nowhere c.none_enabled.new.encoder seen group c.in_ok-none.none enables_none c.in_ok-world.ensures.keeps c.in_ok-none.ensures.answer
    (λ truth told. MatchOption-at_none (Nowhere seen.machine.base.spec truth) (IsLeastWorld seen.machine.base.spec truth) c.in_default.is (c.in_ok-world.ensures.answer truth told)) in
    double e new group c.in_ok-two.two c.in-Some-2.world c.in_ok-world-2.ensures.keeps (at_on seen e group (λ t g. Nowhere t (enables_none t g)) c.in_ok-two.ensures.keeps none) c.in_ok-two.ensures.answer
    (λ truth told. MatchOption-at_some (Nowhere s truth) (IsLeastWorld s truth) c.in-Some-2.world c.in-Some-2.is (c.in_ok-world-2.ensures.answer truth told))

pub returns-clause-found : goal.returns-clause-found
returns-clause-found c =
    let group = c.args.group in
    let seen = c.least_world.new.encoder in
    let e = c.two_enabled.new.encoder in
    let new = c.least_world-2.new.encoder in
    let s = new.machine.base.spec in
    let none = nowhere c.none_enabled.new.encoder seen group c.in_ok-none.none enables_none c.in_ok-world.ensures.keeps c.in_ok-none.ensures.answer
    (λ truth told. MatchOption-at_none (Nowhere seen.machine.base.spec truth) (IsLeastWorld seen.machine.base.spec truth) c.in_default.is (c.in_ok-world.ensures.answer truth told)) in
    neither e new group c.in_ok-two.two c.in_ok-world-2.ensures.keeps (at_on seen e group (λ t g. Nowhere t (enables_none t g)) c.in_ok-two.ensures.keeps none) c.in_ok-two.ensures.answer
    (λ truth told. MatchOption-at_none (Nowhere s truth) (IsLeastWorld s truth) c.in_default-2.is (c.in_ok-world-2.ensures.answer truth told))

-- What is kept of counts.

pub returns-in_err-world-clause-counts : goal.returns-in_err-world-clause-counts
returns-in_err-world-clause-counts c =
    counts_on c.none_enabled.new.encoder c.least_world.new.encoder c.none_enabled.new.counts c.least_world.ensures.keeps c.none_enabled.ensures.counts

pub returns-in-Some-clause-counts : goal.returns-in-Some-clause-counts
returns-in-Some-clause-counts c =
    counts_on c.none_enabled.new.encoder c.least_world.new.encoder c.none_enabled.new.counts c.least_world.ensures.keeps c.none_enabled.ensures.counts

pub returns-in_err-world-2-clause-counts : goal.returns-in_err-world-2-clause-counts
returns-in_err-world-2-clause-counts c =
    counts_on c.two_enabled.new.encoder c.least_world-2.new.encoder c.two_enabled.new.counts c.least_world-2.ensures.keeps c.two_enabled.ensures.counts

pub returns-in-Some-2-clause-counts : goal.returns-in-Some-2-clause-counts
returns-in-Some-2-clause-counts c =
    counts_on c.two_enabled.new.encoder c.least_world-2.new.encoder c.two_enabled.new.counts c.least_world-2.ensures.keeps c.two_enabled.ensures.counts

pub returns-clause-counts : goal.returns-clause-counts
returns-clause-counts c =
    counts_on c.two_enabled.new.encoder c.least_world-2.new.encoder c.two_enabled.new.counts c.least_world-2.ensures.keeps c.two_enabled.ensures.counts
