use Rattle.std.proofs.Common.{◌≡◌}
use Rattle.std.proofs.lemmas.Result.{IfOk-weaker}
use Rattle.guard_encode.proofs.BoundLemmas.{none_stay}
use Rattle.group_verdicts.proofs.AtLemmas.{there_on}
use Rattle.group_verdicts.proofs.CountsLemmas.{counts_on}
use Rattle.group_verdicts.proofs.FoundLemmas.{ref_at}
use Rattle.group_verdicts.proofs.Keeping.{on_new}
use Rattle.world_columns.specs.Failing.{enables_none}
use Rattle.gap_tables.proofs.GroupLemmas.{columns_at}
use Rattle.gap_tables.proofs.group.columns_of_none.Goals as goal

pub columns-requires-clause-texts : goal.columns-requires-clause-texts
columns-requires-clause-texts c = on_new (λ s. c.args.texts.now ≡ s) c.args.encoder.now c.none_enabled.new.encoder c.in_ok-none.ensures.keeps c.requires.texts

pub columns-requires-clause-f_ref : goal.columns-requires-clause-f_ref
columns-requires-clause-f_ref c =
    let e = c.none_enabled.new.encoder in
    ref_at e c.args.group c.in_ok-none.none enables_none (there_on c.args.encoder.now e c.args.group c.in_ok-none.ensures.keeps c.requires.group) c.in_ok-none.ensures.answer

pub returns-clause-counts : goal.returns-clause-counts
returns-clause-counts c = counts_on c.none_enabled.new.encoder c.columns.new.encoder c.none_enabled.new.counts c.columns.ensures.keeps c.in_ok-none.ensures.counts

pub returns-clause-found : goal.returns-clause-found
returns-clause-found c =
    IfOk-weaker c.columns.result _ _
    (λ x. columns_at c.none_enabled.new.encoder c.columns.new.encoder c.args.group c.in_ok-none.none c.args.most enables_none x c.columns.ensures.keeps c.in_ok-none.ensures.answer)
    c.columns.ensures.answer

pub columns-requires-clause-bounds : goal.columns-requires-clause-bounds
columns-requires-clause-bounds c = none_stay c.args.encoder.now c.none_enabled.new.encoder c.in_ok-none.ensures.keeps c.requires.bounds
