use Rattle.std.proofs.Common.{◌≡◌}
use Rattle.std.proofs.lemmas.Result.{IfOk-weaker}
use Rattle.rsml_meaning.specs.Worlds.{IsWorld}
use Rattle.guard_encode.proofs.BoundLemmas.{grows_on, keeps_grows}
use Rattle.group_verdicts.proofs.Keeping.{on_new}
use Rattle.gap_tables.proofs.ColumnLists.{column_from}
use Rattle.gap_tables.proofs.column.column_of.Goals as goal

pub column_by-requires-clause-texts : goal.column_by-requires-clause-texts
column_by-requires-clause-texts c = on_new (λ s. c.args.texts.now ≡ s) c.args.encoder.now c.not.new.self c.in_ok-others.ensures.keeps c.requires.texts

pub column_by-requires-clause-world : goal.column_by-requires-clause-world
column_by-requires-clause-world c = on_new (λ s. IsWorld s c.args.world.now) c.args.encoder.now c.not.new.self c.in_ok-others.ensures.keeps c.requires.world

pub returns-clause-answer : goal.returns-clause-answer
returns-clause-answer c =
    IfOk-weaker c.column_by.result _ _
    (λ x h. column_from c.args.encoder.now c.not.new.self c.column_by.new.encoder c.in_ok-read.read c.args.world.now c.args.set c.in_ok-others.others x.0 x.1 c.in_ok-others.ensures.keeps
    c.in_ok-read.ensures.choices c.in_ok-read.ensures.cells c.in_ok-others.ensures.answer h)
    c.column_by.ensures.answer

pub returns-clause-keeps : goal.returns-clause-keeps
returns-clause-keeps c = grows_on c.args.encoder.now c.not.new.self c.column_by.new.encoder (keeps_grows c.args.encoder.now c.not.new.self c.in_ok-others.ensures.keeps) c.column_by.ensures.keeps

pub returns-in_err-others-clause-keeps : goal.returns-in_err-others-clause-keeps
returns-in_err-others-clause-keeps c = keeps_grows c.args.encoder.now c.not.new.self c.in_err-others.ensures.keeps
