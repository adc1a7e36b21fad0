use Rattle.std.proofs.Common.{◌≡◌, true, false, sym, ◌∙◌}
use Rattle.rsml_meaning.specs.EventLines.{is_skipped}
use Rattle.simulator.proofs.TurnLemmas.{is_there, are_numbers}
use Rattle.run_counts.proofs.LineLemmas.{skipped_counted, line_counted, not_broken}
use Rattle.run_counts.proofs.lines.count_line.Goals as goal

pub returns-then-skipped-clause-counted : goal.returns-then-skipped-clause-counted
returns-then-skipped-clause-counted c =
    let skipped : is_skipped c.args.line.now ≡ true = sym c.skipped.ensures ∙ c.if-skipped.true in
    skipped_counted c.args.machine.now.base.spec c.args.line.now c.args.progress.now.world c.args.progress.now.counts skipped

pub count_told-requires-clause-there : goal.count_told-requires-clause-there
count_told-requires-clause-there c =
    is_there c.args.machine.now.base.spec c.args.forms.now c.args.line.now c.in-Ok.received c.read_line.new.values c.requires.forms c.in-Ok.ensures.ok

pub count_told-requires-clause-holds : goal.count_told-requires-clause-holds
count_told-requires-clause-holds c =
    are_numbers c.args.machine.now.base.spec c.args.forms.now c.args.line.now c.in-Ok.received c.read_line.new.values c.requires.forms c.in-Ok.ensures.ok

pub returns-in-Ok-clause-counted : goal.returns-in-Ok-clause-counted
returns-in-Ok-clause-counted c =
    let not_skipped : is_skipped c.args.line.now ≡ false = sym c.skipped.ensures ∙ c.if-skipped.false in
    line_counted c.args.machine.now.base.spec c.args.forms.now c.args.line.now c.in-Ok.received c.read_line.new.values c.requires.forms c.in-Ok.ensures.ok
    c.args.progress.now.world c.count_told.new.progress.world c.args.progress.now.counts c.count_told.new.progress.counts not_skipped c.count_told.ensures.counted

pub returns-in-Err-clause-counted : goal.returns-in-Err-clause-counted
returns-in-Err-clause-counted c =
    let not_skipped : is_skipped c.args.line.now ≡ false = sym c.skipped.ensures ∙ c.if-skipped.false in
    absurd (not_broken c.args.machine.now.base.spec c.args.forms.now c.args.line.now _ c.requires.forms not_skipped c.in-Err.ensures.err c.requires.sound)
