use Rattle.std.proofs.Common.{◌≡◌, ap, ◌∙◌, subst}
use Rattle.rsml_meaning.specs.EventLines.{Bytes, is_skipped, breaks, read_line}
use Rattle.event_lines.specs.Told.{rule_of}
use Rattle.simulator.specs.declared.upcoming.Upcoming.TheVariants as upcoming
use Rattle.simulator.specs.helpers.Turns.{Takes}
use Rattle.simulator.proofs.course.take_line.Goals as goal

pub take-requires-clause-unskipped : goal.take-requires-clause-unskipped
take-requires-clause-unskipped c = ap is_skipped c.line.ensures ∙ c.requires.unskipped

pub returns-in-Ok : goal.returns-in-Ok
returns-in-Ok c =
    let t = c.args.turns.now in
    subst (λ (text : Bytes). Takes (read_line t.spec text) c.in-Ok.interface t c.take.new.self) c.line.ensures c.in-Ok.ensures.ok

pub returns-in-Err : goal.returns-in-Err
returns-in-Err c =
    let t = c.args.turns.now in (
      c.in-Err.fault,
      ap (λ n. upcoming.LineFault n c.in-Err.fault) c.number.ensures,
      subst (λ (text : Bytes). read_line t.spec text ≡ breaks (rule_of c.in-Err.fault)) c.line.ensures c.in-Err.ensures.err,
      c.in-Err.ensures.idle,
    )
