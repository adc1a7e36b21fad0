use Rattle.std.proofs.Common.{◌+◌, [], Ok, map, take, arith}
use Rattle.rsml_meaning.specs.EventLines.{words}
use Rattle.event_lines.specs.helpers.Values.{kept, field_numbers}
use Rattle.event_lines.specs.helpers.Forms.{field_of}
use Rattle.event_lines.proofs.FieldLemmas.{turn, fails}
use Rattle.event_lines.proofs.reading.read_fields.Goals as goal

pub loop-place-preserved : goal.loop-place-preserved
loop-place-preserved c =
    turn c.args.types.now c.args.fields.now c.loop-place.place c.nth-field.result (omega arith) c.nth-field.ensures
    (words c.loop-place.rest.now) (words c.in-Ok.more.now)
    (kept c.loop-place.fault (take c.loop-place.place c.loop-place.values)) (kept c.read_field.new.fault (take (c.loop-place.place + 1) c.read_field.new.values))
    (field_numbers (map (field_of c.args.types.now) c.args.fields.now) (words c.args.text.now) (Ok []))
    c.in-Ok.ensures c.loop-place.invariant

pub returns-in-Err : goal.returns-in-Err
returns-in-Err c =
    fails c.args.types.now c.args.fields.now c.loop-place.place c.nth-field.result (omega arith) c.nth-field.ensures
    (words c.loop-place.rest.now) (kept c.loop-place.fault (take c.loop-place.place c.loop-place.values))
    (field_numbers (map (field_of c.args.types.now) c.args.fields.now) (words c.args.text.now) (Ok []))
    c.in-Err.error c.in-Err.ensures c.loop-place.invariant
