use Rattle.std.proofs.Common.{◌+◌, take}
use Rattle.rsml_meaning.specs.EventLines.{words}
use Rattle.event_lines.specs.helpers.Values.{kept}
use Rattle.event_lines.specs.helpers.Forms.{field_of}
use Rattle.event_lines.proofs.FieldLemmas.{no_value, value_left}
use Rattle.event_lines.proofs.reading.read_word.Goals as goal

pub returns-in-Some : goal.returns-in-Some
returns-in-Some c = λ fs.
    value_left (field_of c.args.types.now c.args.field) fs (words c.args.more.now) c.args.word.now c.in-Some.text.now
    (kept c.args.fault.now (take c.args.place c.args.values.now)) (kept c.keep.new.fault (take (c.args.place + 1) c.keep.new.values)) c.read_value.result
    c.in-Some.ensures c.read_value.ensures c.keep.ensures

pub returns-in-None : goal.returns-in-None
returns-in-None c = λ fs.
    no_value (field_of c.args.types.now c.args.field) fs (words c.args.more.now) c.args.word.now (kept c.args.fault.now (take c.args.place c.args.values.now)) c.in-None.ensures
