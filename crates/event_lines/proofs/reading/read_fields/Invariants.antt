use Rattle.std.proofs.Common.{◌≡◌, [], map, drop, take, Ok}
use Rattle.rsml_meaning.specs.EventLines.{words}
use Rattle.event_lines.specs.helpers.Values.{kept, field_numbers}
use Rattle.event_lines.specs.helpers.Forms.{field_of}
use Rattle.event_lines.proofs.reading.read_fields.Given as goal

abbrev pub invariant-loop-place : goal.invariant-loop-place
invariant-loop-place l =
    field_numbers (drop l.place (map (field_of l.types) l.fields)) (words l.rest) (kept l.fault (take l.place l.values))
    ≡ field_numbers (map (field_of l.types) l.fields) (words l.text) (Ok [])
