use Rattle.std.proofs.Common.{◌+◌, ◌≡◌, ◌∷◌, List, Err, take, sym, subst}
use Rattle.std.specs.Prelude.{MatchResult}
use Rattle.rsml_meaning.specs.EventLines.{Bytes, words}
use Rattle.event_lines.specs.helpers.Values.{TypedField, kept, field_numbers}
use Rattle.event_lines.specs.helpers.Forms.{field_of}
use Rattle.event_lines.proofs.FieldLemmas.{no_word_left}
use Rattle.event_lines.proofs.reading.read_field.Goals as goal

pub returns-in-Some : goal.returns-in-Some
returns-in-Some c =
    subst (λ (ws : List Bytes). MatchResult c.read_word.result
    (λ left. (fs : List TypedField) → field_numbers (field_of c.args.types.now c.args.field ∷ fs) ws (kept c.args.fault.now (take c.args.place c.args.values.now))
    ≡ field_numbers fs (words left.now) (kept c.read_word.new.fault (take (c.args.place + 1) c.read_word.new.values)))
    (λ e. (fs : List TypedField) → field_numbers (field_of c.args.types.now c.args.field ∷ fs) ws (kept c.args.fault.now (take c.args.place c.args.values.now)) ≡ Err e))
    (sym c.in-Some.ensures) c.read_word.ensures

pub returns-in-None : goal.returns-in-None
returns-in-None c = λ fs.
    no_word_left (field_of c.args.types.now c.args.field) fs (words c.args.rest.now) (kept c.args.fault.now (take c.args.place c.args.values.now)) c.in-None.ensures
