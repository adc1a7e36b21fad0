use Rattle.std.proofs.Common.{length, ap, ◌∙◌, arith}
use Rattle.rsml_syntax.specs.declared.syntax.Spec.{Spec}
use Rattle.rsml_meaning.specs.EventLines.{words}
use Rattle.event_lines.specs.helpers.Declared.{types_of}
use Rattle.event_lines.proofs.LineLemmas.{has_room, result_told, result_breaks}
use Rattle.event_lines.proofs.line_forms.LineForms.read_instance.Goals as goal

pub read_fields-requires-clause-room : goal.read_fields-requires-clause-room
read_fields-requires-clause-room c =
    let room = has_room c.args.self.now c.args.word.now (words c.args.rest.now) c.split_word.result.0.now c.split_word.result.1.now c.split_word.ensures.name c.split_word.ensures.index
    c.in-Some.form.now c.in-Some.ensures c.in-Some-index_told.index (length c.args.values.now) c.in-Some-index_told.ensures.is c.requires in
    omega (arith, room, ap length c.as_slice-2.ensures.value)

pub returns-in-Ok : goal.returns-in-Ok
returns-in-Ok c =
    let room = has_room c.args.self.now c.args.word.now (words c.args.rest.now) c.split_word.result.0.now c.split_word.result.1.now c.split_word.ensures.name c.split_word.ensures.index
    c.in-Some.form.now c.in-Some.ensures c.in-Some-index_told.index (length c.args.values.now) c.in-Some-index_told.ensures.is c.requires in
    result_told c.args.self.now c.args.word.now (words c.args.rest.now) c.split_word.result.0.now c.split_word.result.1.now c.split_word.ensures.name c.split_word.ensures.index
    c.in-Some.form.now c.in-Some.ensures c.as_slice.result.now c.as_slice-2.result.now
    (c.as_slice.ensures.value ∙ c.self.invariant.1.types_are ∙ ap (λ (s : Spec). types_of s.decls) c.self.view_is) c.as_slice-2.ensures.value
    c.in-Some-index_told.index c.in-Some-index_told.ensures.is c.read_fields.new.values (omega (arith, room, ap length c.as_slice-2.ensures.value)) c.in-Ok.ensures _ c.number.ensures

pub returns-in-Err : goal.returns-in-Err
returns-in-Err c =
    result_breaks c.args.self.now c.args.word.now (words c.args.rest.now) c.split_word.result.0.now c.split_word.result.1.now c.split_word.ensures.name c.split_word.ensures.index
    c.in-Some.form.now c.in-Some.ensures c.as_slice.result.now c.as_slice-2.result.now
    (c.as_slice.ensures.value ∙ c.self.invariant.1.types_are ∙ ap (λ (s : Spec). types_of s.decls) c.self.view_is) c.as_slice-2.ensures.value
    c.in-Some-index_told.index c.in-Some-index_told.ensures.is c.in-Err.fault c.in-Err.ensures
