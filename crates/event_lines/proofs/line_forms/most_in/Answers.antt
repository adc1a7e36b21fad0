use Rattle.std.proofs.Common.{ap, arith}
use Rattle.event_lines.specs.helpers.Forms.{fields_in}
use Rattle.event_lines.proofs.MostLemmas.{most_more}
use Rattle.event_lines.proofs.line_forms.most_in.Goals as goal

pub loop-form-preserved : goal.loop-form-preserved
loop-form-preserved c =
    most_more c.args.forms.now c.loop-form.form-index c.form-item.result c.loop-form.most c.greater-most.result c.loop-form-test.true c.form-item.is c.greater-most.ensures.first
    (omega (arith, c.fields_in.ensures, ap fields_in c.as_ref.ensures.value, c.greater-most.ensures.second)) c.loop-form.invariant
