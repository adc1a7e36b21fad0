use Rattle.std.proofs.Common.{List, length, sym, ap, ◌∙◌, subst}
use Rattle.rsml_meaning.specs.Words.{Each}
use Rattle.ground_members.specs.declared.send_cases.GroundValue.{GroundValue}
use Rattle.ground_members.specs.declared.send_cases.GroundAnswer.{GroundAnswer}
use Rattle.micro_step.specs.Numbers.{ValueFits, values_of}
use Rattle.micro_step.proofs.LoopLemmas.{case_fits}
use Rattle.micro_step.proofs.values.write_case.Goals as goal

pub write-requires-clause-values : goal.write-requires-clause-values
write-requires-clause-values c =
    subst (λ (ys : List GroundValue). Each (ValueFits c.args.machine.now) ys) (sym c.as_slice.ensures)
    (case_fits c.args.machine.now c.args.case c.send_case-written.result.now c.in-Values.values c.law.ensures c.send_case-written.ensures (sym c.answer.ensures ∙ c.in-Values.is))

pub write-requires-clause-room : goal.write-requires-clause-room
write-requires-clause-room c =
    c.requires.room c.send_case-written.result.now c.send_case-written.ensures
    ∙ ap (λ (a : GroundAnswer). length (values_of a)) (sym c.answer.ensures ∙ c.in-Values.is)
    ∙ sym (ap (λ (ys : List GroundValue). length ys) c.as_slice.ensures)
