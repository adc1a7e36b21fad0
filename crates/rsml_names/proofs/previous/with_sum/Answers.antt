use Rattle.std.proofs.Common.{◌++◌, List, length, flat_map, sym, ap, ◌∙◌, arith}
use Rattle.std.proofs.lemmas.List.{take_all}
use Rattle.rsml_syntax.specs.declared.syntax.Term.{Term}
use Rattle.rsml_names.specs.PreviousNames.{previous_name}
use Rattle.rsml_names.proofs.PreviousGathering.{gathered_one}
use Rattle.rsml_names.proofs.previous.with_sum.Goals as goal

pub returns : goal.returns
returns c =
    c.loop-term.invariant
    ∙ ap (λ (ts : List Term). c.args.names ++ flat_map (λ (t : Term). previous_name t.operand) ts)
    (take_all c.loop-term.term-index c.args.sum.now.terms (omega (arith, ap length c.as_slice-term-items.ensures)))
    ∙ sym (gathered_one c.args.names c.args.sum.now)
