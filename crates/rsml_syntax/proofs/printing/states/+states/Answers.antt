use Rattle.rsml_syntax.proofs.BodyLemmas.{one_written}
use Rattle.rsml_syntax.proofs.printing.states.+states.Goals as goal

pub print_body-returns-in_ok-print_states-in-One : goal.print_body-returns-in_ok-print_states-in-One
print_body-returns-in_ok-print_states-in-One t c =
    one_written c.print_transitions.result c.args.printer.now c.word.new.self c.mark-in-One.new.self c.print_default.new.printer c.print_states.new.printer c.print_transitions.new.printer
    c.args.body.now c.in-One.first c.in-One.children c.as_slice.result.now c.in-One.buses c.as_slice-in-One.result.now c.in-One.transitions c.as_slice-in-One-2.result.now
    c.in-One.is c.as_slice.ensures c.as_slice-in-One.ensures c.as_slice-in-One-2.ensures
    c.in_ok-word-in-One.ensures c.in_ok-mark-in-One.ensures c.in_ok-print_default-in-One.ensures c.in_ok-print_states-in-One.ensures c.print_transitions.ensures
