use Rattle.rsml_syntax.proofs.PrintLemmas.{printed_layout}
use Rattle.rsml_syntax.proofs.printing.layout_of.Goals as goal

pub returns : goal.returns
returns c =
    printed_layout c.finish.result (λ v. v.items) c.args.spec.now c.new-printer.result c.print_tokens.new.printer
    c.new-printer.ensures.text c.new-printer.ensures.depth c.new-printer.ensures.last c.in_ok-print_tokens.ensures c.finish.ensures
