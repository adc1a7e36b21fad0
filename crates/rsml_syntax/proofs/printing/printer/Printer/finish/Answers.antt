use Rattle.rsml_syntax.proofs.PrintLemmas.{finished}
use Rattle.rsml_syntax.proofs.printing.printer.Printer.finish.Goals as goal

pub returns : goal.returns
returns c = finished c.args.self c.push.new.self.items c.in_ok-push.ensures.items
