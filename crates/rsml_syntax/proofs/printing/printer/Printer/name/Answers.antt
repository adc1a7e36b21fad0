use Rattle.std.proofs.Common.{sym}
use Rattle.rsml_syntax.specs.declared.token.Token.TheVariants as token
use Rattle.rsml_syntax.proofs.PrintLemmas.{wrote_on_ok}
use Rattle.rsml_syntax.proofs.printing.printer.Printer.name.Goals as goal

pub returns : goal.returns
returns c =
    wrote_on_ok c.write.result c.args.self.now c.write.new.self (token.Name c.args.name.now) c.bytes.result.now (sym c.bytes.ensures)
    c.write.ensures.text c.write.ensures.depth c.write.ensures.last
