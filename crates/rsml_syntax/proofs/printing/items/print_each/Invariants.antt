use Rattle.std.proofs.Common.{◌≡◌, drop}
use Rattle.rsml_syntax.specs.grammar.Grammar.{each}
use Rattle.rsml_syntax.specs.helpers.Printing.{with_tokens}
use Rattle.rsml_syntax.specs.text.Tokens.{Tokens}
use Rattle.rsml_syntax.proofs.printing.items.print_each.Given as goal

abbrev pub invariant-loop-item : goal.invariant-loop-item
invariant-loop-item g l = (rest : Tokens) →
    with_tokens l.fn.printer (each g.T.Print.tokens l.items rest) ≡ with_tokens l.printer (each g.T.Print.tokens (drop l.item-index l.items) rest)
