use Rattle.std.proofs.Common.{◌≡◌, drop}
use Rattle.rsml_syntax.specs.grammar.Grammar.{each, state}
use Rattle.rsml_syntax.specs.helpers.Printing.{with_tokens}
use Rattle.rsml_syntax.specs.text.Tokens.{Tokens}
use Rattle.rsml_syntax.proofs.printing.states.+states.Given as goal

abbrev pub invariant-print_states-loop-state : goal.invariant-print_states-loop-state
invariant-print_states-loop-state l = (rest : Tokens) →
    with_tokens l.fn.printer (each state l.states rest) ≡ with_tokens l.printer (each state (drop l.state-index l.states) rest)
