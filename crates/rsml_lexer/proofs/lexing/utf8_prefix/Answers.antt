use Rattle.std.proofs.Common.{◌∙◌}
use Rattle.rsml_lexer.proofs.LexLemmas.{all_valid}
use Rattle.rsml_lexer.proofs.lexing.utf8_prefix.Goals as goal

pub returns-in-Ok : goal.returns-in-Ok
returns-in-Ok c = c.in-Ok.ensures.cases.0 ∙ all_valid c.args.bytes.now c.in-Ok.ensures.cases.1
