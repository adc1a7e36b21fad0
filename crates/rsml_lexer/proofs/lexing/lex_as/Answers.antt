use Rattle.rsml_lexer.proofs.LexLemmas.{broken_lexed, whole_lexed, error_lexed}
use Rattle.rsml_lexer.proofs.lexing.lex_as.Goals as goal

pub returns-then-prefix-text : goal.returns-then-prefix-text
returns-then-prefix-text c =
    broken_lexed c.args.edition c.args.text.now c.utf8_prefix-prefix.result.now c.in-Ok.found.items c.utf8_prefix-prefix.utf8 c.utf8_prefix-prefix.ensures c.in-Ok.ensures c.if-prefix-text.true

pub returns-else-prefix-text : goal.returns-else-prefix-text
returns-else-prefix-text c =
    whole_lexed c.args.edition c.args.text.now c.utf8_prefix-prefix.result.now c.in-Ok.found c.utf8_prefix-prefix.utf8 c.utf8_prefix-prefix.ensures c.in-Ok.ensures c.if-prefix-text.false

pub returns-in-Err : goal.returns-in-Err
returns-in-Err c = error_lexed c.args.edition c.args.text.now c.utf8_prefix-prefix.result.now c.in-Err.error c.utf8_prefix-prefix.utf8 c.utf8_prefix-prefix.ensures c.in-Err.ensures
