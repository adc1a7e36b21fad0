use Rattle.std.proofs.Common.{find, ap, ◌∙◌}
use Rattle.std.specs.Str.{bytes_eq}
use Rattle.rsml_syntax.specs.text.Words.{spelling}
use Rattle.rsml_lexer.proofs.ReadingLemmas.{word_by_first, no_first_word}
use Rattle.rsml_lexer.proofs.keywords.word_of.Goals as goal

pub returns-in-Some : goal.returns-in-Some
returns-in-Some c =
    c.find_word.ensures ∙ ap (find (λ w. bytes_eq c.args.name.now (spelling w))) c.words_from.ensures ∙ word_by_first c.args.name.now c.in-Some.first.now c.in-Some.ensures.value

pub returns-in-None : goal.returns-in-None
returns-in-None c = no_first_word c.args.name.now c.in-None.ensures.value
