use Rattle.std.proofs.Common.{sym, ◌∙◌}
use Rattle.event_lines.proofs.WordLemmas.{has_none, has_some}
use Rattle.event_lines.proofs.words.has_word.Goals as goal

pub returns-clause-none : goal.returns-clause-none
returns-clause-none c = λ none. has_none c.args.text.now c.start.result c.start.ensures (sym c.is_some.ensures ∙ none)

pub returns-clause-some : goal.returns-clause-some
returns-clause-some c = λ some. has_some c.args.text.now c.start.result c.start.ensures (sym c.is_some.ensures ∙ some)
