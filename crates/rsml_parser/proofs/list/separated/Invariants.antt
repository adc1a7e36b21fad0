use Rattle.std.proofs.Common.{◌≡◌, ◌-◌}
use Rattle.rsml_syntax.specs.grammar.Layout.{is_mark}
use Rattle.rsml_parser.specs.Parsers.{◌>>◌, mark, separated}
use Rattle.rsml_parser.proofs.Loops.{going}
use Rattle.rsml_parser.proofs.list.separated.Given as goal

abbrev pub invariant-loop-turn : goal.invariant-loop-turn
invariant-loop-turn g l = going (is_mark l.mark) (mark l.mark >> g.T.Item.parser) (l._turn-end - l._turn) l.found l.reader ≡ separated l.mark g.T.Item.parser l.fn.reader
