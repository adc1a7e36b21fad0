use Rattle.std.proofs.Common.{◌≡◌, ◌-◌}
use Rattle.rsml_parser.proofs.Loops.{going}
use Rattle.rsml_parser.specs.Parsers.{first, and_more}
use Rattle.rsml_parser.proofs.list.and_more.Given as goal

abbrev pub invariant-loop-turn : goal.invariant-loop-turn
invariant-loop-turn g l = going g.T.Listed.begins g.T.Item.parser (l._turn-end - l._turn) l.found l.reader ≡ and_more (first g.T.Listed.begins) g.T.Item.parser l.fn.found l.fn.reader
