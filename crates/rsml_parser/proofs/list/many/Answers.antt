use Rattle.rsml_parser.specs.Parsers.{Gives}
use Rattle.std.proofs.Common.{subst}
use Rattle.rsml_parser.proofs.Loops.{none_found}
use Rattle.rsml_parser.proofs.list.many.Goals as goal

pub returns : goal.returns
returns g c = subst (λ o. Gives o c.and_more.result c.and_more.new.reader) (none_found g.T.Listed.begins g.T.Item.parser c.new.result c.args.reader.now c.new.ensures) c.and_more.ensures
