use Rattle.std.proofs.Common.{◌∙◌, ap, subst, [], ◌∷◌, ◌++◌}
use Rattle.rsml_parser.specs.Parsers.{Gives, first, and_more}
use Rattle.rsml_parser.proofs.list.many_after.Goals as goal

pub returns : goal.returns
returns g c =
    subst (λ found. Gives (and_more (first g.T.Listed.begins) g.T.Item.parser found c.args.reader.now) c.and_more.result c.and_more.new.reader)
    (c.in_ok-push.ensures.ok ∙ ap (λ l. l ++ c.args.first ∷ []) c.new-found.ensures) c.and_more.ensures
