use Rattle.std.proofs.Common.{arith}
use Rattle.rsml_meaning.specs.Instances.{events}
use Rattle.state_tree.proofs.Lists.{within_get}
use Rattle.event_graph.specs.Sets.{has}
use Rattle.text_writer.proofs.WritingLemmas.{alike}
use Rattle.reactions.proofs.EventTexts.{first_line}
use Rattle.reactions.proofs.events.put_first_line.Goals as goal

pub lone-requires-clause-present : goal.lone-requires-clause-present
lone-requires-clause-present g c q h = let b = c.requires.present q h in omega (arith, b, c.requires.count)

pub returns-in-Some : goal.returns-in-Some
returns-in-Some g c =
    let s = c.args.texts.now in
    let e = c.in-Some.event in
    let there = within_get (events s) e (c.requires.present e c.in-Some.ensures.there) in
    alike (first_line s (has c.args.present.now) e there.0 c.in-Some.ensures.there there.1 c.in-Some.ensures.before c.in-Some.ensures.behind)
    c.put.ensures
