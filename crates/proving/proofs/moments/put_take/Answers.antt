use Rattle.std.proofs.Common.{[], Option, sym, ap}
use Rattle.std.specs.Option.{option_map_or}
use Rattle.rsml_meaning.specs.Groups as meaning
use Rattle.rsml_meaning.specs.Transitions.{TransitionInstance, transitions}
use Rattle.state_tree.proofs.Lists.{within_get}
use Rattle.text_writer.proofs.WritingLemmas.{followed, alike}
use Rattle.proving.specs.ProveText.{take_line}
use Rattle.proving.proofs.moments.put_take.Goals as goal

pub put_member-requires : goal.put_member-requires
put_member-requires g c =
    let t = within_get (transitions c.args.machine.now.base.spec) c.args.number c.requires in (meaning.transition t.0, t.1)

pub returns : goal.returns
returns g c =
    let t = within_get (transitions c.args.machine.now.base.spec) c.args.number c.requires in
    alike (sym (ap (λ (o : Option TransitionInstance). option_map_or take_line o []) t.1))
    (followed (followed c.put.ensures (c.put_member.ensures (meaning.transition t.0) t.1)) c.put_line_end.ensures)
