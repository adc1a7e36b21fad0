use Rattle.std.proofs.Common.{sym, ap, subst}
use Rattle.rsml_syntax.specs.declared.world.World.{World}
use Rattle.rsml_meaning.specs.Report.{world_text}
use Rattle.rsml_meaning.specs.Worlds.{IsWorld}
use Rattle.equal_frames.specs.Differences.{Difference}
use Rattle.same_spec.specs.Found.{IsFound}
use Rattle.text_writer.proofs.WritingLemmas.{alike, followed}
use Rattle.comparing.specs.DifferenceText.{difference_text, side_line}
use Rattle.comparing.proofs.TextLemmas.{finished}
use Rattle.comparing.proofs.difference_text.difference_text.Goals as goal

pub put_head-requires-clause-member : goal.put_head-requires-clause-member
put_head-requires-clause-member c = (c.requires.found.difference.member, c.requires.found.found.member)

pub put_world-requires-clause-world : goal.put_world-requires-clause-world
put_world-requires-clause-world c = subst (λ (w : World). IsWorld c.args.machine.now.base.spec w) (sym c.requires.found.found.world) c.requires.found.world

pub returns : goal.returns
returns c =
    let s = c.args.machine.now.base.spec in
    finished (λ v. v.items) c.finish.result c.new-draft.result c.put_side.new.writer (λ (d : Difference). IsFound s c.args.found.now d) (difference_text s) c.new-draft.ensures
    (λ d is. followed (c.put_head.ensures d.member is.member) (followed (alike (ap (world_text s) is.world) c.put_world.ensures) (alike (ap side_line is.first) c.put_side.ensures)))
    c.finish.ensures.ok c.finish.ensures.text
