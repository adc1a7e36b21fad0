use Rattle.std.proofs.Common.{◌+◌, List, sym, ap, flat_map, refl, arith}
use Rattle.rsml_meaning.specs.Words.{Instance}
use Rattle.rsml_meaning.specs.Instances.{events}
use Rattle.state_tree.proofs.Lists.{within_get}
use Rattle.event_graph.specs.Sets.{has}
use Rattle.micro_step.proofs.PlaceLemmas.{none_left}
use Rattle.text_writer.proofs.WritingLemmas.{followed, alike, still}
use Rattle.reactions.specs.Lines.{spaced}
use Rattle.reactions.proofs.EventTexts.{none_between, more_text, last_text}
use Rattle.reactions.proofs.events.put_events.Goals as goal

pub loop-next-init : goal.loop-next-init
loop-next-init g c =
    let s = c.args.texts.now in
    let below = c.requires.present c.args.first c.requires.there in
    record {
      within = omega (arith, below, c.requires.count, c.requires.few);
      there = c.requires.there;
      written = alike (ap (λ (es : List Instance). flat_map spaced es) (sym (none_between (has c.args.present.now) 0 c.args.first (events s) (omega arith) (λ q a b. c.requires.first q b))))
          (still (g.W.Writer.state c.args.writer.now) (g.W.Writer.text c.args.writer.now));
    }

pub loop-next-preserved : goal.loop-next-preserved
loop-next-preserved g c =
    let s = c.args.texts.now in
    let p = has c.args.present.now in
    let next = c.in-Some.ensures.some in
    let there = within_get (events s) c.loop-next.event (c.requires.present c.loop-next.event c.loop-next.invariant.there) in
    record {
      within = next.1;
      there = next.2;
      written = alike (more_text s p c.loop-next.event c.in-Some.next there.0 c.loop-next.invariant.there there.1 next.0 next.3)
          (followed c.loop-next.invariant.written c.put_spaced.ensures);
    }

pub returns : goal.returns
returns g c =
    let s = c.args.texts.now in
    let p = has c.args.present.now in
    let there = within_get (events s) c.loop-next.event (c.requires.present c.loop-next.event c.loop-next.invariant.there) in
    let rest = none_left p c.args.count (c.loop-next.event + 1) (λ k e. let b = c.requires.present k e in omega (arith, b, c.requires.count)) (c.in_default.ensures.none refl) in
    alike (last_text s p c.loop-next.event there.0 c.loop-next.invariant.there there.1 rest) (followed c.loop-next.invariant.written c.put.ensures)
