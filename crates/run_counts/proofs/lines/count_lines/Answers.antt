use Rattle.std.proofs.Common.{◌≤◌, ℕ, length, refl, sym, ap, ◌∙◌, subst, arith}
use Rattle.rsml_meaning.specs.Words.{Each}
use Rattle.rsml_meaning.specs.Interfaces.{receives}
use Rattle.event_file.proofs.PieceLemmas.{begins_within}
use Rattle.run_counts.specs.declared.counts.Counts.{Counts}
use Rattle.run_counts.proofs.LoopLemmas.{starts, begins_first, sound, not_long, followed_on, ends}
use Rattle.run_counts.proofs.lines.count_lines.Goals as goal

pub lines-init : goal.lines-init
lines-init c =
    let none = ap (λ (k : Counts). k.rounds) c.requires.none in
    let no_event = ap (λ (k : Counts). k.events) c.requires.none in
    record {
      ready = c.requires.ready;
      few = omega (arith, none);
      events = omega (arith, no_event);
      begins = begins_first c.args.text.now;
      room = refl;
      followed = starts c.args.machine.now.base.spec c.args.text.now c.args.progress.now.world c.args.progress.now.counts c.requires.first c.requires.none;
    }

pub cut-requires : goal.cut-requires
cut-requires c = c.lines.invariant.begins

pub count_line-requires-clause-values : goal.count_line-requires-clause-values
count_line-requires-clause-values c =
    subst (λ (n : ℕ). Each (λ x. length x.inputs ≤ n) (receives c.args.machine.now.base.spec)) (sym c.lines.invariant.room) c.requires.values

pub count_line-requires-clause-sound : goal.count_line-requires-clause-sound
count_line-requires-clause-sound c =
    sound c.args.machine.now.base.spec c.args.text.now c.requires.formed c.lines.at c.lines.invariant.begins c.in-Line.end c.in-Line.after c.in-Line.ensures.piece

pub count_line-requires-clause-ready : goal.count_line-requires-clause-ready
count_line-requires-clause-ready c = c.lines.invariant.ready

pub count_line-requires-clause-room : goal.count_line-requires-clause-room
count_line-requires-clause-room c =
    let events = c.lines.invariant.events in
    let within = begins_within c.args.text.now c.lines.at c.lines.invariant.begins in
    let short = c.requires.formed.short in
    omega (arith, events, within, short)

pub count_line-requires-clause-few : goal.count_line-requires-clause-few
count_line-requires-clause-few c = c.lines.invariant.few

pub lines-preserved : goal.lines-preserved
lines-preserved c =
    let i = c.lines.invariant in
    let events = i.events in
    let one = c.count_line.ensures.one in
    let forward = c.in-Line.ensures.forward c.in-Line.end c.in-Line.after refl in
    record {
      ready = c.count_line.ensures.ready;
      few = c.count_line.ensures.few;
      events = omega (arith, events, one, forward);
      begins = c.in-Line.ensures.begins c.in-Line.end c.in-Line.after refl;
      room = c.count_line.auto.values ∙ i.room;
      followed = followed_on c.args.machine.now.base.spec c.args.text.now c.requires.formed c.lines.at i.begins c.in-Line.end c.in-Line.after c.in-Line.ensures.piece
          c.lines.progress.world c.count_line.new.progress.world c.lines.progress.counts c.count_line.new.progress.counts i.followed c.count_line.ensures.counted;
    }

pub lines-smaller : goal.lines-smaller
lines-smaller c =
    let forward = c.in-Line.ensures.forward c.in-Line.end c.in-Line.after refl in
    let within = begins_within c.args.text.now c.in-Line.after (c.in-Line.ensures.begins c.in-Line.end c.in-Line.after refl) in
    omega (arith, forward, within)

pub returns-in-LineTooLong : goal.returns-in-LineTooLong
returns-in-LineTooLong c =
    absurd (not_long c.args.machine.now.base.spec c.args.text.now c.requires.formed c.lines.at c.lines.invariant.begins c.in-LineTooLong.ensures.piece)

pub returns-in-End : goal.returns-in-End
returns-in-End c =
    ends c.args.machine.now.base.spec c.args.text.now c.requires.formed c.lines.at c.lines.invariant.begins c.lines.progress.world c.lines.progress.counts c.in-End.ensures.piece c.lines.invariant.followed
