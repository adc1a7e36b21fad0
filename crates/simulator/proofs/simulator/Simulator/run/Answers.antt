use Rattle.std.proofs.Common.{ℕ, ◌≤◌, List, Option, sym, ap, ◌∙◌, arith, rules, subst}
use Rattle.rsml_meaning.specs.EventLines.{Bytes}
use Rattle.text_writer.specs.Writes.{WriterState}
use Rattle.text_writer.specs.Parts.{state_of, text_of}
use Rattle.event_file.specs.Reading.{taken}
use Rattle.simulator.specs.declared.sim_end.SimEnd.TheVariants as end
use Rattle.simulator.specs.Simulating.{Meeting, Simulates}
use Rattle.simulator.specs.Simulation.{Simulation, IsNew}
use Rattle.simulator.specs.helpers.Progress.{Stops}
use Rattle.simulator.proofs.EndLemmas.{Closing, of_told, closes_whole, closes_refused}
use Rattle.simulator.proofs.simulator.Simulator.run.Goals as goal

pub follow_all-end-requires-clause-new : goal.follow_all-end-requires-clause-new
follow_all-end-requires-clause-new g c = subst IsNew (sym c.self.view_is) c.requires

pub returns-then-finish-clause-simulates : goal.returns-then-finish-clause-simulates
returns-then-finish-clause-simulates g c =
    let contents = g.F.Files.contents in
    let reach = g.F.Files.reach in
    let faults = g.F.Files.faults in
    let written = g.K.Sink.written in
    let refusals = g.K.Sink.faults in
    let name = c.args.name.now in
    let files = c.args.files.now in
    let files' = c.follow_all-end.new.files in
    let sink = c.args.sink.now in
    let out = c.new-out.result in
    let mid = c.follow_all-end.new.out in
    let last = c.put_last_line.new.out in
    let sink' = c.finish.new.self.0 in
    let s = c.self.inside.course.spec in
    let limits = c.self.inside.course.limits in
    let e = c.follow_all-end.result in
    let k = taken c.follow_all-end.new.course.reading in
    let m : Meeting = record {
      told = contents files name;
      reach = reach files name;
      reach_after = reach files' name;
      reads_refused = faults files name;
      reads_refused_after = faults files' name;
      written = written sink;
      written_after = written sink';
      writes_refused = refusals sink;
      writes_refused_after = refusals sink';
    } in
    let was = state_of refusals written out in
    let mid_state = state_of refusals written mid in
    let last_state = state_of refusals written last in
    let mid_text = text_of written mid in
    let last_text = text_of written last in
    let closing : Closing s limits m k e _ was mid_state last_state mid_text last_text c.finish.result _ = record {
      told = λ content there.
          subst (λ (old : Option (List ℕ)). Stops s limits content k e old mid_state mid_text) c.new-out.ensures.text
          (of_told (λ (content : Bytes). Stops s limits content k e (text_of written out) mid_state mid_text) (contents files name) content c.follow_all-end.ensures.told there);
      read = c.follow_all-end.ensures.read;
      reach = c.follow_all-end.ensures.reached;
      refused = c.follow_all-end.ensures.refused;
      begun = c.new-out.ensures.state;
      counted = c.follow_all-end.ensures.counted;
      line = c.put_last_line.ensures;
      finishes = c.finish.ensures;
    } in
    let closed : Simulates s limits m e = closes_whole s limits m k e _ was mid_state last_state mid_text last_text c.finish.result _ closing c.if-finish.true in
    let name_is = c.finish.ensures.same _ _ _ _ c.new-out.ensures.state (c.put_last_line.ensures.same ∙ c.follow_all-end.ensures.counted.same) in
    let there = subst (λ (v : Simulation). Simulates v.spec v.limits m e) c.self.view_is closed in
    search rules

pub returns-clause-simulates : goal.returns-clause-simulates
returns-clause-simulates g c =
    let contents = g.F.Files.contents in
    let reach = g.F.Files.reach in
    let faults = g.F.Files.faults in
    let written = g.K.Sink.written in
    let refusals = g.K.Sink.faults in
    let name = c.args.name.now in
    let files = c.args.files.now in
    let files' = c.follow_all-end.new.files in
    let sink = c.args.sink.now in
    let out = c.new-out.result in
    let mid = c.follow_all-end.new.out in
    let last = c.put_last_line.new.out in
    let sink' = c.finish.new.self.0 in
    let s = c.self.inside.course.spec in
    let limits = c.self.inside.course.limits in
    let e = c.follow_all-end.result in
    let k = taken c.follow_all-end.new.course.reading in
    let m : Meeting = record {
      told = contents files name;
      reach = reach files name;
      reach_after = reach files' name;
      reads_refused = faults files name;
      reads_refused_after = faults files' name;
      written = written sink;
      written_after = written sink';
      writes_refused = refusals sink;
      writes_refused_after = refusals sink';
    } in
    let was = state_of refusals written out in
    let mid_state = state_of refusals written mid in
    let last_state = state_of refusals written last in
    let mid_text = text_of written mid in
    let last_text = text_of written last in
    let closing : Closing s limits m k e _ was mid_state last_state mid_text last_text c.finish.result _ = record {
      told = λ content there.
          subst (λ (old : Option (List ℕ)). Stops s limits content k e old mid_state mid_text) c.new-out.ensures.text
          (of_told (λ (content : Bytes). Stops s limits content k e (text_of written out) mid_state mid_text) (contents files name) content c.follow_all-end.ensures.told there);
      read = c.follow_all-end.ensures.read;
      reach = c.follow_all-end.ensures.reached;
      refused = c.follow_all-end.ensures.refused;
      begun = c.new-out.ensures.state;
      counted = c.follow_all-end.ensures.counted;
      line = c.put_last_line.ensures;
      finishes = c.finish.ensures;
    } in
    let closed : Simulates s limits m end.WriteFault = closes_refused s limits m k e _ was mid_state last_state mid_text last_text c.finish.result _ closing c.if-finish.false in
    let name_is = c.finish.ensures.same _ _ _ _ c.new-out.ensures.state (c.put_last_line.ensures.same ∙ c.follow_all-end.ensures.counted.same) in
    let there = subst (λ (v : Simulation). Simulates v.spec v.limits m end.WriteFault) c.self.view_is closed in
    search rules

pub returns-then-finish-clause-sink_count : goal.returns-then-finish-clause-sink_count
returns-then-finish-clause-sink_count g c =
    let begun = ap (λ (state : WriterState). state.refusals) c.new-out.ensures.state in
    let followed = c.follow_all-end.ensures.counted.count in
    let line = c.put_last_line.ensures.count in
    let last = c.finish.ensures.count in
    let name_is = c.finish.ensures.same _ _ _ _ c.new-out.ensures.state (c.put_last_line.ensures.same ∙ c.follow_all-end.ensures.counted.same) in
    let within : g.K.Sink.faults c.args.sink.now ≤ g.K.Sink.faults c.finish.new.self.0 = omega (arith, begun, followed, line, last) in
    search rules

pub returns-clause-sink_count : goal.returns-clause-sink_count
returns-clause-sink_count g c =
    let begun = ap (λ (state : WriterState). state.refusals) c.new-out.ensures.state in
    let followed = c.follow_all-end.ensures.counted.count in
    let line = c.put_last_line.ensures.count in
    let last = c.finish.ensures.count in
    let name_is = c.finish.ensures.same _ _ _ _ c.new-out.ensures.state (c.put_last_line.ensures.same ∙ c.follow_all-end.ensures.counted.same) in
    let within : g.K.Sink.faults c.args.sink.now ≤ g.K.Sink.faults c.finish.new.self.0 = omega (arith, begun, followed, line, last) in
    grind (rules, arith) steps 30000000
