use Rattle.std.proofs.Common.{◌≡◌, ◌≤◌, ◌^◌, [], Some, sym, ap, ◌∙◌, arith, rules, subst}
use Rattle.rsml_syntax.specs.declared.syntax.Spec.{Spec}
use Rattle.rsml_meaning.specs.Certified.{Certified}
use Rattle.rsml_meaning.specs.EventFiles.{Limits}
use Rattle.rsml_meaning.specs.EventLines.{Bytes}
use Rattle.text_writer.specs.Writes.{WriterState}
use Rattle.text_writer.proofs.Finished.{finished}
use Rattle.event_file.specs.Reading.{limits_of, taken}
use Rattle.simulator.specs.declared.sim_end.SimEnd.TheVariants as end
use Rattle.simulator.specs.Simulating.{Follows, Meeting}
use Rattle.simulator.proofs.EndLemmas.{of_told}
use Rattle.coverage.specs.Coverage.{Coverage, coverage}
use Rattle.coverage.specs.Outputs.{IsCounted}
use Rattle.coverage.specs.Text.{covers}
use Rattle.coverage.proofs.CoverLemmas.{text_some, covers_whole, covers_refused}
use Rattle.coverage.proofs.covering.cover.Goals as goal

pub fill-end-requires-clause-same : goal.fill-end-requires-clause-same
fill-end-requires-clause-same g c =
    c.in_ok-simulator.ensures.spec ∙ sym c.requires.machine ∙ sym (ap (λ (d : Coverage). d.spec) c.in_ok-counts.ensures)

pub fill-end-requires-clause-certified : goal.fill-end-requires-clause-certified
fill-end-requires-clause-certified g c =
    subst Certified (sym (ap (λ (d : Coverage). d.spec) c.in_ok-counts.ensures ∙ c.requires.machine)) c.requires.certified

pub fill-end-requires-clause-empty : goal.fill-end-requires-clause-empty
fill-end-requires-clause-empty g c =
    c.in_ok-counts.ensures ∙ ap (λ (s : Spec). coverage s []) (sym (ap (λ (d : Coverage). d.spec) c.in_ok-counts.ensures))

pub fill-end-requires-clause-limits : goal.fill-end-requires-clause-limits
fill-end-requires-clause-limits g c = subst (λ (z : Limits). z.file ≤ 2 ^ 32) (sym c.in_ok-simulator.ensures.limits) c.requires.limits.1

pub put_output-requires-clause-checked : goal.put_output-requires-clause-checked
put_output-requires-clause-checked g c =
    sym (c.fill-end.ensures.spec ∙ ap (λ (d : Coverage). d.spec) c.in_ok-counts.ensures ∙ c.requires.machine)

pub put_output-requires-clause-texts : goal.put_output-requires-clause-texts
put_output-requires-clause-texts g c =
    c.in_ok-texts.ensures ∙ sym (c.fill-end.ensures.spec ∙ ap (λ (d : Coverage). d.spec) c.in_ok-counts.ensures ∙ c.requires.machine)

pub returns-then-finish-clause-follows : goal.returns-then-finish-clause-follows
returns-then-finish-clause-follows g c =
    let contents = g.F.Files.contents in
    let reach = g.F.Files.reach in
    let faults = g.F.Files.faults in
    let written = g.K.Sink.written in
    let refusals = g.K.Sink.faults in
    let name = c.args.name.now in
    let files = c.args.files.now in
    let files' = c.fill-end.new.files in
    let sink = c.args.sink.now in
    let sink' = c.finish.new.self.0 in
    let m' = c.fill-end.new.simulator in
    let s = c.in_ok-simulator.simulator.spec in
    let limits = c.in_ok-simulator.simulator.limits in
    let e = c.fill-end.result in
    let k = taken m'.reading in
    let counts = c.fill-end.new.self in
    let m : Meeting = record {
      told = contents files name;
      reach = reach files name;
      reach_after = reach files' name;
      reads_refused = faults files name;
      reads_refused_after = faults files' name;
      written = written sink;
      written_after = written sink';
      writes_refused = refusals sink;
      writes_refused_after = refusals sink';
    } in
    let told : (content : Bytes) → m.told ≡ Some content → IsCounted s limits content k e counts =
    λ content there. of_told (λ (content : Bytes). IsCounted s limits content k e counts) (contents files name) content c.fill-end.ensures.told there in
    let puts = finished _ c.new-out.ensures.state c.new-out.ensures.text c.put_output.ensures (text_some counts e c.fill-end.ensures.unwritten) c.finish.ensures in
    let closed : Follows covers s limits m e =
    covers_whole s limits m k e counts told c.fill-end.ensures.read c.fill-end.ensures.reached c.fill-end.ensures.unwritten c.finish.result puts c.if-finish.true in
    let name_is = c.finish.ensures.same _ _ _ _ c.new-out.ensures.state c.put_output.ensures.same in
    let there =
    subst (λ (z : Spec). Follows covers z (limits_of c.args.limits) m e) c.in_ok-simulator.ensures.spec
    (subst (λ (z : Limits). Follows covers s z m e) c.in_ok-simulator.ensures.limits closed) in
    search rules

pub returns-clause-follows : goal.returns-clause-follows
returns-clause-follows g c =
    let contents = g.F.Files.contents in
    let reach = g.F.Files.reach in
    let faults = g.F.Files.faults in
    let written = g.K.Sink.written in
    let refusals = g.K.Sink.faults in
    let name = c.args.name.now in
    let files = c.args.files.now in
    let files' = c.fill-end.new.files in
    let sink = c.args.sink.now in
    let sink' = c.finish.new.self.0 in
    let m' = c.fill-end.new.simulator in
    let s = c.in_ok-simulator.simulator.spec in
    let limits = c.in_ok-simulator.simulator.limits in
    let e = c.fill-end.result in
    let k = taken m'.reading in
    let counts = c.fill-end.new.self in
    let m : Meeting = record {
      told = contents files name;
      reach = reach files name;
      reach_after = reach files' name;
      reads_refused = faults files name;
      reads_refused_after = faults files' name;
      written = written sink;
      written_after = written sink';
      writes_refused = refusals sink;
      writes_refused_after = refusals sink';
    } in
    let told : (content : Bytes) → m.told ≡ Some content → IsCounted s limits content k e counts =
    λ content there. of_told (λ (content : Bytes). IsCounted s limits content k e counts) (contents files name) content c.fill-end.ensures.told there in
    let puts = finished _ c.new-out.ensures.state c.new-out.ensures.text c.put_output.ensures (text_some counts e c.fill-end.ensures.unwritten) c.finish.ensures in
    let closed : Follows covers s limits m end.WriteFault =
    covers_refused s limits m k e counts told c.fill-end.ensures.read c.fill-end.ensures.reached c.fill-end.ensures.unwritten c.finish.result puts c.if-finish.false in
    let name_is = c.finish.ensures.same _ _ _ _ c.new-out.ensures.state c.put_output.ensures.same in
    let there =
    subst (λ (z : Spec). Follows covers z (limits_of c.args.limits) m end.WriteFault) c.in_ok-simulator.ensures.spec
    (subst (λ (z : Limits). Follows covers s z m end.WriteFault) c.in_ok-simulator.ensures.limits closed) in
    search rules

pub returns-then-finish-clause-sink_count : goal.returns-then-finish-clause-sink_count
returns-then-finish-clause-sink_count g c =
    let begun = ap (λ (state : WriterState). state.refusals) c.new-out.ensures.state in
    let put = c.put_output.ensures.count in
    let last = c.finish.ensures.count in
    let name_is = c.finish.ensures.same _ _ _ _ c.new-out.ensures.state c.put_output.ensures.same in
    let within : g.K.Sink.faults c.args.sink.now ≤ g.K.Sink.faults c.finish.new.self.0 = omega (arith, begun, put, last) in
    search rules

pub returns-clause-sink_count : goal.returns-clause-sink_count
returns-clause-sink_count g c =
    let begun = ap (λ (state : WriterState). state.refusals) c.new-out.ensures.state in
    let put = c.put_output.ensures.count in
    let last = c.finish.ensures.count in
    let name_is = c.finish.ensures.same _ _ _ _ c.new-out.ensures.state c.put_output.ensures.same in
    let within : g.K.Sink.faults c.args.sink.now ≤ g.K.Sink.faults c.finish.new.self.0 = omega (arith, begun, put, last) in
    search rules
