use Rattle.std.proofs.Common.{get_or}
use Rattle.std.proofs.lemmas.List.{get_or_default}
use Rattle.event_graph.specs.declared.clash.Clash.{Clash}
use Rattle.text_writer.proofs.WritingLemmas.{one_more}
use Rattle.analysis.specs.Lines.{clash_line_of}
use Rattle.analysis.proofs.clash_lines.put_clashes.Goals as goal

abbrev nothing : Clash
nothing = record { start = 0; round = 0; one = 0; two = 0 }

pub loop-clash-preserved : goal.loop-clash-preserved
loop-clash-preserved g c =
    let i = c.loop-clash.clash-index in
    let x : Clash = get_or c.args.clashes.now i nothing in
    one_more (clash_line_of c.args.texts.now) c.args.clashes.now i x c.loop-clash-test.true (get_or_default c.args.clashes.now i nothing x c.loop-clash-test.true)
    c.loop-clash.invariant c.put_clash.ensures
