use Rattle.std.proofs.Common.{None, get_or}
use Rattle.std.proofs.lemmas.List.{get_or_default}
use Rattle.event_chains.specs.declared.external.External.{External}
use Rattle.text_writer.proofs.WritingLemmas.{one_more}
use Rattle.analysis.specs.Lines.{chain_line_of}
use Rattle.analysis.proofs.chain_lines.put_chains.Goals as goal

abbrev nothing : External
nothing = record { event = 0; length = None; clash = None }

pub loop-external-preserved : goal.loop-external-preserved
loop-external-preserved g c =
    let i = c.loop-external.external-index in
    let x : External = get_or c.args.externals.now i nothing in
    one_more (chain_line_of c.args.texts.now) c.args.externals.now i x c.loop-external-test.true (get_or_default c.args.externals.now i nothing x c.loop-external-test.true)
    c.loop-external.invariant c.put_chain.ensures
