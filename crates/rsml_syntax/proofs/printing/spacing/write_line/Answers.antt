use Rattle.std.proofs.Common.{◌∙◌, arith}
use Rattle.rsml_syntax.proofs.PrintLemmas.{two_more}
use Rattle.rsml_syntax.proofs.printing.spacing.write_line.Goals as goal

pub loop-brace-preserved : goal.loop-brace-preserved
loop-brace-preserved c = record {
  written = c.in_ok-extend_from_slice.ensures.items ∙ two_more c.loop-brace.text.items c.args.text.now.items c.loop-brace._brace c.loop-brace.invariant.written;
  grown = omega (arith, c.loop-brace.invariant.grown, c.in_ok-extend_from_slice.ensures.len);
}
