use Rattle.checking.proofs.CheckLemmas.{read_formed, format_output}
use Rattle.checking.proofs.layouts.format.Goals as goal

pub laid_out-requires : goal.laid_out-requires
laid_out-requires c = read_formed c.args.text.now c.in_ok-read.read c.in_ok-read.ensures.read

pub returns : goal.returns
returns c = format_output c.args.text.now c.in_ok-read.read c.laid_out.result c.in_ok-read.ensures.read c.laid_out.ensures
