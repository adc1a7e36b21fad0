use Rattle.rsml_parser.proofs.SpecificationLemmas.{layout_reads}
use Rattle.rsml_parser.proofs.laws.layout_reads_again.Goals as goal

pub returns : goal.returns
returns c = layout_reads
