use Rattle.rsml_parser.proofs.SpecificationLemmas.{reads_once}
use Rattle.rsml_parser.proofs.laws.at_most_one_specification.Goals as goal

pub returns : goal.returns
returns c = reads_once
