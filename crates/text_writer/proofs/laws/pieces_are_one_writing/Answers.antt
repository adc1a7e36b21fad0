use Rattle.text_writer.proofs.WritingLemmas.{both}
use Rattle.text_writer.proofs.laws.pieces_are_one_writing.Goals as goal

pub returns : goal.returns
returns c = both
