use Rattle.text_writer.proofs.WritingLemmas.{nothing}
use Rattle.text_writer.proofs.laws.writing_nothing_changes_nothing.Goals as goal

pub returns : goal.returns
returns c = nothing
