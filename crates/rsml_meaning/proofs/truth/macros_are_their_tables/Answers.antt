use Rattle.rsml_meaning.proofs.Stable.{macros_are_their_tables}
use Rattle.rsml_meaning.proofs.truth.macros_are_their_tables.Goals as goal

pub returns : goal.returns
returns c = macros_are_their_tables
