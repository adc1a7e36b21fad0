use Rattle.rsml_meaning.proofs.WellFormed.{well_formed_has_no_fault}
use Rattle.rsml_meaning.proofs.WellFormed.{well_formed_is_sound}
use Rattle.rsml_meaning.proofs.event_files.well_formed_files_have_no_fault.Goals as goal

pub returns-clause-exact : goal.returns-clause-exact
returns-clause-exact c = well_formed_has_no_fault

pub returns-clause-whole : goal.returns-clause-whole
returns-clause-whole c = well_formed_is_sound
