use Rattle.rsml_meaning.proofs.Runs.{event_files_have_one_run, lines_have_one_run, runs_end_in_time}
use Rattle.rsml_meaning.proofs.event_runs.event_files_have_one_run.Goals as goal

pub returns-clause-one : goal.returns-clause-one
returns-clause-one c = event_files_have_one_run

pub returns-clause-lines : goal.returns-clause-lines
returns-clause-lines c = lines_have_one_run

pub returns-clause-time : goal.returns-clause-time
returns-clause-time c = runs_end_in_time
