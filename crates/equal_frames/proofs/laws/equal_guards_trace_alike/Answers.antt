use Rattle.equal_frames.proofs.Certificates.{equal_guards_trace_alike}
use Rattle.equal_frames.proofs.laws.equal_guards_trace_alike.Goals as goal

pub returns : goal.returns
returns c = equal_guards_trace_alike c.event_files_have_one_run.ensures.lines
