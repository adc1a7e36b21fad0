use Rattle.following.proofs.StartLemmas.{certified_text, not_done}
use Rattle.following.proofs.starting.start_of.Goals as goal

pub returns-in-Certified : goal.returns-in-Certified
returns-in-Certified c = certified_text c.args.text.items _ c.in-Certified.report c.in-Certified.checked c.in-Certified.is c.requires

pub stopped-requires-clause-refused : goal.stopped-requires-clause-refused
stopped-requires-clause-refused c = not_done c.args.judgement c.in_default.not-Certified
