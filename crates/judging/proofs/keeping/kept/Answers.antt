use Rattle.judging.proofs.TextLemmas.{read_is, unread_is}
use Rattle.judging.proofs.keeping.kept.Goals as goal

pub returns-in-Specification : goal.returns-in-Specification
returns-in-Specification c = c.kept_specification.ensures c.args.text.now (read_is _ _ _ c.in-Specification.is c.in_ok-spec.ensures.read)

pub returns-in-Fault : goal.returns-in-Fault
returns-in-Fault c = unread_is _ _ _ c.in-Fault.is c.in_ok-spec.ensures.read
