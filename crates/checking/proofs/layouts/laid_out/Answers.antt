use Rattle.checking.proofs.CheckLemmas.{formed_is, laid_out, fault_laid_out}
use Rattle.checking.proofs.layouts.laid_out.Goals as goal

pub lay_out-requires : goal.lay_out-requires
lay_out-requires c = formed_is c.args.read c.in-Specification.spec c.in-Specification.is c.requires

pub returns-in-Specification : goal.returns-in-Specification
returns-in-Specification c = laid_out c.args.read c.in-Specification.spec c.lay_out.result c.in-Specification.is c.lay_out.ensures.status c.lay_out.ensures.text

pub returns-in-Fault : goal.returns-in-Fault
returns-in-Fault c = fault_laid_out c.args.read c.in-Fault.line c.in-Fault.is
