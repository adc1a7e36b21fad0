use Rattle.state_arrays.proofs.MadeLemmas.{receive_arrays_by, received}
use Rattle.state_arrays.proofs.declared.receive_instances.Goals as goal

pub instances_of-requires : goal.instances_of-requires
instances_of-requires c = receive_arrays_by _ _ _ _ c.spec-spec.ensures.same c.as_slice-decls.ensures c.in_ok-globals.ensures c.spec-spec.ensures.checked

pub returns : goal.returns
returns c = received _ _ _ _ c.spec-spec.ensures.same c.as_slice-decls.ensures c.in_ok-globals.ensures _ c.in_ok-receives.ensures
