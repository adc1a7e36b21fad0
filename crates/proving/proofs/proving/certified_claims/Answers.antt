use Rattle.std.proofs.Common.{sym, ◌∙◌}
use Rattle.proving.proofs.ProveLemmas.{certified_output, fits_machine, stand_for}
use Rattle.proving.proofs.proving.certified_claims.Goals as goal

pub proof_of-requires-clause-claims : goal.proof_of-requires-clause-claims
proof_of-requires-clause-claims c =
    (c.args.claims.now, stand_for c.args.checked.now c.args.claims.now c.in_ok-ground.ground.items c.as_slice.result.now c.as_slice.ensures.value c.in_ok-ground.ensures)

pub proof_text-requires-clause-texts : goal.proof_text-requires-clause-texts
proof_text-requires-clause-texts c = c.in_ok-texts.ensures ∙ sym c.in_ok-machine.ensures

pub proof_text-requires-clause-proof : goal.proof_text-requires-clause-proof
proof_text-requires-clause-proof c =
    let s = c.args.checked.now in
    let cs = c.args.claims.now in
    let are = stand_for s cs c.in_ok-ground.ground.items c.as_slice.result.now c.as_slice.ensures.value c.in_ok-ground.ensures in
    fits_machine s c.in_ok-machine.machine.base.spec cs c.in_ok-proof.proof c.in_ok-machine.ensures (c.in_ok-proof.ensures cs are)

pub returns : goal.returns
returns c =
    let s = c.args.checked.now in
    let cs = c.args.claims.now in
    let are = stand_for s cs c.in_ok-ground.ground.items c.as_slice.result.now c.as_slice.ensures.value c.in_ok-ground.ensures in
    certified_output s c.in_ok-machine.machine.base.spec cs c.in_ok-proof.proof _ c.in_ok-text.text.items c.spec.ensures.checked.keeps c.requires.claims.of_states
    c.requires.certified c.in_ok-machine.ensures (c.in_ok-proof.ensures cs are) c.status_of.ensures c.in_ok-text.ensures
