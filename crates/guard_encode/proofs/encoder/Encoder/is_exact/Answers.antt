use Rattle.std.proofs.Common.{◌==◌, List, length, sym, ap, ◌∙◌, subst}
use Rattle.keyed_levels.specs.declared.keyed.Keyed.{Keyed}
use Rattle.guard_encode.specs.Encoding.{Encoding, Finds, FindsExactly, Tells, TellsExactly, encoding_of}
use Rattle.guard_encode.proofs.DecidedLemmas.{exact_false, exact_unkeyed}
use Rattle.guard_encode.proofs.FindLemmas.{found_false, found_unkeyed}
use Rattle.guard_encode.proofs.encoder.Encoder.is_exact.Goals as goal

pub returns-then-is_empty-clause-told : goal.returns-then-is_empty-clause-told
returns-then-is_empty-clause-told c = λ is truth.
    subst (λ (e : Encoding). Tells e truth c.args.f → TellsExactly e truth c.args.f) c.self.view_is
    (exact_unkeyed c.keyed_laws.ensures.none (encoding_of c.self.inside.machine.now c.self.inside.levels c.self.inside.arena) truth c.args.f c.self.invariant.stored.levels
    (ap (λ (ks : List Keyed). length ks == 0) (sym c.keys.ensures.keyed) ∙ sym c.is_empty.ensures ∙ is))

pub returns-else-is_empty-clause-told : goal.returns-else-is_empty-clause-told
returns-else-is_empty-clause-told c = λ is truth.
    subst (λ (e : Encoding). Tells e truth c.args.f → TellsExactly e truth c.args.f) c.self.view_is
    (exact_false c.keyed_laws.ensures.none (encoding_of c.self.inside.machine.now c.self.inside.levels c.self.inside.arena) truth c.args.f c.self.invariant.stored.levels (c.is_false.ensures.0 is))

pub returns-then-is_empty-clause-found : goal.returns-then-is_empty-clause-found
returns-then-is_empty-clause-found c = λ is truth.
    subst (λ (e : Encoding). Finds e truth c.args.f → FindsExactly e truth c.args.f) c.self.view_is
    (found_unkeyed c.world_laws.ensures.each c.world_laws.ensures.free c.keyed_laws.ensures.each c.keyed_laws.ensures.worlds
    (encoding_of c.self.inside.machine.now c.self.inside.levels c.self.inside.arena) truth c.args.f c.self.invariant.stored.levels
    (ap (λ (ks : List Keyed). length ks == 0) (sym c.keys.ensures.keyed) ∙ sym c.is_empty.ensures ∙ is))

pub returns-else-is_empty-clause-found : goal.returns-else-is_empty-clause-found
returns-else-is_empty-clause-found c = λ is truth.
    subst (λ (e : Encoding). Finds e truth c.args.f → FindsExactly e truth c.args.f) c.self.view_is
    (found_false c.world_laws.ensures.each c.world_laws.ensures.free c.keyed_laws.ensures.each c.keyed_laws.ensures.worlds
    (encoding_of c.self.inside.machine.now c.self.inside.levels c.self.inside.arena) truth c.args.f c.self.invariant.stored.levels (c.is_false.ensures.0 is))
