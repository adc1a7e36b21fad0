use Rattle.std.proofs.Common.{sym, ◌∙◌, true≢false}
use Rattle.guard_encode.proofs.DecidedLemmas.{exact_nowhere, exact_somewhere}
use Rattle.guard_encode.proofs.FindLemmas.{found_nowhere, found_somewhere}
use Rattle.guard_encode.proofs.encoder.Encoder.decide.Goals as goal

pub returns-then-is_false-clause-answer : goal.returns-then-is_false-clause-answer
returns-then-is_false-clause-answer c = λ truth told.
    exact_nowhere c.keyed_laws.ensures.worlds c.keyed_laws.ensures.none c.args.self.now c.settled.new.self truth c.args.f c.in_ok-settled.settled c.in_ok-settled.ensures.keeps c.in_ok-settled.ensures.keyed
    c.in_ok-settled.ensures.answer (c.is_false.ensures.0 c.if-is_false.true) told

pub returns-else-is_false-clause-answer : goal.returns-else-is_false-clause-answer
returns-else-is_false-clause-answer c = λ truth told.
    exact_somewhere c.keyed_laws.ensures.none c.args.self.now c.settled.new.self truth c.args.f c.in_ok-settled.settled c.in_ok-settled.ensures.keeps c.in_ok-settled.ensures.keyed
    c.in_ok-settled.ensures.answer (λ never. true≢false (sym (c.is_false.ensures.1 never) ∙ c.if-is_false.false)) told

pub returns-then-is_false-clause-found : goal.returns-then-is_false-clause-found
returns-then-is_false-clause-found c = λ truth found.
    found_nowhere c.world_laws.ensures.each c.world_laws.ensures.free c.keyed_laws.ensures.each c.keyed_laws.ensures.worlds
    c.args.self.now c.settled.new.self truth c.args.f c.in_ok-settled.settled c.in_ok-settled.ensures.keeps c.in_ok-settled.ensures.keyed
    c.in_ok-settled.ensures.answer (c.is_false.ensures.0 c.if-is_false.true) found

pub returns-else-is_false-clause-found : goal.returns-else-is_false-clause-found
returns-else-is_false-clause-found c = λ truth found.
    found_somewhere c.world_laws.ensures.each c.world_laws.ensures.free c.keyed_laws.ensures.each c.keyed_laws.ensures.worlds
    c.args.self.now c.settled.new.self truth c.args.f c.in_ok-settled.settled c.in_ok-settled.ensures.keeps c.in_ok-settled.ensures.keyed
    c.in_ok-settled.ensures.answer (λ never. true≢false (sym (c.is_false.ensures.1 never) ∙ c.if-is_false.false)) found

pub returns-then-is_exact-clause-answer : goal.returns-then-is_exact-clause-answer
returns-then-is_exact-clause-answer c = c.is_exact.ensures.told c.if-is_exact.true

pub returns-then-is_exact-clause-found : goal.returns-then-is_exact-clause-found
returns-then-is_exact-clause-found c = c.is_exact.ensures.found c.if-is_exact.true
