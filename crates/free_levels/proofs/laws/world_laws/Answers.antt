use Rattle.std.proofs.Common.{◌≡◌, ℕ, true, List}
use Rattle.free_levels.proofs.WorldLemmas.{lawful-spelled, ignores-from_worlds, settled-worlds, least-worlds}
use Rattle.free_levels.proofs.laws.world_laws.Goals as goal

pub returns-clause-spelled : goal.returns-clause-spelled
returns-clause-spelled c = λ is_world world_of spelled truths keys are.
    lawful-spelled (List ℕ) (λ w. is_world w ≡ true) world_of spelled truths keys are.is_one are.of_spelled are.spells_keys are.exact

pub returns-clause-ignore : goal.returns-clause-ignore
returns-clause-ignore c = λ is_world world_of spelled truths keys are.
    ignores-from_worlds (List ℕ) (λ w. is_world w ≡ true) world_of spelled truths keys are.is_one are.of_spelled are.spells_keys are.exact

pub returns-clause-world : goal.returns-clause-world
returns-clause-world c = λ is_world world_of spelled truths keys are.
    settled-worlds (List ℕ) (λ w. is_world w ≡ true) world_of spelled truths keys are.is_one are.of_spelled are.spells_keys are.exact

pub returns-clause-least : goal.returns-clause-least
returns-clause-least c = λ is_world world_of spelled truths keys are.
    least-worlds (List ℕ) (λ w. is_world w ≡ true) world_of spelled truths keys are.is_one are.of_spelled are.spells_keys are.exact
