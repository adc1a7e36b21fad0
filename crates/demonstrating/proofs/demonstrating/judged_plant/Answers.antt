use Rattle.std.proofs.Common.{ℕ, List, ◌∙◌, subst}
use Rattle.judging.specs.Judgements.{IsJudgement}
use Rattle.demonstrating.proofs.demonstrating.judged_plant.Goals as goal

pub plant_in-requires-clause-judged : goal.plant_in-requires-clause-judged
plant_in-requires-clause-judged c =
    subst (λ (t : List ℕ). IsJudgement t c.in_ok-judgement.judgement) (c.as_bytes.ensures.value ∙ c.in_ok-text.ensures) c.in_ok-judgement.ensures
