-- What is counted of an event.
use Rattle.std.proofs.Common.{◌≡◌, ◌+◌, List, [], ◌∷◌, refl, subst}
use Rattle.rsml_syntax.specs.declared.syntax.Spec.{Spec}
use Rattle.rsml_syntax.specs.declared.world.World.{World}
use Rattle.rsml_meaning.specs.Words.{Instance}
use Rattle.rsml_meaning.specs.EventLines.{Message}
use Rattle.rsml_meaning.specs.Runs.{Reaction, latched}
use Rattle.rsml_meaning.specs.Steps.{IsStep}
use Rattle.run_counts.specs.declared.counts.Counts.{Counts}
use Rattle.run_counts.specs.Series.{StepIsCounted, EventIsCounted}
use Rattle.run_counts.proofs.SumLemmas.{made, one_reaction}

-- a message that is latched, and a step that is counted, are a reaction
pub event_counted : (s : Spec) (m : Message) (w w₁ w' : World) (present : List Instance) (c c' c'' : Counts)
    → w₁ ≡ latched s w m → present ≡ m.receive.raised ∷ [] → StepIsCounted s w₁ present w' c c' → c'' ≡ made (c'.events + 1) c'.rounds c'.takes c'.moves
    → EventIsCounted s m w w' c c''
event_counted s m w w₁ w' present c c' c'' is_latched is_raised step more =
    let r : Reaction = record { receive = m.receive.receive; rounds = step.rounds; world = w' } in
    record {
      reaction = r;
      is = record {
        receive = refl;
        step = subst (λ (es : List Instance). IsStep s (latched s w m) es step.rounds w') is_raised (subst (λ (v : World). IsStep s v present step.rounds w') is_latched step.is);
      };
      leaves = refl;
      counted = one_reaction c c' c'' r step.counted more;
    }
