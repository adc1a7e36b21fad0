-- Rounds in series, and what is counted of them.
use Rattle.std.proofs.Common.{◌≡◌, ◌≢◌, List, [], ◌∷◌, ◌++◌, refl, ap, ◌∙◌, subst}
use Rattle.rsml_syntax.specs.declared.syntax.Spec.{Spec}
use Rattle.rsml_syntax.specs.declared.world.World.{World}
use Rattle.rsml_meaning.specs.Words.{Instance}
use Rattle.rsml_meaning.specs.Steps.{Round, IsRound, IsStep}
use Rattle.run_counts.specs.declared.counts.Counts.{Counts}
use Rattle.run_counts.specs.Sums.{with_rounds}
use Rattle.run_counts.specs.Series.{RoundIsCounted, StepIsCounted}
use Rattle.run_counts.proofs.SumLemmas.{more_rounds, no_rounds}

-- the rounds are micro-steps in series, each raises an event, and the last leaves this world and these events
abbrev pub AreRounds : Spec → World → List Instance → List Round → World → List Instance → Type 0
AreRounds s w present [] w' raised = (w' ≡ w) × (raised ≡ present)
AreRounds s w present (r ∷ rs) w' raised = (w₁ : World) × (es : List Instance) × IsRound s w present r w₁ es × (es ≢ []) × AreRounds s w₁ es rs w' raised

one_later : (s : Spec) (w : World) (present : List Instance) (rs : List Round) (w' : World) (es : List Instance) (r : Round) (v : World) (raised : List Instance)
    → AreRounds s w present rs w' es → IsRound s w' es r v raised → raised ≢ [] → AreRounds s w present (rs ++ r ∷ []) v raised
one_later s w present [] w' es r v raised a i ne =
    (v, raised, subst (λ z. IsRound s w z r v raised) a.1 (subst (λ z. IsRound s z es r v raised) a.0 i), ne, (refl, refl))
one_later s w present (q ∷ rs) w' es r v raised a i ne = (a.0, a.1, a.2, a.3, one_later s a.0 a.1 rs w' es r v raised a.4 i ne)

last_round : (s : Spec) (w : World) (present : List Instance) (rs : List Round) (w' : World) (es : List Instance) (r : Round) (v : World)
    → AreRounds s w present rs w' es → IsRound s w' es r v [] → IsStep s w present (rs ++ r ∷ []) v
last_round s w present [] w' es r v a i = subst (λ z. IsRound s w z r v []) a.1 (subst (λ z. IsRound s z es r v []) a.0 i)
last_round s w present (q ∷ []) w' es r v a i = (a.0, a.1, a.2, a.3, last_round s a.0 a.1 [] w' es r v a.4 i)
last_round s w present (q ∷ p ∷ rs) w' es r v a i = (a.0, a.1, a.2, a.3, last_round s a.0 a.1 (p ∷ rs) w' es r v a.4 i)

-- The rounds so far.
pub record SoFar (s : Spec) (w : World) (present : List Instance) (w' : World) (raised : List Instance) (c c' : Counts) : Type 0 where
  pub rounds : List Round
  pub are : AreRounds s w present rounds w' raised
  pub counted : c' ≡ with_rounds c rounds

-- none so far
pub no_round : (s : Spec) (w : World) (present : List Instance) (c : Counts) → SoFar s w present w present c c
no_round s w present c = record { rounds = []; are = (refl, refl); counted = no_rounds c }

module _ (s : Spec) (w : World) (present : List Instance) (w' : World) (es : List Instance) (v : World) (raised : List Instance) (c c' c'' : Counts) where
  counts_after : (so : SoFar s w present w' es c c') (r : RoundIsCounted s w' es v raised c' c'') → c'' ≡ with_rounds c (so.rounds ++ r.round ∷ [])
  counts_after so r = r.counted ∙ ap (λ (d : Counts). with_rounds d (r.round ∷ [])) so.counted ∙ more_rounds c so.rounds (r.round ∷ [])

  -- one more that raises an event
  pub one_more : SoFar s w present w' es c c' → RoundIsCounted s w' es v raised c' c'' → raised ≢ [] → SoFar s w present v raised c c''
  one_more so r ne = record {
    rounds = so.rounds ++ r.round ∷ [];
    are = one_later s w present so.rounds w' es r.round v raised so.are r.is ne;
    counted = counts_after so r;
  }

  -- one that raises none ends the step
  pub the_last : SoFar s w present w' es c c' → RoundIsCounted s w' es v raised c' c'' → raised ≡ [] → StepIsCounted s w present v c c''
  the_last so r none = record {
    rounds = so.rounds ++ r.round ∷ [];
    is = last_round s w present so.rounds w' es r.round v so.are (subst (λ z. IsRound s w' es r.round v z) none r.is);
    counted = counts_after so r;
  }
