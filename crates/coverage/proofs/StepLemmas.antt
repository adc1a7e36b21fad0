-- Rounds of a step one after another, which are counted.
use Rattle.std.proofs.Common.{◌≡◌, ◌≢◌, ℕ, suc, ◌+◌, ◌<◌, ◌≤◌, ◌^◌, List, [], ◌∷◌, ◌++◌, map, length, count_by, refl, sym, ap, ◌∙◌, subst, arith, add-one, append-nil, append_assoc, length-append}
use Rattle.std.proofs.lemmas.List.Sums.{count_by-le-length}
use Rattle.rsml_syntax.specs.declared.syntax.Spec.{Spec}
use Rattle.rsml_syntax.specs.declared.world.World.{World}
use Rattle.rsml_meaning.specs.Words.{Each, Instance}
use Rattle.rsml_meaning.specs.Chains.{Ends}
use Rattle.rsml_meaning.specs.Truth.{view}
use Rattle.rsml_meaning.specs.Transitions.{transitions}
use Rattle.rsml_meaning.specs.Interfaces.{send_cases}
use Rattle.rsml_meaning.specs.Steps.{Round}
use Rattle.micro_step.specs.Micros.{enabled_numbers, sending_numbers}
use Rattle.reactions.specs.Stepping.{LastRound, RoundIsDone}
use Rattle.simulator.proofs.RoundLemmas.{AreRounds, more_rounds, are_step}
use Rattle.coverage.specs.Coverage.{Reacting, Coverage, of_transition, of_case, reacts, covered, coverage}
use Rattle.coverage.specs.Rounds.{HasAllNumbers, IsLast}
use Rattle.coverage.specs.Steps.{HasRoom, StepIsCounted}

-- The last round.

pub all_numbers : (s : Spec) (w : World) (present : List Instance) (l : LastRound) (v : World) (raised : List Instance) → RoundIsDone s w present l v raised
    → HasAllNumbers s l
all_numbers s w present l v raised d =
    let here : w ≡ l.world = sym d.began in
    let are : present ≡ l.present = sym d.is.events ∙ d.last_is.present_are in
    record {
      all_taken = d.all_taken ∙ (λ i. enabled_numbers s (view s (here i)) (are i));
      all_sent = d.all_sent ∙ (λ i. sending_numbers s (view s (here i)) (are i));
    }

is_last : (s : Spec) (w : World) (present : List Instance) (l : LastRound) (v : World) (raised : List Instance) (d : RoundIsDone s w present l v raised) → IsLast l d.round
is_last s w present l v raised d = record { world = d.is.world ∙ sym d.began; present = d.last_is.present_are }

-- no count is above that of the rounds
pub few_counted : {A : Type 0} (s : Spec) (of : A → Reacting) (rs : List Round) (n : ℕ) → length rs < n → (xs : List A)
    → Each (λ c. c.count < n) (map (λ a. covered s rs (of a)) xs)
few_counted s of rs n l [] = tt
few_counted s of rs n l (a ∷ xs) =
    let most = count_by-le-length (reacts s (of a)) rs in
    let here : count_by (reacts s (of a)) rs < n = omega (arith, most, l) in
    (here, few_counted s of rs n l xs)

-- What is known after so many rounds, each of which was counted.
pub record Turned (s : Spec) (w : World) (first : List Instance) (count : ℕ) (w' : World) (present : List Instance) (c c' : Coverage) : Type 0 where
  pub rounds : List Round
  pub many : length rounds ≡ count
  pub are : AreRounds s w first rounds w' present
  pub longer : (x : Instance) → Each (Ends s x 1) first → Each (Ends s x (suc count)) present
  pub counted : (rs : List Round) → c ≡ coverage s rs → c' ≡ coverage s (rs ++ rounds)

module _ (s : Spec) (w : World) (first : List Instance) (c : Coverage) where
  -- before the first round
  pub no_turn : Turned s w first 0 w first c c
  no_turn = record { rounds = []; many = refl; are = (refl, refl); longer = λ x e. e; counted = λ rs e. e ∙ ap (coverage s) (sym (append-nil rs)) }

  module _ (k : ℕ) (w' : World) (present : List Instance) (c' : Coverage) (t : Turned s w first k w' present c c') where
    -- one more round
    pub next_turn : (l : LastRound) (v : World) (raised : List Instance) (c'' : Coverage) → present ≢ [] → RoundIsDone s w' present l v raised
        → ((x : Instance) (n : ℕ) → Each (Ends s x n) present → Each (Ends s x (suc n)) raised)
        → ((rs : List Round) (r : Round) → IsLast l r → c' ≡ coverage s rs → c'' ≡ coverage s (rs ++ r ∷ []))
        → Turned s w first (k + 1) v raised c c''
    next_turn l v raised c'' some d longer counted = record {
      rounds = t.rounds ++ d.round ∷ [];
      many = let long = t.many in omega (arith, long, length-append t.rounds (d.round ∷ []));
      are = more_rounds s w first t.rounds w' present d.round v raised t.are some d.is;
      longer = λ x e.
          let P : ℕ → Type 0 = λ n. Each (Ends s x (suc n)) raised in
          subst P (sym (add-one k)) (longer x (suc k) (t.longer x e));
      counted = λ rs e.
          counted (rs ++ t.rounds) d.round (is_last s w' present l v raised d) (t.counted rs e)
          ∙ ap (coverage s) (append_assoc rs t.rounds (d.round ∷ []));
    }

    -- no event is left
    pub step_of : present ≡ [] → first ≢ [] → k ≤ 1024 → StepIsCounted s w first w' c c'
    step_of none some few = record {
      rounds = t.rounds;
      is = are_step s w first t.rounds w' (subst (λ es. AreRounds s w first t.rounds w' es) none t.are) some;
      few = let many = t.many in omega (arith, many, few);
      counted = t.counted;
    }

    -- What is counted now, where there was room before.

    module _ (same : s ≡ c.spec) (room : HasRoom 1024 c) (few : k ≤ 1024) where
      counted_now : c' ≡ coverage s (room.rounds ++ t.rounds)
      counted_now = t.counted room.rounds (room.counted ∙ ap (λ (z : Spec). coverage z room.rounds) (sym same))

      few_now : length (room.rounds ++ t.rounds) < 2 ^ 63
      few_now = let many = t.many in let left = room.few in omega (arith, many, left, few, length-append room.rounds t.rounds)

      pub spec_now : c'.spec ≡ s
      spec_now = ap (λ (d : Coverage). d.spec) counted_now

      pub transitions_now : Each (λ d. d.count < 2 ^ 63) c'.transitions
      transitions_now = subst (λ (d : Coverage). Each (λ e. e.count < 2 ^ 63) d.transitions) (sym counted_now) (few_counted s of_transition (room.rounds ++ t.rounds) (2 ^ 63) few_now (transitions s))

      pub cases_now : Each (λ d. d.count < 2 ^ 63) c'.send_cases
      cases_now = subst (λ (d : Coverage). Each (λ e. e.count < 2 ^ 63) d.send_cases) (sym counted_now) (few_counted s of_case (room.rounds ++ t.rounds) (2 ^ 63) few_now (send_cases s))
