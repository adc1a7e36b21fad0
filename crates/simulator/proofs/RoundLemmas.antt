-- Rounds of a step one after another, and what is written of them.
use Rattle.std.proofs.Common.{◌≡◌, ◌≢◌, ℕ, suc, ◌+◌, ◌≤◌, List, [], ◌∷◌, ◌++◌, length, flat_map, Option, refl, sym, ap, ◌∙◌, subst, arith, add-one, append-nil, length-append}
use Rattle.std.proofs.lemmas.Grind.{flat_map-append}
use Rattle.rsml_syntax.specs.declared.syntax.Spec.{Spec}
use Rattle.rsml_syntax.specs.declared.world.World.{World}
use Rattle.rsml_meaning.specs.Words.{Each, Instance, numbered_from, numbered}
use Rattle.rsml_meaning.specs.Instances.{events, globals_of}
use Rattle.rsml_meaning.specs.Chains.{Ends}
use Rattle.rsml_meaning.specs.Certified.{Certified}
use Rattle.rsml_meaning.specs.Steps.{Round, IsRound, IsStep}
use Rattle.rsml_meaning.specs.Trace.{round_text}
use Rattle.rsml_meaning.specs.Scoped.{WellScoped}
use Rattle.text_writer.specs.Writes.{WriterState, Writes}
use Rattle.text_writer.proofs.WritingLemmas.{followed, alike, still}
use Rattle.reactions.specs.Stepping.{LastRound, IsExternal, RoundIsDone, WasRound}
use Rattle.reactions.proofs.ChainBounds.{none_ends, ends_one}
use Rattle.simulator.specs.helpers.Reacting.{StepIsWritten}

-- the rounds are micro-steps in series, each on some present events, and the last leaves this world and these events
abbrev pub AreRounds : Spec → World → List Instance → List Round → World → List Instance → Type 0
AreRounds s w present [] w' raised = (w' ≡ w) × (raised ≡ present)
AreRounds s w present (r ∷ rs) w' raised = (w₁ : World) × (es : List Instance) × IsRound s w present r w₁ es × (present ≢ []) × AreRounds s w₁ es rs w' raised

-- one more
pub more_rounds : (s : Spec) (w : World) (present : List Instance) (rs : List Round) (w' : World) (es : List Instance) (r : Round) (v : World) (raised : List Instance)
    → AreRounds s w present rs w' es → es ≢ [] → IsRound s w' es r v raised → AreRounds s w present (rs ++ r ∷ []) v raised
more_rounds s w present [] w' es r v raised a ne i =
    (v, raised, subst (λ z. IsRound s w z r v raised) a.1 (subst (λ z. IsRound s z es r v raised) a.0 i), (λ none. ne (a.1 ∙ none)), (refl, refl))
more_rounds s w present (q ∷ rs) w' es r v raised a ne i = (a.0, a.1, a.2, a.3, more_rounds s a.0 a.1 rs w' es r v raised a.4 ne i)

-- they are a step where no event is left
pub are_step : (s : Spec) (w : World) (present : List Instance) (rs : List Round) (w' : World) → AreRounds s w present rs w' [] → present ≢ [] → IsStep s w present rs w'
are_step s w present [] w' a ne = absurd (ne (sym a.1))
are_step s w present (r ∷ []) w' a ne = subst (λ z. IsRound s w present r w' z) (sym a.4.1) (subst (λ z. IsRound s w present r z a.1) (sym a.4.0) a.2)
are_step s w present (r ∷ q ∷ rs) w' a ne = (a.0, a.1, a.2, a.4.3, are_step s a.0 a.1 (q ∷ rs) w' a.4 a.4.3)

-- after as many rounds as there are events no event is left, as each ends a longer chain
pub none_left : (s : Spec) (first : List Instance) (k : ℕ) (present : List Instance) → WellScoped s → Certified s → IsExternal s first → length (events s) ≤ k
    → ((x : Instance) → Each (Ends s x 1) first → Each (Ends s x (suc k)) present) → present ≡ []
none_left s first k present scoped cert external l longer =
    let x = external.0 in
    let begins : Each (Ends s x 1) first =
    let P : List Instance → Type 0 = λ es. Each (Ends s x 1) es in
    subst P (sym external.2) (ends_one s x external.1, tt) in
    none_ends s scoped cert x (suc k) present (omega (arith, l)) (longer x begins)

-- Numbers.

numbered_last : (n : ℕ) (rs : List Round) (r : Round) → numbered_from n (rs ++ r ∷ []) ≡ numbered_from n rs ++ (n + length rs, r) ∷ []
numbered_last n [] r =
    let same : n ≡ n + 0 = omega arith in
    ap (λ (k : ℕ). (k, r) ∷ []) same
numbered_last n (q ∷ rs) r =
    let same : suc n + length rs ≡ n + suc (length rs) = omega arith in
    ap (λ (ys : List (ℕ × Round)). (n, q) ∷ ys) (numbered_last (suc n) rs r ∙ ap (λ (k : ℕ). numbered_from (suc n) rs ++ (k, r) ∷ []) same)

text_more : (s : Spec) (rs : List Round) (r : Round) (k : ℕ) → length rs ≡ k
    → flat_map (round_text (globals_of s)) (numbered rs) ++ round_text (globals_of s) (k + 1, r) ≡ flat_map (round_text (globals_of s)) (numbered (rs ++ r ∷ []))
text_more s rs r k long =
    let f = round_text (globals_of s) in
    let same : k + 1 ≡ 1 + length rs = omega (arith, long) in
    ap (λ (n : ℕ). flat_map f (numbered rs) ++ f (n, r)) same
    ∙ ap (λ (t : List ℕ). flat_map f (numbered rs) ++ t) (sym (append-nil (f (1 + length rs, r))))
    ∙ sym (ap (λ (ys : List (ℕ × Round)). flat_map f ys) (numbered_last 1 rs r) ∙ flat_map-append f (numbered rs) ((1 + length rs, r) ∷ []))

-- What is known after so many rounds, each of which was written.
pub record Turned (s : Spec) (w : World) (first : List Instance) (count : ℕ) (w' : World) (present : List Instance) (state : WriterState) (old : Option (List ℕ)) (state' : WriterState) (new : Option (List ℕ)) : Type 0 where
  pub rounds : List Round
  pub many : length rounds ≡ count
  pub are : AreRounds s w first rounds w' present
  pub writes : Writes state old (flat_map (round_text (globals_of s)) (numbered rounds)) state' new
  pub longer : (x : Instance) → Each (Ends s x 1) first → Each (Ends s x (suc count)) present

module _ (s : Spec) (w : World) (first : List Instance) where
  -- before the first round
  pub no_turn : (state : WriterState) (text : Option (List ℕ)) → Turned s w first 0 w first state text state text
  no_turn state text = record { rounds = []; many = refl; are = (refl, refl); writes = still state text; longer = λ x e. e }

  module _ (k : ℕ) (w' : World) (present : List Instance) (one two : WriterState) (old mid : Option (List ℕ)) (t : Turned s w first k w' present one old two mid) where
    -- one more round
    pub next_turn : (l : LastRound) (v : World) (raised : List Instance) (three : WriterState) (new : Option (List ℕ)) → present ≢ [] → RoundIsDone s w' present l v raised
        → ((r : Round) → WasRound s l r → Writes two mid (round_text (globals_of s) (k + 1, r)) three new)
        → ((x : Instance) (n : ℕ) → Each (Ends s x n) present → Each (Ends s x (suc n)) raised)
        → Turned s w first (k + 1) v raised one old three new
    next_turn l v raised three new some d put longer = record {
      rounds = t.rounds ++ d.round ∷ [];
      many = let long = t.many in omega (arith, long, length-append t.rounds (d.round ∷ []));
      are = more_rounds s w first t.rounds w' present d.round v raised t.are some d.is;
      writes = alike (text_more s t.rounds d.round k t.many) (followed t.writes (put d.round d.last_is));
      longer = λ x e.
          let P : ℕ → Type 0 = λ n. Each (Ends s x (suc n)) raised in
          subst P (sym (add-one k)) (longer x (suc k) (t.longer x e));
    }

    -- no event is left
    pub step_of : present ≡ [] → first ≢ [] → StepIsWritten s w first w' one old two mid
    step_of none some = record { rounds = t.rounds; is = are_step s w first t.rounds w' (subst (λ es. AreRounds s w first t.rounds w' es) none t.are) some; writes = t.writes }

    -- so it is after as many rounds as there are events
    pub none_after : WellScoped s → Certified s → IsExternal s first → length (events s) ≤ k → present ≡ []
    none_after scoped cert external l = none_left s first k present scoped cert external l t.longer

not_empty : (e : Instance) (es : List Instance) → e ∷ es ≡ [] → ⊥
not_empty e es h = cc

-- an external event is some
pub some_external : (s : Spec) (present : List Instance) → IsExternal s present → present ≢ []
some_external s present external none = not_empty external.0 [] (sym external.2 ∙ none)
