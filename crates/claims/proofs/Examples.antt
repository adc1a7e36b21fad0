-- Claims about two states side by side that look at each other: one that is inductive, and one that has a break.
use Rattle.std.proofs.Common.{◌≡◌, ℕ, zero, suc, Bool, true, false, ◌&&◌, List, [], ◌∷◌, ℤ, cond, filter, nat_lt, ltb-true, refl, sym, ap, ◌∙◌, subst, true≢false, inl, inr, ◌⊎◌, arith}
use Rattle.std.specs.Prelude.{codes}
use Rattle.std.specs.Str.{is_utf8, chars}
use Rattle.std.specs.Cmp.{first_so, second_so}
use Rattle.std.specs.Cmp.Lexicographic.{pointwise}
use Rattle.rsml_syntax.specs.declared.world.World.{World}
use Rattle.rsml_meaning.specs.Words.{Instance, has}
use Rattle.rsml_meaning.specs.Cells.{InputCell, is_of}
use Rattle.rsml_meaning.specs.Worlds.{is_world}
use Rattle.rsml_meaning.specs.Certified.{Certified}
use Rattle.rsml_meaning.specs.Instances.{events}
use Rattle.rsml_meaning.specs.Truth.{view}
use Rattle.rsml_meaning.specs.Steps.{enabled_transitions, raised_by}
use Rattle.rsml_meaning.specs.EventFiles.{Line, lines_of}
use Rattle.rsml_meaning.specs.Runs.{Reaction, IsRun}
use Rattle.rsml_meaning.proofs.Written.{T, F, in_state, name, phrase, plain, row}
use Rattle.rsml_meaning.proofs.Reported.{certified}
use Rattle.rsml_meaning.proofs.values.Pair.{pair}
use Rattle.rsml_meaning.specs.Scoped.{WellScoped}
use Rattle.rsml_meaning.proofs.rules.Scoped.{rules_give_scopes}
use Rattle.rsml_meaning.specs.MicroSteps.{Result, IsResult}
use Rattle.rsml_meaning.proofs.MicroSteps.{rounds_are_determinate}
use Rattle.claim_syntax.specs.declared.claim.Claim.{Claim}
use Rattle.claims.specs.Claims.{all_true}
use Rattle.claims.specs.Inductive.{Moment, AreInductive}
use Rattle.claims.specs.Breaks.{IsBreak}
use Rattle.claims.specs.Throughout.{run_worlds, AlwaysTrue}
use Rattle.claims.proofs.NoBreak.{inductive_have_no_break, no_break_is_inductive}
use Rattle.claims.proofs.Runs.{inductive_claims_hold}

-- both have moved or neither has:
--   in Pair.L.L0 | T F
--   in Pair.R.R0 | T F
abbrev in_step : List Claim
in_step = record {
  name = name "In_Step";
  rows = row (phrase (in_state (plain "Pair" ∷ plain "L" ∷ plain "L0" ∷ []))) (T ∷ F ∷ []) ∷ row (phrase (in_state (plain "Pair" ∷ plain "R" ∷ plain "R0" ∷ []))) (T ∷ F ∷ []) ∷ [];
} ∷ []

-- the left one has not moved:
--   in Pair.L.L0 | T
abbrev at_rest : List Claim
at_rest = record { name = name "At_Rest"; rows = row (phrase (in_state (plain "Pair" ∷ plain "L" ∷ plain "L0" ∷ []))) (T ∷ []) ∷ [] } ∷ []

abbrev world : ℕ → ℕ → World
world l r = record { choices = l ∷ r ∷ []; cells = [] }

abbrev tick : Instance
tick = record { name = name "Tick"; index = 0 }

-- in two of the four worlds they are in step
in_step_is_no_law_of_worlds : (all_true pair in_step (world 0 0) ≡ true) × (all_true pair in_step (world 0 1) ≡ false) × (all_true pair in_step (world 1 0) ≡ false) × (all_true pair in_step (world 1 1) ≡ true)
in_step_is_no_law_of_worlds = (refl, refl, refl, refl)

-- what the events come to in a world
abbrev result : List Instance → World → World → Result
result present w v = record {
  taken = enabled_transitions pair (view pair w) present;
  sent = [];
  world = v;
  raised = raised_by pair (enabled_transitions pair (view pair w) present);
}

both_move : IsResult pair (world 0 0) (tick ∷ []) (result (tick ∷ []) (world 0 0) (world 1 1))
both_move = record { all_taken = refl; all_sent = refl; values = tt; children = (inl refl, (inl refl, tt)); numbers = refl; all_raised = refl }

at_rest_has_a_break : IsBreak pair at_rest (record { start = tick; round = 1; present = tick ∷ []; world = world 0 0 })
at_rest_has_a_break = record {
  may_come = record { external = refl; ends = ((tick ∷ [], refl, refl, refl), tt); is_world = refl };
  listed = refl;
  before = refl;
  result = result (tick ∷ []) (world 0 0) (world 1 1);
  comes_to = both_move;
  after = refl;
}

at_rest_is_not_inductive : AreInductive pair at_rest → ⊥
at_rest_is_not_inductive h = inductive_have_no_break pair at_rest h (record { start = tick; round = 1; present = tick ∷ []; world = world 0 0 }) at_rest_has_a_break

-- The worlds of a run of one event: the first one, the same with the event latched, and the one after the micro-step.

abbrev beat : Reaction
beat = record {
  receive = record { name = name "Beat"; index = 0 };
  rounds = record { world = world 0 0; present = tick ∷ []; taken = enabled_transitions pair (view pair (world 0 0)) (tick ∷ []); sent = [] } ∷ [];
  world = world 1 1;
}

beat_is_a_run : IsRun pair (lines_of (codes "Beat\n")) (beat ∷ [])
unfolding is_utf8 chars lib.Utf8.encode
beat_is_a_run = (record { receive = refl; step = record { world = refl; events = refl; micro = both_move } }, tt)

it_has_three_worlds : run_worlds pair (beat ∷ []) ≡ world 0 0 ∷ world 0 0 ∷ world 1 1 ∷ []
it_has_three_worlds = refl

-- In step they stay.

abbrev fits : InputCell → ℤ → Bool
fits c n = is_of c.numbers n

pair_is_scoped : WellScoped pair
pair_is_scoped = rules_give_scopes pair refl

pair_is_certified : Certified pair
pair_is_certified = certified 1 pair refl

first_two : (n : ℕ) → nat_lt n 2 ≡ true → (n ≡ 0) ⊎ (n ≡ 1)
first_two zero h = inl refl
first_two (suc zero) h = inr refl
first_two (suc (suc n)) h = absurd (let l = ltb-true (suc (suc n)) 2 h in omega (arith, l))

-- a world in which they are in step is one of two
abbrev IsEither : World → Type 0
IsEither w = (w ≡ world 0 0) ⊎ (w ≡ world 1 1)

of_places : (l r : ℕ) → (l ≡ 0) ⊎ (l ≡ 1) → (r ≡ 0) ⊎ (r ≡ 1) → all_true pair in_step (world l r) ≡ true → IsEither (world l r)
of_places l r (inl a) (inl b) k = inl (λ t. world (a t) (b t))
of_places l r (inl a) (inr b) k = absurd (true≢false (sym k ∙ (λ t. all_true pair in_step (world (a t) (b t)))))
of_places l r (inr a) (inl b) k = absurd (true≢false (sym k ∙ (λ t. all_true pair in_step (world (a t) (b t)))))
of_places l r (inr a) (inr b) k = inr (λ t. world (a t) (b t))

abbrev of_parts : List ℕ → List ℤ → World
of_parts ns zs = record { choices = ns; cells = zs }

is_either : (ns : List ℕ) (zs : List ℤ) → is_world pair (of_parts ns zs) ≡ true → all_true pair in_step (of_parts ns zs) ≡ true → IsEither (of_parts ns zs)
is_either [] zs h k = absurd (true≢false (sym h))
is_either (l ∷ []) zs h k = absurd (true≢false (sym (second_so (nat_lt l 2) false (first_so (nat_lt l 2 && false) (pointwise fits [] zs) h))))
is_either (l ∷ r ∷ []) [] h k =
    let places = first_so (nat_lt l 2 && (nat_lt r 2 && true)) true h in
    of_places l r (first_two l (first_so (nat_lt l 2) (nat_lt r 2 && true) places)) (first_two r (first_so (nat_lt r 2) true (second_so (nat_lt l 2) (nat_lt r 2 && true) places))) k
is_either (l ∷ r ∷ []) (z ∷ zs) h k = absurd (true≢false (sym (second_so (nat_lt l 2 && (nat_lt r 2 && true)) false h)))
is_either (l ∷ r ∷ n ∷ ns) zs h k =
    let places = first_so (nat_lt l 2 && (nat_lt r 2 && false)) (pointwise fits [] zs) h in
    absurd (true≢false (sym (second_so (nat_lt r 2) false (second_so (nat_lt l 2) (nat_lt r 2 && false) places))))

-- events in their order: the one there is, or none
tick_or_none : (present : List Instance) → present ≡ filter (has present) (events pair) → (present ≡ tick ∷ []) ⊎ (present ≡ [])
tick_or_none present h = by_test (has present tick) h
  where
    by_test : (b : Bool) → present ≡ cond b (tick ∷ []) [] → (present ≡ tick ∷ []) ⊎ (present ≡ [])
    by_test true e = inl e
    by_test false e = inr e

-- some micro-step leaves a world in which they are in step
abbrev StaysInStep : World → List Instance → Type 0
StaysInStep w present = (r : Result) × IsResult pair w present r × (all_true pair in_step r.world ≡ true)

stays_in_step : (w : World) (present : List Instance) → IsEither w → (present ≡ tick ∷ []) ⊎ (present ≡ []) → StaysInStep w present
stays_in_step w present (inl e) (inl f) = subst (λ z. StaysInStep z present) (sym e) (subst (StaysInStep (world 0 0)) (sym f) (result (tick ∷ []) (world 0 0) (world 1 1), both_move, refl))
stays_in_step w present (inl e) (inr f) = subst (λ z. StaysInStep z present) (sym e) (subst (StaysInStep (world 0 0)) (sym f)
    (result [] (world 0 0) (world 0 0), record { all_taken = refl; all_sent = refl; values = tt; children = (inl refl, (inl refl, tt)); numbers = refl; all_raised = refl }, refl))
stays_in_step w present (inr e) (inl f) = subst (λ z. StaysInStep z present) (sym e) (subst (StaysInStep (world 1 1)) (sym f)
    (result (tick ∷ []) (world 1 1) (world 1 1), record { all_taken = refl; all_sent = refl; values = tt; children = (inl refl, (inl refl, tt)); numbers = refl; all_raised = refl }, refl))
stays_in_step w present (inr e) (inr f) = subst (λ z. StaysInStep z present) (sym e) (subst (StaysInStep (world 1 1)) (sym f)
    (result [] (world 1 1) (world 1 1), record { all_taken = refl; all_sent = refl; values = tt; children = (inl refl, (inl refl, tt)); numbers = refl; all_raised = refl }, refl))

no_break : (m : Moment) → IsBreak pair in_step m → ⊥
no_break m b =
    let w = m.world in
    let one = (rounds_are_determinate pair w m.start m.round m.present pair_is_scoped pair_is_certified b.may_come.is_world b.may_come.ends).result in
    let q = stays_in_step w m.present (is_either w.choices w.cells b.may_come.is_world b.before) (tick_or_none m.present b.listed) in
    let same : b.result ≡ q.0 = one.2 b.result b.comes_to ∙ sym (one.2 q.0 q.1) in
    true≢false (sym q.2 ∙ ap (λ z. all_true pair in_step z.world) (sym same) ∙ b.after)

pub in_step_is_inductive : AreInductive pair in_step
in_step_is_inductive = no_break_is_inductive pair in_step pair_is_scoped refl no_break

-- so they are in step throughout every run
in_step_in_every_run : (lines : List Line) (rs : List Reaction) → IsRun pair lines rs → AlwaysTrue pair in_step rs
in_step_in_every_run = inductive_claims_hold pair in_step pair_is_scoped (refl, tt) in_step_is_inductive
