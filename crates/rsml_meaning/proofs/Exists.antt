-- The computed micro-step is one, and the computed run is one where its steps end.
use Rattle.std.proofs.Common.{◌≡◌, ℕ, zero, suc, Bool, true, false, List, [], ◌∷◌, map, filter_map, zip, ℤ, pos, refl, sym, ap, subst, true≢false, inl, inr}
use Rattle.std.specs.List.{AllZip}
use Rattle.std.specs.Cmp.{first_so, second_so}
use Rattle.rsml_syntax.specs.declared.syntax.Spec.{Spec}
use Rattle.rsml_syntax.specs.declared.world.World.{World}
use Rattle.rsml_syntax.specs.declared.syntax.Value.{Value}
use Rattle.rsml_syntax.specs.declared.syntax.Value.TheVariants as values
use Rattle.rsml_syntax.specs.declared.syntax.Answer.{Answer}
use Rattle.rsml_syntax.specs.declared.syntax.Answer.TheVariants as answers
use Rattle.rsml_syntax.specs.limits.Comparisons.{Indices}
use Rattle.rsml_meaning.specs.Words.{Each, IsOne, AllThree, Instance}
use Rattle.rsml_meaning.specs.Instances.{Component, components}
use Rattle.rsml_meaning.specs.Active.{child_place}
use Rattle.rsml_meaning.specs.Truth.{View, view, within, instance, Gives}
use Rattle.rsml_meaning.specs.Transitions.{TransitionInstance}
use Rattle.rsml_meaning.specs.Interfaces.{SendCaseInstance}
use Rattle.rsml_meaning.specs.Steps.{Micro, Sent, IsValue, AreValues, outcomes, or_kept, given_by, enabled_transitions, enabled_sends, raised_by, IsRound, IsStep}
use Rattle.rsml_meaning.specs.EventLines.{Bytes, Message}
use Rattle.rsml_meaning.specs.EventFiles.{messages, lines_of}
use Rattle.rsml_meaning.specs.Runs.{first_world, latched, IsRunFrom}
use Rattle.rsml_meaning.specs.Texts.{Text}
use Rattle.rsml_meaning.specs.Trace.{whole_trace}
use Rattle.rsml_meaning.proofs.Computed.{first_or, value_in, values_in, sent_in, sent_by, choice_after, world_after, round_by, rounds_from, run_from, run_of, ends_within, all_end, HasTrace}

-- Values.

gives_first : (v : View) (f : Instance) (xs : List ℤ) → v.gives f ≡ xs → Gives v f (first_or (pos 0) xs)
gives_first v f [] e = inr (e, refl)
gives_first v f (x ∷ xs) e = inl (subst (λ ys. IsOne x ys) (sym e) (inl refl))

value_right : (v : View) (r : Indices) (x : Value) → IsValue v r x (value_in v r x)
value_right v r (values.Sum x) = refl
value_right v r (values.Function f) = gives_first v (instance v.names r f) (v.gives (instance v.names r f)) refl

values_right : (v : View) (r : Indices) (xs : List Value) → AllZip (IsValue v r) xs (map (value_in v r) xs)
values_right v r [] = tt
values_right v r (x ∷ xs) = (value_right v r x, values_right v r xs)

answer_right : (v : View) (r : Indices) (x : Answer) → AreValues v r x (values_in v r x)
answer_right v r answers.Quiet = refl
answer_right v r (answers.Values xs) = values_right v r xs

all_right : (v : View) (cs : List SendCaseInstance) → Each (λ q. AreValues v (within q.send_case.send.index) q.send_case.answer q.values) (map (sent_in v) cs)
all_right v [] = tt
all_right v (c ∷ cs) = (answer_right v (within c.send.index) c.answer, all_right v cs)

cases_kept : (v : View) (cs : List SendCaseInstance) → map (λ (q : Sent). q.send_case) (map (sent_in v) cs) ≡ cs
cases_kept v [] = refl
cases_kept v (c ∷ cs) = ap (λ r. c ∷ r) (cases_kept v cs)

-- Children.

-- as many choices as components
abbrev pub fits : List Component → List ℕ → Bool
fits [] [] = true
fits (c ∷ cs) (n ∷ ns) = fits cs ns
fits _ _ = false

outcome_first : (n : ℕ) (ms : List ℕ) → IsOne (first_or n (or_kept n ms)) (or_kept n ms)
outcome_first n [] = inl refl
outcome_first n (m ∷ ms) = inl refl

choices_right : (ts : List TransitionInstance) (cs : List Component) (ns : List ℕ) → fits cs ns ≡ true
    → AllThree (λ c old new. IsOne new (outcomes ts c old)) cs ns (map (choice_after ts) (zip cs ns))
choices_right ts [] [] h = tt
choices_right ts (c ∷ cs) (n ∷ ns) h = (outcome_first n (filter_map (given_by c) ts), choices_right ts cs ns h)
choices_right ts [] (n ∷ ns) h = absurd (true≢false (sym h))
choices_right ts (c ∷ cs) [] h = absurd (true≢false (sym h))

still_fit : (ts : List TransitionInstance) (cs : List Component) (ns : List ℕ) → fits cs ns ≡ true → fits cs (map (choice_after ts) (zip cs ns)) ≡ true
still_fit ts [] [] h = refl
still_fit ts (c ∷ cs) (n ∷ ns) h = still_fit ts cs ns h
still_fit ts [] (n ∷ ns) h = absurd (true≢false (sym h))
still_fit ts (c ∷ cs) [] h = absurd (true≢false (sym h))

first_fits : (cs : List Component) → fits cs (map (λ c. child_place c c.default) cs) ≡ true
first_fits [] = refl
first_fits (c ∷ cs) = first_fits cs

-- Micro-steps, steps and runs.

abbrev taken_in : Spec → World → List Instance → List TransitionInstance
taken_in s w present = enabled_transitions s (view s w) present

abbrev after : Spec → World → List Instance → World
after s w present = world_after s w (taken_in s w present)

pub micro_is : (s : Spec) (w : World) (present raised : List Instance) → fits (components s) w.choices ≡ true → raised ≡ raised_by s (taken_in s w present)
    → Micro s w present (taken_in s w present) (sent_by s (view s w) present) (after s w present) raised
micro_is s w present raised h e = record {
  all_taken = refl;
  all_sent = cases_kept (view s w) (enabled_sends s (view s w) present);
  values = all_right (view s w) (enabled_sends s (view s w) present);
  children = choices_right (taken_in s w present) (components s) w.choices h;
  numbers = refl;
  all_raised = e;
}

round_is : (s : Spec) (w : World) (present raised : List Instance) → fits (components s) w.choices ≡ true → raised ≡ raised_by s (taken_in s w present)
    → IsRound s w present (round_by w present (taken_in s w present) (sent_by s (view s w) present)) (after s w present) raised
round_is s w present raised h e = record { world = refl; events = refl; micro = micro_is s w present raised h e }

not_empty : (f : Instance) (fs : List Instance) → f ∷ fs ≡ [] → ⊥
not_empty f fs e = cc

abbrev IsStepFrom : ℕ → Spec → World → List Instance → Type 0
IsStepFrom n s w present = IsStep s w present (rounds_from n s w present).0 (rounds_from n s w present).1

one_more : (n : ℕ) (s : Spec) (w : World) (e : Instance) (es raised : List Instance) → fits (components s) w.choices ≡ true
    → raised ≡ raised_by s (taken_in s w (e ∷ es)) → ends_within n s (after s w (e ∷ es)) raised ≡ true
    → ((f : Instance) (fs : List Instance) → ends_within n s (after s w (e ∷ es)) (f ∷ fs) ≡ true → IsStepFrom n s (after s w (e ∷ es)) (f ∷ fs))
    → IsStep s w (e ∷ es) (round_by w (e ∷ es) (taken_in s w (e ∷ es)) (sent_by s (view s w) (e ∷ es)) ∷ (rounds_from n s (after s w (e ∷ es)) raised).0) (rounds_from n s (after s w (e ∷ es)) raised).1
one_more zero s w e es [] h q ends more = round_is s w (e ∷ es) [] h q
one_more (suc n) s w e es [] h q ends more = round_is s w (e ∷ es) [] h q
one_more zero s w e es (f ∷ fs) h q ends more = absurd (true≢false (sym ends))
one_more (suc n) s w e es (f ∷ fs) h q ends more = (after s w (e ∷ es), f ∷ fs, round_is s w (e ∷ es) (f ∷ fs) h q, not_empty f fs, more f fs ends)

pub step_is : (n : ℕ) (s : Spec) (w : World) (e : Instance) (es : List Instance) → fits (components s) w.choices ≡ true
    → ends_within n s w (e ∷ es) ≡ true → IsStepFrom n s w (e ∷ es)
step_is zero s w e es h ends = absurd (true≢false (sym ends))
step_is (suc n) s w e es h ends =
    one_more n s w e es (raised_by s (taken_in s w (e ∷ es))) h refl ends
    (λ f fs more. step_is n s (after s w (e ∷ es)) f fs (still_fit (taken_in s w (e ∷ es)) (components s) w.choices h) more)

left_fits : (n : ℕ) (s : Spec) (w : World) (present : List Instance) → fits (components s) w.choices ≡ true → fits (components s) (rounds_from n s w present).1.choices ≡ true
left_fits zero s w [] h = h
left_fits (suc n) s w [] h = h
left_fits zero s w (e ∷ es) h = h
left_fits (suc n) s w (e ∷ es) h =
    left_fits n s (after s w (e ∷ es)) (raised_by s (taken_in s w (e ∷ es))) (still_fit (taken_in s w (e ∷ es)) (components s) w.choices h)

pub run_is : (n : ℕ) (s : Spec) (w : World) (ms : List Message) → fits (components s) w.choices ≡ true → all_end n s w ms ≡ true → IsRunFrom s w ms (run_from n s w ms)
run_is n s w [] h ends = tt
run_is n s w (m ∷ ms) h ends =
    let first = first_so (ends_within n s (latched s w m) (m.receive.raised ∷ [])) (all_end n s (rounds_from n s (latched s w m) (m.receive.raised ∷ [])).1 ms) ends in
    let rest = second_so (ends_within n s (latched s w m) (m.receive.raised ∷ [])) (all_end n s (rounds_from n s (latched s w m) (m.receive.raised ∷ [])).1 ms) ends in (
      record { receive = refl; step = step_is n s (latched s w m) m.receive.raised [] h first },
      run_is n s (rounds_from n s (latched s w m) (m.receive.raised ∷ [])).1 ms (left_fits n s (latched s w m) (m.receive.raised ∷ []) h) rest,
    )

-- the trace of the computed run is the trace of a run, where each step ends within 8 rounds
pub traced : (s : Spec) (content : Bytes) (text : Text) → all_end 8 s (first_world s) (messages s (lines_of content)) ≡ true
    → whole_trace s (run_of s (messages s (lines_of content))) ≡ text → HasTrace s content text
traced s content text ends e = record {
  run = run_of s (messages s (lines_of content));
  is_run = run_is 8 s (first_world s) (messages s (lines_of content)) (first_fits (components s)) ends;
  trace = e;
}
