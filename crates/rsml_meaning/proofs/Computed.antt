-- A run that is computed: of the children that a micro-step allows the first is taken, and of the values that a function gives the first.
use Rattle.std.specs.Prelude.{◌≡◌, ℕ, zero, suc, Bool, true, false, ◌&&◌, List, [], ◌∷◌, map, ℤ, pos, zip}
use Rattle.rsml_syntax.specs.declared.syntax.Spec.{Spec}
use Rattle.rsml_syntax.specs.declared.world.World.{World}
use Rattle.rsml_syntax.specs.declared.syntax.Value.{Value}
use Rattle.rsml_syntax.specs.declared.syntax.Value.TheVariants as values
use Rattle.rsml_syntax.specs.declared.syntax.Answer.{Answer}
use Rattle.rsml_syntax.specs.declared.syntax.Answer.TheVariants as answers
use Rattle.rsml_syntax.specs.limits.Comparisons.{Indices}
use Rattle.rsml_meaning.specs.Words.{Instance}
use Rattle.rsml_meaning.specs.Instances.{Component, components}
use Rattle.rsml_meaning.specs.Truth.{View, view, within, sum, instance}
use Rattle.rsml_meaning.specs.Transitions.{TransitionInstance}
use Rattle.rsml_meaning.specs.Interfaces.{SendCaseInstance}
use Rattle.rsml_meaning.specs.Steps.{outcomes, Sent, enabled_transitions, enabled_sends, raised_by, Round}
use Rattle.rsml_meaning.specs.EventLines.{Bytes, Message}
use Rattle.rsml_meaning.specs.EventFiles.{lines_of}
use Rattle.rsml_meaning.specs.Runs.{first_world, latched, Reaction, IsRun}
use Rattle.rsml_meaning.specs.Texts.{Text}
use Rattle.rsml_meaning.specs.Trace.{whole_trace}

abbrev pub first_or : {A : Type 0} → A → List A → A
first_or y [] = y
first_or y (x ∷ xs) = x

abbrev pub value_in : View → Indices → Value → ℤ
value_in v r (values.Sum x) = sum v r x
value_in v r (values.Function f) = first_or (pos 0) (v.gives (instance v.names r f))

abbrev pub values_in : View → Indices → Answer → List ℤ
values_in v r answers.Quiet = []
values_in v r (answers.Values xs) = map (value_in v r) xs

abbrev pub sent_in : View → SendCaseInstance → Sent
sent_in v c = record { send_case = c; values = values_in v (within c.send.index) c.answer }

abbrev pub sent_by : Spec → View → List Instance → List Sent
sent_by s v present = map (sent_in v) (enabled_sends s v present)

abbrev pub choice_after : List TransitionInstance → Component × ℕ → ℕ
choice_after taken c = first_or c.1 (outcomes taken c.0 c.1)

abbrev pub world_after : Spec → World → List TransitionInstance → World
world_after s w taken = record { choices = map (choice_after taken) (zip (components s) w.choices); cells = w.cells }

abbrev pub round_by : World → List Instance → List TransitionInstance → List Sent → Round
round_by w present taken sent = record { world = w; present = present; taken = taken; sent = sent }

-- at most n rounds from a world with present events, and the world that they leave
abbrev pub rounds_from : ℕ → Spec → World → List Instance → List Round × World
rounds_from n s w [] = ([], w)
rounds_from zero s w (e ∷ es) = ([], w)
rounds_from (suc n) s w (e ∷ es) =
    let v = view s w in
    let taken = enabled_transitions s v (e ∷ es) in
    let rest = rounds_from n s (world_after s w taken) (raised_by s taken) in
    (round_by w (e ∷ es) taken (sent_by s v (e ∷ es)) ∷ rest.0, rest.1)

abbrev pub run_from : ℕ → Spec → World → List Message → List Reaction
run_from n s w [] = []
run_from n s w (m ∷ ms) =
    let done = rounds_from n s (latched s w m) (m.receive.raised ∷ []) in
    record { receive = m.receive.receive; rounds = done.0; world = done.1 } ∷ run_from n s done.1 ms

-- the run of these messages, with at most 8 rounds a step
abbrev pub run_of : Spec → List Message → List Reaction
run_of s ms = run_from 8 s (first_world s) ms

-- whether no event is left after at most n rounds
abbrev pub ends_within : ℕ → Spec → World → List Instance → Bool
ends_within n s w [] = true
ends_within zero s w (e ∷ es) = false
ends_within (suc n) s w (e ∷ es) =
    let taken = enabled_transitions s (view s w) (e ∷ es) in
    ends_within n s (world_after s w taken) (raised_by s taken)

-- whether each step of a run ends after at most n rounds
abbrev pub all_end : ℕ → Spec → World → List Message → Bool
all_end n s w [] = true
all_end n s w (m ∷ ms) = ends_within n s (latched s w m) (m.receive.raised ∷ []) && all_end n s (rounds_from n s (latched s w m) (m.receive.raised ∷ [])).1 ms

-- The text is the whole trace of a run of an event file.
pub record HasTrace (s : Spec) (content : Bytes) (text : Text) : Type 0 where
  pub run : List Reaction
  pub is_run : IsRun s (lines_of content) run
  pub trace : whole_trace s run ≡ text
