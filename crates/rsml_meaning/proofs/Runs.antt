-- Every well-formed event file has exactly one run of a certified specification.
use Rattle.std.proofs.Common.{◌≡◌, List, [], ◌∷◌, refl, ap, subst}
use Rattle.rsml_syntax.specs.declared.syntax.Spec.{Spec}
use Rattle.rsml_syntax.specs.declared.world.World.{World}
use Rattle.rsml_meaning.specs.Words.{Each}
use Rattle.rsml_meaning.specs.Worlds.{IsWorld}
use Rattle.rsml_meaning.specs.Certified.{Certified}
use Rattle.rsml_meaning.specs.EventLines.{Message}
use Rattle.rsml_meaning.specs.EventFiles.{messages, lines_of}
use Rattle.rsml_meaning.specs.Runs.{first_world, latched, Reaction, IsRunFrom}
use Rattle.rsml_meaning.specs.Scoped.{WellScoped}
use Rattle.rsml_meaning.specs.Deterministic.{StepsEndInTime}
use Rattle.rsml_meaning.specs.Whole.{StepResult, IsStepResult}
use Rattle.rsml_meaning.specs.RunLaws.{RunsEndInTime, LinesHaveOneRun, EventFilesHaveOneRun}
use Rattle.rsml_meaning.proofs.Steps.{steps_are_one, steps_are_short, step_leaves_world}
use Rattle.rsml_meaning.proofs.Messages.{IsTold, all_told}
use Rattle.rsml_meaning.proofs.Latched.{first_is_world, latched_is_world}

abbrev same_reaction : (r q : Reaction) → r.receive ≡ q.receive → r.rounds ≡ q.rounds → r.world ≡ q.world → r ≡ q
same_reaction r q a b c = λ t. record { receive = a t; rounds = b t; world = c t }

abbrev reaction : Message → StepResult → Reaction
reaction m r = record { receive = m.receive.receive; rounds = r.rounds; world = r.world }

module _ (s : Spec) (scoped : WellScoped s) (c : Certified s) where
  -- There is a run, and no other.
  record OneRun (w : World) (ms : List Message) : Type 0 where
    run : List Reaction
    is : IsRunFrom s w ms run
    only : (qs : List Reaction) → IsRunFrom s w ms qs → qs ≡ run

  one_run : (w : World) (ms : List Message) → IsWorld s w → Each (IsTold s) ms → OneRun w ms
  one_run w [] i t = record { run = []; is = tt; only = none }
    where
      none : (qs : List Reaction) → IsRunFrom s w [] qs → qs ≡ []
      none [] h = refl
      none (q ∷ qs) h = elim h [ ]
  one_run w (m ∷ ms) i t =
      let start = latched_is_world s scoped w i m t.0 in
      let step = steps_are_one s (latched s w m) m.receive.raised scoped c start t.0.external in
      let r = step.0 in
      let rest = one_run r.world ms (step_leaves_world s scoped (latched s w m) (m.receive.raised ∷ []) r.rounds r.world start step.1) t.1 in
      record {
        run = reaction m r ∷ rest.run;
        is = (record { receive = refl; step = step.1 }, rest.is);
        only = others r step.2 rest;
      }
    where
      others : (r : StepResult) → ((q : StepResult) → IsStepResult s (latched s w m) (m.receive.raised ∷ []) q → q ≡ r) → (rest : OneRun r.world ms)
          → (qs : List Reaction) → IsRunFrom s w (m ∷ ms) qs → qs ≡ reaction m r ∷ rest.run
      others r one rest [] h = elim h [ ]
      others r one rest (q ∷ qs) h =
          let same = one (record { rounds = q.rounds; world = q.world }) h.0.step in
          let first = same_reaction q (reaction m r) h.0.receive (ap (λ z. z.rounds) same) (ap (λ z. z.world) same) in
          let later = rest.only qs (subst (λ z. IsRunFrom s z ms qs) (ap (λ z. z.world) same) h.1) in
          λ t. first t ∷ later t

-- each step of a run ends in time
in_time : (s : Spec) (w : World) (ms : List Message) (rs : List Reaction) → IsRunFrom s w ms rs → StepsEndInTime s ms rs
in_time s w [] [] h = tt
in_time s w (m ∷ ms) (r ∷ rs) h = (
  λ n l. steps_are_short s (latched s w m) m.receive.raised n (record { rounds = r.rounds; world = r.world }) l h.0.step,
  in_time s r.world ms rs h.1,
)
in_time s w [] (r ∷ rs) h = elim h [ ]
in_time s w (m ∷ ms) [] h = elim h [ ]

pub runs_end_in_time : RunsEndInTime
runs_end_in_time s lines rs h = in_time s (first_world s) (messages s lines) rs h

pub lines_have_one_run : LinesHaveOneRun
lines_have_one_run s lines scoped c =
    let r = one_run s scoped c (first_world s) (messages s lines) (first_is_world s scoped) (all_told s lines) in
    record { run = r.run; is_run = r.is; only = r.only }

pub event_files_have_one_run : EventFilesHaveOneRun
event_files_have_one_run s limits scoped c content h = lines_have_one_run s (lines_of content) scoped c
