-- A micro-step with two results: two moves enter one component at two children. A file has two runs that differ in their worlds alone.
use Rattle.std.specs.Prelude.{◌≡◌, refl, ℕ, List, [], ◌∷◌, map, codes}
use Rattle.std.proofs.Common.{sym, ap, ◌∙◌, inl, inr}
use Rattle.std.specs.Fmt.{digits}
use Rattle.std.specs.Str.{is_utf8, chars}
use Rattle.rsml_syntax.specs.declared.world.World.{World}
use Rattle.rsml_meaning.specs.Words.{Instance}
use Rattle.rsml_meaning.specs.Truth.{view}
use Rattle.rsml_meaning.specs.Transitions.{TransitionInstance}
use Rattle.rsml_meaning.specs.Steps.{Micro, enabled_transitions}
use Rattle.rsml_meaning.specs.EventFiles.{lines_of}
use Rattle.rsml_meaning.specs.Runs.{first_world, Reaction, IsRun, HaveOneRun}
use Rattle.rsml_meaning.specs.Texts.{label}
use Rattle.rsml_meaning.proofs.examples.Chains.{event}
use Rattle.rsml_meaning.proofs.examples.Worlds.{world}
use Rattle.rsml_meaning.proofs.values.Twin.{twin}

abbrev tick : List Instance
tick = event "Tick" ∷ []

abbrev start : World
start = first_world twin

abbrev taken : List TransitionInstance
taken = enabled_transitions twin (view twin start) tick

both_moves_are_taken : map label taken ≡ map codes ("Top 1 move A -> A.P" ∷ "Top 2 move A -> A.Q" ∷ [])
unfolding digits
both_moves_are_taken = refl

-- the inner component at this child
abbrev in_child : ℕ → World
in_child place = world (0 ∷ place ∷ []) []

the_first_move_may_decide : Micro twin start tick taken [] (in_child 0) []
the_first_move_may_decide = record { all_taken = refl; all_sent = refl; values = tt; children = (inl refl, (inl refl, tt)); numbers = refl; all_raised = refl }

the_second_move_may_decide : Micro twin start tick taken [] (in_child 1) []
the_second_move_may_decide = record { all_taken = refl; all_sent = refl; values = tt; children = (inl refl, (inr (inl refl), tt)); numbers = refl; all_raised = refl }

-- what the event does, with this child at the end
abbrev beat : ℕ → Reaction
beat place = record { receive = event "Beat"; rounds = record { world = start; present = tick; taken = taken; sent = [] } ∷ []; world = in_child place }

abbrev IsRunOfBeat : List Reaction → Type 0
IsRunOfBeat run = IsRun twin (lines_of (codes "Beat\n")) run

one_run : IsRunOfBeat (beat 0 ∷ [])
unfolding is_utf8 chars lib.Utf8.encode
one_run = (record { receive = refl; step = record { world = refl; events = refl; micro = the_first_move_may_decide } }, tt)

another_run : IsRunOfBeat (beat 1 ∷ [])
unfolding is_utf8 chars lib.Utf8.encode
another_run = (record { receive = refl; step = record { world = refl; events = refl; micro = the_second_move_may_decide } }, tt)

-- the choices of the world that the first event leaves
abbrev left : List Reaction → List ℕ
left [] = []
left (r ∷ rs) = r.world.choices

the_file_has_two_runs : HaveOneRun twin (lines_of (codes "Beat\n")) → ⊥
the_file_has_two_runs h = differ (ap left (h.only (beat 0 ∷ []) one_run ∙ sym (h.only (beat 1 ∷ []) another_run)))
  where
    differ : (in_child 0).choices ≡ (in_child 1).choices → ⊥
    differ e = cc
