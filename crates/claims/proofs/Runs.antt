-- Inductive claims of states are true throughout each run.
use Rattle.std.proofs.Common.{◌≡◌, true, List, [], ◌∷◌, flat_map, refl, subst}
use Rattle.rsml_syntax.specs.declared.syntax.Spec.{Spec}
use Rattle.rsml_syntax.specs.declared.world.World.{World}
use Rattle.rsml_meaning.specs.Words.{Each}
use Rattle.rsml_meaning.specs.Worlds.{IsWorld}
use Rattle.rsml_meaning.specs.EventLines.{Message}
use Rattle.rsml_meaning.specs.EventFiles.{messages}
use Rattle.rsml_meaning.specs.Runs.{first_world, latched, Reaction, IsRunFrom}
use Rattle.rsml_meaning.specs.Scoped.{WellScoped}
use Rattle.rsml_meaning.proofs.Lists.{each_append}
use Rattle.rsml_meaning.proofs.Messages.{IsTold, all_told}
use Rattle.rsml_meaning.proofs.Latched.{first_is_world, latched_is_world}
use Rattle.rsml_meaning.proofs.Steps.{alone, step_leaves_world}
use Rattle.claim_syntax.specs.declared.claim.Claim.{Claim}
use Rattle.claim_syntax.specs.OfStates.{IsOfStates}
use Rattle.claims.specs.Inductive.{AreInductive}
use Rattle.claims.specs.Throughout.{reaction_worlds}
use Rattle.claims.specs.Laws.{InductiveClaimsHold}
use Rattle.claims.proofs.Latching.{states_alone}
use Rattle.claims.proofs.Rounds.{True, step_holds}

module _ (s : Spec) (cs : List Claim) (scoped : WellScoped s) (of_states : Each IsOfStates cs) (i : AreInductive s cs) where
  run_holds : (w : World) (ms : List Message) (rs : List Reaction) → IsWorld s w → Each (IsTold s) ms → True s cs w → IsRunFrom s w ms rs → Each (True s cs) (flat_map reaction_worlds rs)
  run_holds w [] [] is_world told here h = tt
  run_holds w [] (r ∷ rs) is_world told here h = elim h [ ]
  run_holds w (m ∷ ms) [] is_world told here h = elim h [ ]
  run_holds w (m ∷ ms) (r ∷ rs) is_world told here h =
      let v = latched s w m in
      let start = latched_is_world s scoped w is_world m told.0 in
      let x = m.receive.raised in
      let step = step_holds s cs scoped i x told.0.external 1 r.rounds v r.world (x ∷ []) start (alone s x told.0.external, tt) (subst (λ z. z ≡ true) (states_alone s w v refl cs of_states) here) h.0.step in
      each_append (True s cs) (reaction_worlds r) (flat_map reaction_worlds rs) step.worlds
      (run_holds r.world ms rs (step_leaves_world s scoped v (x ∷ []) r.rounds r.world start h.0.step) told.1 step.last h.1)

pub inductive_claims_hold : InductiveClaimsHold
inductive_claims_hold s cs scoped of_states i lines rs h =
    (i.first, run_holds s cs scoped of_states i (first_world s) (messages s lines) rs (first_is_world s scoped) (all_told s lines) i.first h)
