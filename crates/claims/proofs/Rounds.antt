-- Inductive claims that are true where a step begins are true in each of its worlds.
use Rattle.std.proofs.Common.{◌≡◌, ℕ, suc, true, List, [], ◌∷◌, ◌++◌, map, IsTrue, sym, subst}
use Rattle.rsml_syntax.specs.declared.syntax.Spec.{Spec}
use Rattle.rsml_syntax.specs.declared.world.World.{World}
use Rattle.rsml_meaning.specs.Words.{Instance, Each}
use Rattle.rsml_meaning.specs.Worlds.{IsWorld}
use Rattle.rsml_meaning.specs.Chains.{is_external, Ends}
use Rattle.rsml_meaning.specs.Transitions.{TransitionInstance}
use Rattle.rsml_meaning.specs.Steps.{Sent, Round, IsStep}
use Rattle.rsml_meaning.specs.Scoped.{WellScoped}
use Rattle.rsml_meaning.specs.MicroSteps.{Result, IsResult}
use Rattle.rsml_meaning.proofs.WorldSteps.{micro_steps_leave_worlds}
use Rattle.rsml_meaning.proofs.Longer.{next_longer}
use Rattle.claim_syntax.specs.declared.claim.Claim.{Claim}
use Rattle.claims.specs.Claims.{all_true}
use Rattle.claims.specs.Inductive.{AreInductive}

abbrev result : List TransitionInstance → List Sent → World → List Instance → Result
result taken sent world raised = record { taken = taken; sent = sent; world = world; raised = raised }

abbrev pub True : Spec → List Claim → World → Type 0
True s cs w = IsTrue (all_true s cs w)

module _ (s : Spec) (cs : List Claim) (scoped : WellScoped s) (i : AreInductive s cs) (x : Instance) (external : is_external s x ≡ true) where
  -- a micro-step at a moment that may come
  micro_keeps : (n : ℕ) (w : World) (present : List Instance) (r : Result) → IsWorld s w → Each (Ends s x n) present → True s cs w → IsResult s w present r → True s cs r.world
  micro_keeps n w present r is_world ends before micro =
      i.kept (record { start = x; round = n; present = present; world = w }) r (record { external = external; ends = ends; is_world = is_world }) before micro

  -- What is known of a step: the claims are true in the world before each round, and in the last one.
  pub record Throughout (rs : List Round) (v : World) : Type 0 where
    pub worlds : Each (True s cs) (map (λ q. q.world) rs ++ (v ∷ []))
    pub last : True s cs v

  -- the world before the round, and the later ones
  one_more : (w v : World) (q : Round) (rs : List Round) → q.world ≡ w → True s cs w → Throughout rs v → Throughout (q ∷ rs) v
  one_more w v q rs e here later = record { worlds = (subst (True s cs) (sym e) here, later.worlds); last = later.last }

  pub step_holds : (n : ℕ) (rs : List Round) (w v : World) (present : List Instance) → IsWorld s w → Each (Ends s x n) present → True s cs w → IsStep s w present rs v → Throughout rs v
  step_holds n [] w v present is_world ends here a = elim a [ ]
  step_holds n (r ∷ []) w v present is_world ends here a =
      let after = micro_keeps n w present (result r.taken r.sent v []) is_world ends here a.micro in
      one_more w v r [] a.world here (record { worlds = (after, tt); last = after })
  step_holds n (r ∷ q ∷ rs) w v present is_world ends here a =
      let m = result r.taken r.sent a.0 a.1 in
      one_more w v r (q ∷ rs) a.2.world here
      (step_holds (suc n) (q ∷ rs) a.0 v a.1 (micro_steps_leave_worlds s w present m scoped is_world a.2.micro) (next_longer s w x n present m a.2.micro ends)
      (micro_keeps n w present m is_world ends here a.2.micro) a.4)
