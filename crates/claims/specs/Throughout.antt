-- The worlds of a run, and claims that are true throughout it.
use Rattle.std.specs.Prelude.{List, [], ◌∷◌, ◌++◌, map, flat_map, IsTrue}
use Rattle.rsml_syntax.specs.declared.syntax.Spec.{Spec}
use Rattle.rsml_syntax.specs.declared.world.World.{World}
use Rattle.rsml_meaning.specs.Words.{Each}
use Rattle.rsml_meaning.specs.Runs.{first_world, Reaction}
use Rattle.claim_syntax.specs.declared.claim.Claim.{Claim}
use Rattle.claims.specs.Claims.{all_true}

-- the worlds of a reaction: the one that the event is latched in, and the one after each micro-step
abbrev pub reaction_worlds : Reaction → List World
reaction_worlds r = map (λ q. q.world) r.rounds ++ (r.world ∷ [])

-- the worlds of a run: the first world, and those of each reaction
abbrev pub run_worlds : Spec → List Reaction → List World
run_worlds s rs = first_world s ∷ flat_map reaction_worlds rs

-- all claims are true throughout a run, in each of its worlds
abbrev pub AlwaysTrue : Spec → List Claim → List Reaction → Type 0
AlwaysTrue s cs rs = Each (λ w. IsTrue (all_true s cs w)) (run_worlds s rs)
