-- A run that can go on.
use Rattle.std.specs.Prelude.{ℕ, ◌*◌, ◌≤◌, Bool, is_some}
use Rattle.rsml_meaning.specs.Worlds.{IsWorld}
use Rattle.elaborate.specs.Machine.{GroundMachine}
use Rattle.micro_step.specs.Numbers.{IsFor}
use Rattle.micro_step.specs.Places.{passes}
use Rattle.run_counts.specs.declared.progress.Progress.{Progress}

-- What is kept is for the machine, the world is one of its specification, and the counts are no greater than they can be.
pub record IsReady (m : GroundMachine) (p : Progress) : Type 0 where
  pub made : IsFor m p.scratch
  pub is_world : IsWorld m.base.spec p.world
  pub takes_fit : p.counts.takes ≤ 8192 * p.counts.rounds
  pub moves_fit : p.counts.moves ≤ p.counts.takes

-- the transition of a number is a move
abbrev pub moves_at : GroundMachine → ℕ → Bool
moves_at m k = passes (λ x. is_some x.target) m.transitions k
