-- The world after a micro-step, over numbers.
use Rattle.std.specs.Prelude.{ℕ, Bool, ◌<◌, List, length, fold, if◌then◌else◌, All}
use Rattle.rsml_syntax.specs.declared.world.World.{World}
use Rattle.rsml_meaning.specs.Worlds.{IsWorld}
use Rattle.ground_groups.specs.declared.group.Member.TheVariants as members
use Rattle.elaborate.specs.Machine.{GroundMachine}
use Rattle.elaborate.specs.Enabled.{enabled_at}
use Rattle.micro_step.specs.Places.{places_where}
use Rattle.micro_step.specs.Numbers.{after_number}

-- the numbers of the transitions on these events, rising
abbrev pub moves_on : GroundMachine → (ℕ → Bool) → List ℕ
moves_on m present = places_where (λ x. present x.event) 0 m.transitions

-- the children after one more transition, which is entered where it is enabled in the world
abbrev pub in_turn : GroundMachine → World → List ℕ → ℕ → List ℕ
in_turn m w choices k = if enabled_at m w (members.Transition k) then after_number m choices k else choices

-- the world after these transitions, as far as they are enabled in the world before
abbrev pub after : GroundMachine → List ℕ → World → World
after m moves w = record w { choices = fold (in_turn m w) w.choices moves }

-- They are transitions, and the world after them is one.
pub record LeaveWorlds (m : GroundMachine) (moves : List ℕ) : Type 0 where
  pub there : All (λ k. k < length m.transitions) moves
  pub worlds : (w : World) → IsWorld m.base.spec w → IsWorld m.base.spec (after m moves w)
