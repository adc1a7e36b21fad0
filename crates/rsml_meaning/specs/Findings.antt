-- What is found of a group: that it is sound, or how it fails, with the least world in which it does.
use Rattle.std.specs.Prelude.{◌≡◌, ℕ, ◌≤◌, IsTrue}
use Rattle.rsml_syntax.specs.declared.syntax.Spec.{Spec}
use Rattle.rsml_syntax.specs.declared.world.World.{World}
use Rattle.rsml_meaning.specs.Worlds.{IsWorld, IsBefore}
use Rattle.rsml_meaning.specs.Truth.{view}
use Rattle.rsml_meaning.specs.Groups.{Group, meets, enabled_count, Sound}

-- A world that meets the group's condition, in which the number of enabled members is as asked.
pub record EnablesIn (s : Spec) (group : Group) (IsCount : ℕ → Type 0) (w : World) : Type 0 where
  pub is_world : IsWorld s w
  pub met : IsTrue (meets s (view s w) group)
  pub count : IsCount (enabled_count s group (view s w))

-- the world meets the condition and enables no member
abbrev pub EnablesNone : Spec → Group → World → Type 0
EnablesNone s group = EnablesIn s group (λ n. n ≡ 0)

-- the world meets the condition and enables two members or more
abbrev pub EnablesTwo : Spec → Group → World → Type 0
EnablesTwo s group = EnablesIn s group (λ n. 2 ≤ n)

-- The least such world: it is one, and none before it is.
pub record IsLeast (IsSuch : World → Type 0) (w : World) : Type 0 where
  pub such : IsSuch w
  pub least : (v : World) → IsSuch v → IsBefore v w → ⊥

-- what is found of a group: it is sound, or in this world it enables none, or two or more
pub data Verdict : Type 0 where
  sound : Verdict
  none : World → Verdict
  two : World → Verdict

-- the verdict is right: `none` goes before `two`, and the world is the least of its kind
abbrev pub IsVerdict : Spec → Group → Verdict → Type 0
IsVerdict s group sound = Sound s group
IsVerdict s group (none w) = IsLeast (EnablesNone s group) w
IsVerdict s group (two w) = ((v : World) → EnablesNone s group v → ⊥) × IsLeast (EnablesTwo s group) w
