-- The sets of lists.
use Rattle.std.specs.Prelude.{◌≡◌, ℕ, Bool, List}
use Rattle.std.specs.List.{IsDistinct}
use Rattle.pair_counts.specs.declared.set.Set.{Set}
use Rattle.pair_counts.specs.Has.{has_at}
use Rattle.pair_counts.specs.Blocks.{list_at}
use Rattle.pair_counts.specs.Sets.{is_in}

-- Numbers differ, and each list has its set.
pub record AreSets {A : Type 0} (eq : A → A → Bool) (numbers : List A) (lists : List (List A)) (sets : List Set) : Type 0 where
  pub differ : IsDistinct eq numbers
  pub same : (place q : ℕ) → has_at sets place q ≡ is_in eq numbers (list_at lists place) q
