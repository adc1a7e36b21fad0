-- Lists as sets of places among numbers that differ.
use Rattle.std.specs.Prelude.{◌≡◌, ℕ, Bool, false, List, [], flat_map, slice_get}
use Rattle.std.specs.List.{list_any}
use Rattle.std.specs.Option.{option_map_or}
use Rattle.indexmap.specs.IndexSet.{insert_all}
use Rattle.pair_counts.specs.Blocks.{list_at}

-- numbers without repeats
abbrev pub once : {A : Type 0} → (A → A → Bool) → List A → List A
once eq ns = insert_all eq [] ns

abbrev pub is_among : {A : Type 0} → (A → A → Bool) → List A → A → Bool
is_among eq ns n = list_any (eq n) ns

-- whether the number at a place passes
abbrev pub passes_at : {A : Type 0} → (A → Bool) → List A → ℕ → Bool
passes_at test numbers place = option_map_or test (slice_get numbers place) false

-- whether the number at a place is among these
abbrev pub is_in : {A : Type 0} → (A → A → Bool) → List A → List A → ℕ → Bool
is_in eq numbers ns place = passes_at (is_among eq ns) numbers place

-- Lists, and the numbers whose places stand for them.
pub record Sets (A : Type 0) : Type 0 where
  pub numbers : List A
  pub lists : List (List A)

-- the numbers of the lists at places
abbrev pub joined_at : {A : Type 0} → Sets A → List ℕ → List A
joined_at sets places = flat_map (list_at sets.lists) places

-- The numbers are those of all lists.
abbrev pub IsWhole : {A : Type 0} → (A → A → Bool) → Sets A → Type 0
IsWhole eq sets = sets.numbers ≡ once eq (flat_map (λ l. l) sets.lists)
