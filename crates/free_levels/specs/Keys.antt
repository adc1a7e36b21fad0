-- Keys: free levels that stand for functions of other levels.
use Rattle.std.specs.Prelude.{◌≡◌, ℕ, ◌<◌, Bool, false, ◌||◌, List, [], ◌∷◌, length, slice_index, slice_index_or, None, IfSome, IsSomeAnd}
use Rattle.bdd_core.specs.Diagram.{Diagram, IsRef}
use Rattle.bdd_core.specs.Calls.{Represents}
use Rattle.free_levels.specs.declared.cell.Cell.{Cell}
use Rattle.free_levels.specs.declared.key.Key.{Key}
use Rattle.free_levels.specs.Values.{is_in, Ignores, IgnoresAll}

-- how many keys there are, and the level and the function of each
pub record Keys : Type 0 where
  pub count : ℕ
  pub level : ℕ → ℕ
  pub function : ℕ → (ℕ → Bool) → Bool

-- the keys have different levels, and their functions depend on none of these
pub record AreKeys (keys : Keys) : Type 0 where
  pub differ : (i j : ℕ) → i < keys.count → j < keys.count → keys.level i ≡ keys.level j → i ≡ j
  pub free : (i j : ℕ) → i < keys.count → j < keys.count → Ignores (keys.function i) (keys.level j)

-- the level of each key has the value of its function
abbrev pub IsLawful : Keys → (ℕ → Bool) → Type 0
IsLawful keys values = (i : ℕ) → i < keys.count → values (keys.level i) ≡ keys.function i values

-- the level and the handle are those of the key at this place
pub record IsExact (d : Diagram) (keys : Keys) (place level exact : ℕ) : Type 0 where
  pub fits : place < keys.count
  pub same_level : keys.level place ≡ level
  pub represents : Represents d (keys.function place) exact

-- what stands past the last key
abbrev pub no_key : Key
no_key = record { level = 0; exact = None }

-- the key at a place
abbrev pub key_at : List Key → ℕ → Key
key_at kept place = slice_index_or kept place no_key

-- these are the keys, in order; where a function has been made, it is the right one
pub record AreExact (d : Diagram) (keys : Keys) (kept : List Key) : Type 0 where
  pub count : keys.count ≡ length kept
  pub levels : (i : ℕ) → i < length kept → keys.level i ≡ (key_at kept i).level
  pub functions : (i : ℕ) → i < length kept → IfSome (key_at kept i).exact (Represents d (keys.function i))

-- the function of a key has been made
abbrev pub IsMade : Diagram → Key → Type 0
IsMade d key = IsSomeAnd key.exact (IsRef d)

-- the functions of the keys that read a cell have been made
pub record AreMade (d : Diagram) (kept : List Key) (cell : Cell) : Type 0 where
  pub fits : (k : ℕ) → k < length cell.keys.items → slice_index cell.keys.items k < length kept
  pub made : (k : ℕ) → k < length cell.keys.items → IsMade d (key_at kept (slice_index cell.keys.items k))

-- the cell names keys; its levels are no key's, and no function of a key that it does not name depends on them
pub record IsCell (keys : Keys) (cell : Cell) : Type 0 where
  pub fits : (k : ℕ) → k < length cell.keys.items → slice_index cell.keys.items k < keys.count
  pub apart : (i : ℕ) → i < keys.count → is_in cell.levels.items (keys.level i) ≡ false
  pub unread : (i : ℕ) → i < keys.count → is_in cell.keys.items i ≡ false → IgnoresAll (keys.function i) cell.levels.items

-- whether a level is one of these cells'
abbrev pub levels_of : List Cell → ℕ → Bool
levels_of [] level = false
levels_of (c ∷ cs) level = is_in c.levels.items level || levels_of cs level
