-- Words on instances, paths and lists.
use Rattle.std.specs.Prelude.{◌≡◌, ℕ, suc, Bool, true, false, ◌&&◌, ◌||◌, ◌⊎◌, List, [], ◌∷◌, ◌++◌, length, Option, Some, None, nat_eq, nat_lt, ⊤}
use Rattle.std.specs.List.{list_any, position_from}
use Rattle.rsml_syntax.specs.text.Names.{Name, same}
use Rattle.rsml_syntax.specs.declared.world.Step.{Step}

-- a name with its index, which is 0 where the name was declared without a size
abbrev pub Instance : Type 0
Instance = Step

-- the instance of a name at an index
abbrev pub at : Name → ℕ → Instance
at name index = record { name = name; index = index }

-- names and indices are equal
abbrev pub same_instance : Instance → Instance → Bool
same_instance x y = same x.name y.name && nat_eq x.index y.index

-- whether an instance is among these
abbrev pub has : List Instance → Instance → Bool
has xs x = list_any (same_instance x) xs

-- the place of an instance among these, counted from 0
abbrev pub place_in : List Instance → Instance → Option ℕ
place_in xs x = position_from (same_instance x) 0 xs

-- the steps from the top state down to a state instance
abbrev pub Path : Type 0
Path = List Step

-- the path that goes one step further
abbrev pub child_path : Path → Step → Path
child_path path step = path ++ (step ∷ [])

-- the first path begins the second
abbrev pub is_prefix : Path → Path → Bool
is_prefix [] q = true
is_prefix (x ∷ p) [] = false
is_prefix (x ∷ p) (y ∷ q) = same_instance x y && is_prefix p q

-- the first path begins the second and is shorter
abbrev pub is_proper_prefix : Path → Path → Bool
is_proper_prefix p q = is_prefix p q && nat_lt (length p) (length q)

-- each begins the other
abbrev pub same_path : Path → Path → Bool
same_path p q = is_prefix p q && is_prefix q p

-- one is the other or a prefix of it
abbrev pub on_one_line : Path → Path → Bool
on_one_line p q = is_prefix p q || is_prefix q p

-- the first that there is
abbrev pub first_some : {A B : Type 0} → (A → Option B) → List A → Option B
first_some f [] = None
first_some f (x ∷ xs) = elim (f x) [ Some y ↦ Some y | None ↦ first_some f xs ]

-- each with its number, from this number on
abbrev pub numbered_from : {A : Type 0} → ℕ → List A → List (ℕ × A)
numbered_from n [] = []
numbered_from n (x ∷ xs) = (n, x) ∷ numbered_from (suc n) xs

-- each with its number, from 1
abbrev pub numbered : {A : Type 0} → List A → List (ℕ × A)
numbered xs = numbered_from 1 xs

-- the number of a numbered item
abbrev pub ordinal_of : {A : Type 0} → ℕ × A → ℕ
ordinal_of x = x.0

-- the item without its number
abbrev pub item_of : {A : Type 0} → ℕ × A → A
item_of x = x.1

-- the fact holds of each item
abbrev pub Each : {A : Type 0} → (A → Type 0) → List A → Type 0
Each P [] = ⊤
Each P (x ∷ xs) = P x × Each P xs

-- it is one of the items
abbrev pub IsOne : {A : Type 0} → A → List A → Type 0
IsOne y [] = ⊥
IsOne y (x ∷ xs) = (y ≡ x) ⊎ IsOne y xs

-- three lists are as long, and the relation holds at each place
abbrev pub AllThree : {A B C : Type 0} → (A → B → C → Type 0) → List A → List B → List C → Type 0
AllThree R [] [] [] = ⊤
AllThree R (x ∷ xs) (y ∷ ys) (z ∷ zs) = R x y z × AllThree R xs ys zs
AllThree R _ _ _ = ⊥
