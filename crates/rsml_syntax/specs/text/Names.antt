-- Names: they are equal where their characters are.
use Rattle.std.specs.Prelude.{ℕ, Bool, List, Option, is_some, nat_eq}
use Rattle.std.specs.List.{position_from}
use Rattle.std.specs.Cmp.Lexicographic.{pointwise}

-- the bytes of a name
abbrev pub Name : Type 0
Name = List ℕ

-- the names are equal
abbrev pub same : Name → Name → Bool
same = pointwise nat_eq

-- the place of the first such name, counted from 0
abbrev pub place_of : Name → List Name → Option ℕ
place_of name names = position_from (same name) 0 names

-- the name is among these
abbrev pub is_in : Name → List Name → Bool
is_in name names = is_some (place_of name names)
