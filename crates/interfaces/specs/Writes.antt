-- What is written into cells.
use Rattle.std.specs.Prelude.{ℕ, ◌<◌, List, ◌∷◌, Option, Some, None, IfSome, IsTrue, get_or, slice_set, ℤ, pos}
use Rattle.std.specs.List.{AllZip}
use Rattle.rsml_syntax.specs.declared.syntax.Spec.{Spec}
use Rattle.rsml_meaning.specs.Words.{Instance}
use Rattle.rsml_meaning.specs.Instances.{globals_of}
use Rattle.rsml_meaning.specs.Cells.{input_type, is_of}
use Rattle.interfaces.specs.declared.field.Field.{Field}

-- each number is of its input's type, and there are as many
abbrev pub AreTyped : Spec → List Instance → List ℤ → Type 0
AreTyped s inputs numbers = AllZip (λ x n. IsTrue (is_of (input_type (globals_of s) x.name) n)) inputs numbers

-- the cells with the number of one in another, where there is another
abbrev pub copied : Option ℕ → ℕ → List ℤ → List ℤ
copied None cell cells = cells
copied (Some previous) cell cells = slice_set cells previous (get_or cells cell (pos 0))

-- the number of a field's cell goes into its previous cell, and a new number into its cell
abbrev pub put : Field → ℤ → List ℤ → List ℤ
put f n cells = slice_set (copied f.previous f.cell cells) f.cell n

-- the same for each field in turn
abbrev pub put_all : List Field → List ℤ → List ℤ → List ℤ
put_all (f ∷ fs) (n ∷ ns) cells = put_all fs ns (put f n cells)
put_all _ _ cells = cells

-- a field's cells are among so many
abbrev pub IsWithin : ℕ → Field → Type 0
IsWithin count f = (f.cell < count) × IfSome f.previous (λ p. p < count)
