-- The global names of a specification, and what each of them is.
use Rattle.std.specs.Prelude.{ℕ, zero, suc, ◌+◌, List, [], ◌∷◌, ◌++◌, flat_map, Option, Some, None, if◌then◌else◌, slice_get, ℤ, pos, neg_ℤ, unsigned_abs}
use Rattle.std.specs.Option.{option_map_or}
use Rattle.rsml_syntax.specs.declared.syntax.Amount.{Amount}
use Rattle.rsml_syntax.specs.declared.syntax.Amount.TheVariants as amounts
use Rattle.rsml_syntax.specs.declared.syntax.Signed.{Signed}
use Rattle.rsml_syntax.specs.declared.syntax.Decl.{Decl}
use Rattle.rsml_syntax.specs.declared.syntax.Decl.TheVariants as decl
use Rattle.rsml_syntax.specs.text.Names.{Name, place_of}

-- the number that is written with its sign
abbrev pub signed : Signed → ℤ
signed x = if x.minus then neg_ℤ (pos x.digits) else pos x.digits

-- the name that a declaration declares first
abbrev pub name_of : Decl → Name
name_of (decl.Enumeration name _) = name
name_of (decl.Range name _ _) = name
name_of (decl.Constant name _) = name
name_of (decl.Input name _ _ _) = name
name_of (decl.Event name _) = name
name_of (decl.Macro name _ _) = name
name_of (decl.Function name _ _) = name
name_of (decl.Receive name _ _ _) = name
name_of (decl.Send name _ _ _) = name

-- the values of an enumeration
abbrev pub values_of : Decl → List Name
values_of (decl.Enumeration _ values) = values
values_of _ = []

-- the size that a name was declared with
abbrev pub size_of : Decl → Option Amount
size_of (decl.Input _ size _ _) = size
size_of (decl.Event _ size) = size
size_of (decl.Macro _ size _) = size
size_of (decl.Function _ size _) = size
size_of (decl.Receive _ size _ _) = size
size_of (decl.Send _ size _ _) = size
size_of _ = None

-- the global names of a declaration, in order
abbrev pub names_of : Decl → List Name
names_of d = name_of d ∷ values_of d

-- What a global name is: that of a declaration, or the value at this place of the enumeration that it declares.
pub record Known : Type 0 where
  pub decl : Decl
  pub value : Option ℕ

-- the values of an enumeration, the first of which has this place
abbrev pub known_values : Decl → ℕ → List Name → List Known
known_values d place [] = []
known_values d place (_ ∷ values) = record { decl = d; value = Some place } ∷ known_values d (place + 1) values

-- what the global names of a declaration are, in order
abbrev pub known_by : Decl → List Known
known_by d = record { decl = d; value = None } ∷ known_values d 0 (values_of d)

-- All global names in the order of their declaration, and what each is.
pub record Globals : Type 0 where
  pub names : List Name
  pub known : List Known

-- the global names of these declarations
abbrev pub globals : List Decl → Globals
globals decls = record { names = flat_map names_of decls; known = flat_map known_by decls }

-- what the name is, by its first declaration
abbrev pub meaning : Globals → Name → Option Known
meaning g name = option_map_or (λ place. slice_get g.known place) (place_of name g.names) None

-- the number of a constant
abbrev pub constant_of : Known → Option ℤ
constant_of k = elim k.decl [ decl.Constant _ value ↦ Some (signed value) | _ ↦ None ]

-- the number of the constant of this name
abbrev pub constant : Globals → Name → Option ℤ
constant g name = option_map_or constant_of (meaning g name) None

-- the number of a constant or of an enumeration's value, which is its place
abbrev pub number_of : Known → ℤ
number_of k = option_map_or pos k.value (option_map_or (λ n. n) (constant_of k) (pos 0))

-- the number of the constant or value of this name, 0 where it is neither
abbrev pub number : Globals → Name → ℤ
number g name = option_map_or number_of (meaning g name) (pos 0)

-- the number of a size or of a bound
abbrev pub amount_of : Globals → Amount → Option ℤ
amount_of g (amounts.Number n) = Some (pos n)
amount_of g (amounts.Name name) = constant g name

-- How many there are of what is declared with this size. Where S2, S3 or S5 is broken: a name that is no constant counts as
-- 1, a negative constant as its absolute value.
abbrev pub many : Globals → Option Amount → ℕ
many g None = 1
many g (Some amount) = option_map_or unsigned_abs (amount_of g amount) 1

-- 1 to n
abbrev pub up_to : ℕ → List ℕ
up_to zero = []
up_to (suc n) = up_to n ++ (suc n ∷ [])

-- the indices of what is declared with this size: 1 to the size, or 0 alone where there is none
abbrev pub indices : Globals → Option Amount → List ℕ
indices g None = 0 ∷ []
indices g (Some amount) = up_to (many g (Some amount))
