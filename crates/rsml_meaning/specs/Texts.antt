-- How instances, numbers and labels are written.
use Rattle.std.specs.Prelude.{ℕ, suc, List, [], ◌∷◌, ◌++◌, map, Some, None, if◌then◌else◌, ℤ, pos, negsuc, ◌==◌, drop, length, slice_index_or, unsigned_abs, codes, decimal}
use Rattle.rsml_syntax.specs.text.Names.{Name}
use Rattle.rsml_meaning.specs.Words.{Instance, Path}
use Rattle.rsml_meaning.specs.Cells.{InputCell}
use Rattle.rsml_meaning.specs.Transitions.{TransitionInstance}

-- the bytes of a text
abbrev pub Text : Type 0
Text = List ℕ

-- a text and LF
abbrev pub text_line : Text → Text
text_line text = text ++ codes "\n"

-- texts with another between each two
abbrev pub joined : Text → List Text → Text
joined between [] = []
joined between (t ∷ []) = t
joined between (t ∷ u ∷ ts) = t ++ (between ++ joined between (u ∷ ts))

-- `Name`, or `Name[3]`
abbrev pub instance_text : Instance → Text
instance_text i = if i.index == 0 then i.name else i.name ++ (codes "[" ++ (decimal i.index ++ codes "]"))

-- `Top.Array[3].Child`
abbrev pub path_text : Path → Text
path_text path = joined (codes ".") (map instance_text path)

-- digits, with `-` before a negative number
abbrev pub number_text : ℤ → Text
number_text (pos n) = decimal n
number_text (negsuc n) = codes "-" ++ decimal (suc n)

-- a number of an enumeration with these names by its name, another by its digits
abbrev pub value_text : List Name → ℤ → Text
value_text [] n = number_text n
value_text (name ∷ names) n = slice_index_or (name ∷ names) (unsigned_abs n) []

-- the name of the last step
abbrev pub last_name : Path → Name
last_name [] = []
last_name (x ∷ []) = x.name
last_name (x ∷ y ∷ path) = last_name (y ∷ path)

-- ` stay Child`, or ` move Child -> Child.Inner` with the target from the component on
abbrev pub action_text : TransitionInstance → Text
action_text t = elim t.target [
  | None ↦ codes " stay " ++ last_name t.source
  | Some target ↦ codes " move " ++ (last_name t.source ++ (codes " -> " ++ path_text (drop (length t.component) target)))
]

-- the label of a transition: `Top.Component 1 stay Child`
abbrev pub label : TransitionInstance → Text
label t = path_text t.component ++ (codes " " ++ (decimal t.ordinal ++ action_text t))

-- the label of a case
abbrev pub case_label : ℕ → Text
case_label n = codes "case " ++ decimal n

-- the text of a cell
abbrev pub cell_text : InputCell → Text
cell_text c = if c.previous then codes "previous " ++ instance_text c.input else instance_text c.input
