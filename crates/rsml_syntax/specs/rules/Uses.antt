-- How names are used: S2, S3 and S6 at a mention, S1 at a variable, S5 at sizes and bounds, S9 at paths, S15 at compared
-- functions. Each function gives the breaches of its text in the order of the names that are shown.
use Rattle.std.specs.Prelude.{Bool, true, false, not, ◌&&◌, List, [], ◌∷◌, ◌++◌, flat_map, find, Option, Some, None, if◌then◌else◌, is_none, pos, nat_lt, nat_le}
use Rattle.std.specs.List.{list_all}
use Rattle.std.specs.Option.{option_map, option_map_or}
use Rattle.rsml_syntax.specs.declared.syntax.Amount.{Amount}
use Rattle.rsml_syntax.specs.declared.syntax.Amount.TheVariants as amounts
use Rattle.rsml_syntax.specs.declared.syntax.Mention.{Mention}
use Rattle.rsml_syntax.specs.declared.syntax.Operand.{Operand}
use Rattle.rsml_syntax.specs.declared.syntax.Operand.TheVariants as operands
use Rattle.rsml_syntax.specs.declared.syntax.Sum.{Sum}
use Rattle.rsml_syntax.specs.declared.syntax.Simple.{Simple}
use Rattle.rsml_syntax.specs.declared.syntax.Simple.TheVariants as simples
use Rattle.rsml_syntax.specs.declared.syntax.Phrase.{Phrase}
use Rattle.rsml_syntax.specs.declared.syntax.Phrase.TheVariants as phrases
use Rattle.rsml_syntax.specs.declared.syntax.Guard.{Guard}
use Rattle.rsml_syntax.specs.declared.syntax.Decl.{Decl}
use Rattle.rsml_syntax.specs.declared.syntax.Decl.TheVariants as decl
use Rattle.rsml_syntax.specs.declared.syntax.StateDecl.{StateDecl}
use Rattle.rsml_syntax.specs.declared.want.Want.{Want}
use Rattle.rsml_syntax.specs.declared.want.Want.TheVariants as want
use Rattle.rsml_syntax.specs.text.Names.{Name, same, place_of, is_in}
use Rattle.rsml_syntax.specs.rules.Globals.{Known, Globals, meaning, size_of, amount_of}
use Rattle.rsml_syntax.specs.rules.Breaches.{Breach, breach}
use Rattle.rsml_syntax.specs.grammar.Written.{rows_of}
use Rattle.rsml_syntax.specs.grammar.Parts.{children_of}
use Rattle.rsml_syntax.specs.rules.Scopes.{NameTables, Scope, size_number, is_up_to, is_indexed}

-- NAMES

-- a macro or a function, which is declared before it is used
abbrev pub is_definition : Known → Bool
is_definition k = elim k.decl [ decl.Macro _ _ _ ↦ true | decl.Function _ _ _ ↦ true | _ ↦ false ]

-- the name is declared before the place of use
abbrev pub is_before : NameTables → Scope → Name → Bool
is_before w at name = option_map_or (λ place. nat_lt place at.before) (place_of name w.globals.names) false

-- the name is that of a macro or a function
abbrev pub names_definition : NameTables → Name → Bool
names_definition w name = option_map_or is_definition (meaning w.globals name) false

-- S2: the name is declared; that of a macro or a function is declared before the place of use
abbrev pub is_declared : NameTables → Scope → Name → Bool
is_declared w at name = if names_definition w name then is_before w at name else is_in name w.globals.names

-- a value of an enumeration is what a place wants
abbrev pub value_fits : Want → Bool
value_fits want.Initial = true
value_fits want.Operand = true
value_fits _ = false

-- the name of a declaration is what a place wants
abbrev pub declaration_fits : Want → Decl → Bool
declaration_fits want.Constant (decl.Constant _ _) = true
declaration_fits want.Type (decl.Enumeration _ _) = true
declaration_fits want.Type (decl.Range _ _ _) = true
declaration_fits want.Initial (decl.Constant _ _) = true
declaration_fits want.Input (decl.Input _ _ _ _) = true
declaration_fits want.Event (decl.Event _ _) = true
declaration_fits want.Operand (decl.Input _ _ _ _) = true
declaration_fits want.Operand (decl.Constant _ _) = true
declaration_fits want.Macro (decl.Macro _ _ _) = true
declaration_fits want.Function (decl.Function _ _ _) = true
declaration_fits _ _ = false

-- S3: a global name is what a place wants
abbrev pub fits : Want → Known → Bool
fits want k = option_map_or (λ _. value_fits want) k.value (declaration_fits want k.decl)

-- a used name: S2, then S3
abbrev pub used : NameTables → Scope → Want → Name → List Breach
used w at want name =
    breach 2 name (not (is_declared w at name))
    ++ breach 3 name (not (option_map_or (fits want) (meaning w.globals name) true))

-- S6: the index is right at what the name was declared as
abbrev pub is_indexed_for : NameTables → Scope → Mention → Known → Bool
is_indexed_for w at m k = is_indexed w.globals at (size_number w.globals (size_of k.decl)) m.index

-- a mention: its name is used, then S6
abbrev pub mentioned : NameTables → Scope → Want → Mention → List Breach
mentioned w at want m =
    used w at want m.name
    ++ breach 6 m.name (not (option_map_or (is_indexed_for w at m) (meaning w.globals m.name) true))

-- SIZES AND BOUNDS

-- a size or a bound that is written as a name wants a constant
abbrev pub amount_used : NameTables → Scope → Amount → List Breach
amount_used w at (amounts.Number _) = []
amount_used w at (amounts.Name name) = used w at want.Constant name

-- S5: a size or a bound is 1 to 64
abbrev pub is_amount : NameTables → Amount → Bool
is_amount w amount = option_map_or (is_up_to (pos 64)) (amount_of w.globals amount) true

-- a name with a size: S5 at the name, and what the size uses
abbrev pub sized : NameTables → Scope → Name → Option Amount → List Breach
sized w at name None = []
sized w at name (Some amount) = breach 5 name (not (is_amount w amount)) ++ amount_used w at amount

-- SUMS

-- an operand: what stands after `previous` is an input
abbrev pub operand_used : NameTables → Scope → Operand → List Breach
operand_used w at (operands.Number _) = []
operand_used w at (operands.Mention m) = mentioned w at want.Operand m
operand_used w at (operands.Previous m) = mentioned w at want.Input m

-- a sum, operand by operand
abbrev pub sum_used : NameTables → Scope → Sum → List Breach
sum_used w at sum = flat_map (λ t. operand_used w at t.operand) sum.terms

-- PATHS

-- the first child of this name
abbrev pub child_named : Name → List StateDecl → Option StateDecl
child_named name children = find (λ c. same name c.name) children

-- S6 at the later steps of a path, as far as each names a child of the step before it
abbrev pub steps_used : NameTables → Scope → List StateDecl → List Mention → List Breach
steps_used w at children [] = []
steps_used w at children (m ∷ ms) =
    option_map_or
    (λ c. breach 6 m.name (not (is_indexed w.globals at (size_number w.globals c.size) m.index)) ++ steps_used w at (children_of c.body) ms)
    (child_named m.name children)
    []

-- each step names a child of the one before it
abbrev pub are_steps : List StateDecl → List Mention → Bool
are_steps children [] = true
are_steps children (m ∷ ms) = option_map_or (λ c. are_steps (children_of c.body) ms) (child_named m.name children) false

-- S9: a path that begins so names a state: its first step is the top state, which has no index
abbrev pub names_state : NameTables → Mention → List Mention → Bool
names_state w m ms = same m.name w.top && (is_none m.index && are_steps w.children ms)

-- the last name of a path that begins so
abbrev pub last_name : Mention → List Mention → Name
last_name m [] = m.name
last_name m (n ∷ ns) = last_name n ns

-- an `in` path: S6 at its steps, then S9 at its last name
abbrev pub path_used : NameTables → Scope → List Mention → List Breach
path_used w at [] = []
path_used w at (m ∷ ms) =
    (if same m.name w.top then steps_used w at w.children ms else []) ++ breach 9 (last_name m ms) (not (names_state w m ms))

-- PHRASES

-- the name of an input
abbrev pub is_input : Known → Bool
is_input k = elim k.decl [ decl.Input _ _ _ _ ↦ true | _ ↦ false ]

-- a number, or a name that is no input's: where S3 is kept, a constant or a value of an enumeration
abbrev pub is_constant_operand : Globals → Operand → Bool
is_constant_operand g (operands.Number _) = true
is_constant_operand g (operands.Mention m) = not (option_map_or is_input (meaning g m.name) false)
is_constant_operand g (operands.Previous _) = false

-- a sum without an input and without a previous input
abbrev pub is_constant : Globals → Sum → Bool
is_constant g sum = list_all (λ t. is_constant_operand g t.operand) sum.terms

-- S15: a function is compared with a constant sum
abbrev pub simple_used : NameTables → Scope → Simple → List Breach
simple_used w at (simples.In path) = path_used w at path
simple_used w at (simples.Macro m) = mentioned w at want.Macro m
simple_used w at (simples.Compare left _ right) = sum_used w at left ++ sum_used w at right
simple_used w at (simples.Function f _ right) =
    mentioned w at want.Function f ++ (breach 15 f.name (not (is_constant w.globals right)) ++ sum_used w at right)

-- a variable that is the name of an earlier declaration, or of the one it stands in
abbrev pub is_declared_before : NameTables → Scope → Name → Bool
is_declared_before w at variable = option_map_or (λ place. nat_le place at.before) (place_of variable w.globals.names) false

-- where the body of a quantified phrase stands
abbrev pub within : NameTables → Scope → Name → Amount → Scope
within w at variable bound = record { before = at.before; this = at.this; variable = option_map (λ n. (variable, n)) (amount_of w.globals bound) }

-- S1 and S5 at the variable
abbrev pub quantified : NameTables → Scope → Name → Amount → Simple → List Breach
quantified w at variable bound body =
    breach 1 variable (is_declared_before w at variable)
    ++ (breach 5 variable (not (is_amount w bound))
    ++ (amount_used w at bound ++ simple_used w (within w at variable bound) body))

-- a phrase, with its quantifier
abbrev pub phrase_used : NameTables → Scope → Phrase → List Breach
phrase_used w at (phrases.Plain body) = simple_used w at body
phrase_used w at (phrases.Any variable bound body) = quantified w at variable bound body
phrase_used w at (phrases.Every variable bound body) = quantified w at variable bound body

-- a guard, row by row
abbrev pub guard_used : NameTables → Scope → Guard → List Breach
guard_used w at g = flat_map (λ row. phrase_used w at row.phrase) (rows_of g)
