-- The breaches of a declaration: S1, S4, S5, S7, S8, S15 and S16 at its name (S7, S8 and S16 by `owner`), S1 and S14 at later
-- names, and what it uses.
use Rattle.std.specs.Prelude.{ℕ, ◌+◌, Bool, true, false, not, ◌&&◌, ◌||◌, ◌==◌, List, [], ◌∷◌, ◌++◌, map, flat_map, length, Option, None, is_some, ℤ, int_lt, int_le, nat_lt}
use Rattle.std.specs.List.{list_all}
use Rattle.std.specs.Option.{option_map_or}
use Rattle.rsml_syntax.specs.declared.syntax.Amount.{Amount}
use Rattle.rsml_syntax.specs.declared.syntax.Signed.{Signed}
use Rattle.rsml_syntax.specs.declared.syntax.Initial.{Initial}
use Rattle.rsml_syntax.specs.declared.syntax.Initial.TheVariants as initials
use Rattle.rsml_syntax.specs.declared.syntax.Case.{Case}
use Rattle.rsml_syntax.specs.declared.syntax.SendCase.{SendCase}
use Rattle.rsml_syntax.specs.declared.syntax.Value.{Value}
use Rattle.rsml_syntax.specs.declared.syntax.Value.TheVariants as values
use Rattle.rsml_syntax.specs.declared.syntax.Answer.{Answer}
use Rattle.rsml_syntax.specs.declared.syntax.Answer.TheVariants as answers
use Rattle.rsml_syntax.specs.declared.syntax.Guard.TheVariants as guards
use Rattle.rsml_syntax.specs.declared.syntax.Decl.{Decl}
use Rattle.rsml_syntax.specs.declared.syntax.Decl.TheVariants as decl
use Rattle.rsml_syntax.specs.declared.want.Want.TheVariants as want
use Rattle.rsml_syntax.specs.text.Names.{Name, same, place_of, is_in}
use Rattle.rsml_syntax.specs.rules.Globals.{Known, Globals, signed, name_of, names_of, size_of, meaning, constant}
use Rattle.rsml_syntax.specs.rules.Breaches.{Breach, breach}
use Rattle.rsml_syntax.specs.grammar.WellFormed.{has_items}
use Rattle.rsml_syntax.specs.grammar.Written.{values_in, guards_of, sums_of}
use Rattle.rsml_syntax.specs.rules.Scopes.{NameTables, first_bound, Scope, size_number}
use Rattle.rsml_syntax.specs.rules.Uses.{used, mentioned, sized, sum_used, guard_used}
use Rattle.rsml_syntax.specs.rules.Kinds.{cases_alike}
use Rattle.rsml_syntax.specs.rules.Owners.{owner}

-- there is a first place, and it is below this one
abbrev pub is_below : Option ℕ → ℕ → Bool
is_below first place = option_map_or (λ p. nat_lt p place) first false

-- S1: a global name of this place was declared before, or is that of a variable before it
abbrev pub is_taken : NameTables → ℕ → Name → Bool
is_taken w place name = is_below (place_of name w.globals.names) place || is_below (first_bound w name) place

-- S1 at global names, the first of which has this place
abbrev pub declared_again : NameTables → ℕ → List Name → List Breach
declared_again w place [] = []
declared_again w place (name ∷ names) = breach 1 name (is_taken w place name) ++ declared_again w (place + 1) names

-- the names in a list that stand in it before
abbrev pub repeats : ℕ → List Name → List Name → List Breach
repeats rule earlier [] = []
repeats rule earlier (name ∷ names) = breach rule name (is_in name earlier) ++ repeats rule (earlier ++ (name ∷ [])) names

-- INITIAL VALUES

-- from the low end of a range to its high end
abbrev pub is_between : Signed → Signed → ℤ → Bool
is_between low high n = int_le (signed low) n && int_le n (signed high)

-- a value of this enumeration
abbrev pub is_value_of : Name → Known → Bool
is_value_of enumeration k = is_some k.value && same (name_of k.decl) enumeration

-- S7: an initial value is of this type
abbrev pub is_initial : Globals → Initial → Known → Bool
is_initial g initial k = of k.decl initial
  where
    of : Decl → Initial → Bool
    of (decl.Range _ low high) (initials.Number n) = is_between low high (signed n)
    of (decl.Range _ low high) (initials.Name name) = option_map_or (is_between low high) (constant g name) false
    of (decl.Enumeration _ _) (initials.Number _) = false
    of (decl.Enumeration enumeration _) (initials.Name name) = option_map_or (is_value_of enumeration) (meaning g name) false
    of _ _ = true

-- an initial value that is written as a name wants a constant or a value
abbrev pub initial_used : NameTables → Scope → Initial → List Breach
initial_used w at (initials.Number _) = []
initial_used w at (initials.Name name) = used w at want.Initial name

-- CASES

-- a case of a function: its value, then its guard
abbrev pub case_used : NameTables → Scope → Case → List Breach
case_used w at c = sum_used w at c.value ++ guard_used w at c.guard

-- S15: an answer gives this many values
abbrev pub gives : ℕ → Answer → Bool
gives fields answers.Quiet = true
gives fields (answers.Values vs) = length vs == fields

-- a value of an answer: a sum, or a function
abbrev pub value_used : NameTables → Scope → Value → List Breach
value_used w at (values.Sum sum) = sum_used w at sum
value_used w at (values.Function f) = mentioned w at want.Function f

-- a case of a send: its trigger, its guard, then its values
abbrev pub send_case_used : NameTables → Scope → SendCase → List Breach
send_case_used w at c =
    mentioned w at want.Event c.trigger ++ (guard_used w at c.guard ++ flat_map (value_used w at) (values_in c.answer))

-- DECLARATIONS

-- S4 at a range, S7 at an input, S15 at a function or a send
abbrev pub own_breaches : Globals → Decl → List Breach
own_breaches g (decl.Range name low high) = breach 4 name (int_lt (signed high) (signed low))
own_breaches g (decl.Input name _ kind initial) = breach 7 name (not (option_map_or (is_initial g initial) (meaning g kind) true))
own_breaches g (decl.Function name _ cases) = breach 15 name (not (has_items cases && cases_alike g cases))
own_breaches g (decl.Send name _ fields cases) = breach 15 name (not (list_all (λ c. gives (length fields) c.answer) cases))
own_breaches g _ = []

-- what stands after a declaration's name and size: S1 at fields, S14 at the inputs of a receive
abbrev pub contents_used : NameTables → Scope → Decl → List Breach
contents_used w at (decl.Input _ _ kind initial) = used w at want.Type kind ++ initial_used w at initial
contents_used w at (decl.Macro _ _ rows) = guard_used w at (guards.Table rows)
contents_used w at (decl.Function _ _ cases) = flat_map (case_used w at) cases
contents_used w at (decl.Receive _ _ inputs raised) =
    flat_map (mentioned w at want.Input) inputs ++ (repeats 14 [] (map (λ m. m.name) inputs) ++ mentioned w at want.Event raised)
contents_used w at (decl.Send _ _ fields cases) = repeats 1 [] fields ++ flat_map (send_case_used w at) cases
contents_used w at _ = []

-- where a declaration of this place and size stands
abbrev pub scope_at : NameTables → ℕ → Option Amount → Scope
scope_at w place size = record { before = place; this = size_number w.globals size; variable = None }

-- a declaration whose name has this place among the global names
abbrev pub declaration : NameTables → ℕ → Decl → List Breach
declaration w place d =
    declared_again w place (names_of d)
    ++ (own_breaches w.globals d
    ++ (owner w.globals (name_of d) (guards_of d) (sums_of d)
    ++ (sized w (scope_at w place (size_of d)) (name_of d) (size_of d)
    ++ contents_used w (scope_at w place (size_of d)) d)))
