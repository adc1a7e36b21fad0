-- The breaches of a state: S1, S5, S10 and S13 at its name, where it opens; where it closes, S1 and S11 at its buses, and in its
-- transitions S7, S8, S12 and S16 at the source, S12 at the target, S14 in what is raised, and what triggers and guards use.
use Rattle.std.specs.Prelude.{Bool, true, false, not, ◌&&◌, ◌||◌, ◌==◌, List, [], ◌∷◌, ◌++◌, map, flat_map, length, Option, Some, None, is_some, is_none}
use Rattle.std.specs.List.{list_any, list_all}
use Rattle.std.specs.Option.{option_map_or}
use Rattle.rsml_syntax.specs.declared.syntax.Index.{Index}
use Rattle.rsml_syntax.specs.declared.syntax.Index.TheVariants as index
use Rattle.rsml_syntax.specs.declared.syntax.Mention.{Mention}
use Rattle.rsml_syntax.specs.declared.syntax.Bus.{Bus}
use Rattle.rsml_syntax.specs.declared.syntax.Transition.{Transition}
use Rattle.rsml_syntax.specs.declared.syntax.StateDecl.{StateDecl}
use Rattle.rsml_syntax.specs.declared.syntax.Body.{Body}
use Rattle.rsml_syntax.specs.declared.want.Want.TheVariants as want
use Rattle.rsml_syntax.specs.text.Names.{Name, same, is_in}
use Rattle.rsml_syntax.specs.rules.Breaches.{Breach, breach}
use Rattle.rsml_syntax.specs.grammar.Parts.{State, children_of, buses_of, transitions_of, default_of, is_basic, nearer}
use Rattle.rsml_syntax.specs.rules.Scopes.{NameTables, Scope}
use Rattle.rsml_syntax.specs.rules.Uses.{mentioned, sized, guard_used, child_named}
use Rattle.rsml_syntax.specs.rules.Owners.{is_count, owner}
use Rattle.rsml_syntax.specs.rules.Declarations.{scope_at}

-- the names of the children
abbrev pub child_names : Body → List Name
child_names body = map (λ c. c.name) (children_of body)

-- the names of the buses
abbrev pub bus_names : Body → List Name
bus_names body = map (λ b. b.name) (buses_of body)

-- what is in a state stands after all declarations
abbrev pub state_scope : NameTables → State → Scope
state_scope w s = scope_at w (length w.globals.names) (nearer s.size s.array)

-- WHERE A STATE OPENS

-- S10: a `one` or `all` state has 1 to 64 children, and its default is one of them
abbrev pub is_composed : Body → Bool
is_composed body =
    is_basic body || (is_count 64 (length (children_of body)) && option_map_or (λ first. is_in first (child_names body)) (default_of body) true)

-- S13: an array is in a `one` state, or inside an array
abbrev pub is_misplaced : State → Bool
is_misplaced s = is_some s.size && (s.in_one || is_some s.array)

-- a state where it opens: S1, S10, S13 and S5 at its name, and what its size uses
abbrev pub opening : NameTables → State → List Breach
opening w s =
    breach 1 s.name s.repeated
    ++ (breach 10 s.name (not (is_composed s.body))
    ++ (breach 13 s.name (is_misplaced s)
    ++ sized w (state_scope w s) s.name s.size))

-- BUSES

-- a name stands twice in a list, or in the earlier ones
abbrev pub has_repeat : List Name → List Name → Bool
has_repeat earlier [] = false
has_repeat earlier (name ∷ names) = is_in name earlier || has_repeat (earlier ++ (name ∷ [])) names

-- S11: the members of a bus are children, each once
abbrev pub are_members : List Name → List Name → Bool
are_members children members = list_all (λ m. is_in m children) members && not (has_repeat [] members)

-- buses beside these children, after these names of children and buses
abbrev pub buses : List Name → List Name → List Bus → List Breach
buses children earlier [] = []
buses children earlier (b ∷ bs) =
    breach 1 b.name (is_in b.name earlier)
    ++ (breach 11 b.name (not (are_members children b.members)) ++ buses children (earlier ++ (b.name ∷ [])) bs)

-- TRANSITIONS

-- S12: each step of a target is a child of the one before it, and no array
abbrev pub is_target : List StateDecl → List Name → Bool
is_target children [] = true
is_target children (name ∷ names) = option_map_or (λ c. is_none c.size && is_target (children_of c.body) names) (child_named name children) false

-- the last name of a target
abbrev pub last_of : List Name → Name
last_of [] = []
last_of (name ∷ []) = name
last_of (name ∷ next ∷ names) = last_of (next ∷ names)

-- S12 at the last name of a target
abbrev pub target : List StateDecl → Option (List Name) → List Breach
target children None = []
target children (Some path) = breach 12 (last_of path) (not (is_target children path))

-- two written indices are the same; numbers by their value
abbrev pub same_index : Option Index → Option Index → Bool
same_index None None = true
same_index (Some (index.Number a)) (Some (index.Number b)) = a == b
same_index (Some (index.Name a)) (Some (index.Name b)) = same a b
same_index (Some index.This) (Some index.This) = true
same_index _ _ = false

-- two mentions have one name and the same written index
abbrev pub same_mention : Mention → Mention → Bool
same_mention a b = same a.name b.name && same_index a.index b.index

-- S14: the mentions in a raise list that stand in it before, with the same written index
abbrev pub raised_again : List Mention → List Mention → List Breach
raised_again earlier [] = []
raised_again earlier (m ∷ ms) = breach 14 m.name (list_any (same_mention m) earlier) ++ raised_again (earlier ++ (m ∷ [])) ms

-- a transition in a body; S12 at its source, then at its target
abbrev pub transition : NameTables → Scope → Body → Transition → List Breach
transition w at body t =
    breach 12 t.source (not (is_in t.source (child_names body) || is_in t.source (bus_names body)))
    ++ (owner w.globals t.source (t.guard ∷ []) []
    ++ (target (children_of body) t.target
    ++ (mentioned w at want.Event t.trigger
    ++ (guard_used w at t.guard
    ++ (flat_map (mentioned w at want.Event) t.raises ++ raised_again [] t.raises)))))

-- WHERE A STATE CLOSES

-- a state where it closes: its buses, then its transitions
abbrev pub closing : NameTables → State → List Breach
closing w s =
    buses (child_names s.body) (child_names s.body) (buses_of s.body)
    ++ flat_map (transition w (state_scope w s) s.body) (transitions_of s.body)
