-- What is counted at the parts of a specification.
use Rattle.std.specs.Prelude.{◌≡◌, ℕ, ◌+◌, ◌*◌, false, List, [], find, length, Option, None, Result, IfOk, if◌then◌else◌}
use Rattle.std.specs.Option.{option_map_or}
use Rattle.rsml_base.specs.declared.no_memory.NoMemory.{NoMemory}
use Rattle.rsml_syntax.specs.declared.syntax.Amount.{Amount}
use Rattle.rsml_syntax.specs.declared.syntax.Body.{Body}
use Rattle.rsml_syntax.specs.declared.syntax.Bus.{Bus}
use Rattle.rsml_syntax.specs.declared.syntax.Decl.TheVariants as decl
use Rattle.rsml_syntax.specs.declared.syntax.Guard.{Guard}
use Rattle.rsml_syntax.specs.declared.syntax.Spec.{Spec}
use Rattle.rsml_syntax.specs.declared.syntax.StateDecl.{StateDecl}
use Rattle.rsml_syntax.specs.declared.syntax.Transition.{Transition}
use Rattle.rsml_syntax.specs.text.Names.{Name, same, is_in}
use Rattle.rsml_syntax.specs.rules.Globals.{Globals, globals, many}
use Rattle.rsml_syntax.specs.grammar.Written.{rows_of}
use Rattle.rsml_syntax.specs.grammar.Parts.{Part, Declared, Opens, Closes, State, parts, placed, nearer, inside, buses_of, transitions_of}
use Rattle.rsml_syntax.specs.limits.Limits.{adds, ground_rows, states_at, transitions_at, events_at, definitions_at, rows_at, shown}
use Rattle.rsml_limits.specs.declared.counts.counted.Counted.{Counted}
use Rattle.rsml_limits.specs.declared.counts.counted.Counted.TheVariants as kinds
use Rattle.rsml_names.specs.PreviousNames.{previous_names}

-- where memory is not refused, the count that is shown of this number
abbrev pub Shows : Result ℕ NoMemory → ℕ → Type 0
Shows result count = IfOk result (λ n. n ≡ shown count)

-- The names that counting asks for: the global ones, and those that stand after `previous`.
pub record CountedNames : Type 0 where
  pub globals : Globals
  pub previous : List Name

-- those of a specification
abbrev pub counted_names : Spec → CountedNames
counted_names s = record { globals = globals s.decls; previous = previous_names s }

-- L4, where these names stand after `previous`
abbrev pub cells_among : List Name → Globals → Part → ℕ
cells_among names g (Declared _ (decl.Input name size _ _)) = many g size * (if is_in name names then 2 else 1)
cells_among names g _ = 0

-- what is counted at a part
abbrev pub counted : Counted → CountedNames → Part → ℕ
counted kinds.States w part = states_at w.globals part
counted kinds.Transitions w part = transitions_at w.globals part
counted kinds.Events w part = events_at w.globals part
counted kinds.Cells w part = cells_among w.previous w.globals part
counted kinds.Definitions w part = definitions_at w.globals part
counted kinds.Rows w part = rows_at w.globals part

-- what is counted of a specification
abbrev pub count_of : Counted → CountedNames → Spec → ℕ
count_of kind w s = adds (counted kind w) (parts s)

-- the ground sources of a transition, among the buses of its state
abbrev pub sources_among : List Bus → Transition → ℕ
sources_among buses t = option_map_or (λ b. length b.members) (find (λ b. same b.name t.source) buses) 1

-- the ground rows of a guard
abbrev pub guard_rows : Globals → Guard → ℕ
guard_rows g guard = adds (ground_rows g) (rows_of guard)

-- the ground rows of a transition, in one instance of its state
abbrev pub transition_rows : Globals → List Bus → Transition → ℕ
transition_rows g buses t = sources_among buses t * guard_rows g t.guard

-- the ground transitions of a state, by the innermost array that it is or stands in
abbrev pub state_transitions : Globals → Option Amount → Body → ℕ
state_transitions g array body = many g array * adds (sources_among (buses_of body)) (transitions_of body)

-- the ground rows of its transitions
abbrev pub instance_tests : Globals → Option Amount → Body → ℕ
instance_tests g array body = many g array * adds (transition_rows g (buses_of body)) (transitions_of body)

-- a state of which only the innermost array that it is or stands in and the body are told
abbrev pub standing : Option Amount → Body → State
standing array body = placed [] false None array false body

-- what is counted of a state, without what is inside it
abbrev pub state_count : Counted → CountedNames → Option Amount → Body → ℕ
state_count kind w array body =
    counted kind w (Opens (standing array body)) + counted kind w (Closes (standing array body))

-- what is counted of a child, with what is inside it
abbrev pub child_count : Counted → CountedNames → Option Amount → StateDecl → ℕ
child_count kind w array c =
    state_count kind w (nearer c.size array) c.body
    + adds (counted kind w) (inside (nearer c.size array) c.body)
