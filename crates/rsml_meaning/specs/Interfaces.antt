-- The instances of receives, of sends with their cases, and of macros and functions.
use Rattle.std.specs.Prelude.{ℕ, Bool, ◌&&◌, List, [], map, flat_map}
use Rattle.rsml_syntax.specs.declared.syntax.Spec.{Spec}
use Rattle.rsml_syntax.specs.declared.syntax.Decl.{Decl}
use Rattle.rsml_syntax.specs.declared.syntax.Decl.TheVariants as decl
use Rattle.rsml_syntax.specs.declared.syntax.Mention.{Mention}
use Rattle.rsml_syntax.specs.declared.syntax.Guard.{Guard}
use Rattle.rsml_syntax.specs.declared.syntax.Row.{Row}
use Rattle.rsml_syntax.specs.declared.syntax.Case.{Case}
use Rattle.rsml_syntax.specs.declared.syntax.SendCase.{SendCase}
use Rattle.rsml_syntax.specs.declared.syntax.Answer.{Answer}
use Rattle.rsml_syntax.specs.text.Names.{Name}
use Rattle.rsml_syntax.specs.rules.Globals.{Globals, indices}
use Rattle.rsml_meaning.specs.Words.{Instance, at, same_instance, numbered, ordinal_of, item_of}
use Rattle.rsml_meaning.specs.Instances.{globals_of, instances}
use Rattle.rsml_meaning.specs.Truth.{View, within, instance, guard}

-- Receives.

-- A receive instance: the inputs whose cells it writes, in the order of its list, and the event that it raises.
pub record ReceiveInstance : Type 0 where
  pub receive : Instance
  pub inputs : List Instance
  pub raised : Instance

-- the receive instance at an index
abbrev pub new_receive : Globals → Name → List Mention → Mention → ℕ → ReceiveInstance
new_receive g name inputs raised i =
    record { receive = at name i; inputs = map (instance g (within i)) inputs; raised = instance g (within i) raised }

-- the receive instances that a declaration makes
abbrev pub receives_of : Globals → Decl → List ReceiveInstance
receives_of g (decl.Receive name size inputs raised) = map (new_receive g name inputs raised) (indices g size)
receives_of g _ = []

-- the receive instances
abbrev pub receives : Spec → List ReceiveInstance
receives s = flat_map (receives_of (globals_of s)) s.decls

-- Sends.

-- the send instances that a declaration makes
abbrev pub sends_of : Globals → Decl → List Instance
sends_of g (decl.Send name size fields cases) = instances g name size
sends_of g _ = []

-- the send instances
abbrev pub sends : Spec → List Instance
sends s = flat_map (sends_of (globals_of s)) s.decls

-- A case of a send instance, with its place there, counted from 1.
pub record SendCaseInstance : Type 0 where
  pub send : Instance
  pub fields : List Name
  pub ordinal : ℕ
  pub event : Instance
  pub guard : Guard
  pub answer : Answer

-- a case, with its place, of the send instance at an index
abbrev pub new_send_case : Globals → Name → List Name → ℕ → ℕ × SendCase → SendCaseInstance
new_send_case g name fields i c =
    record {
      send = at name i;
      fields = fields;
      ordinal = ordinal_of c;
      event = instance g (within i) (item_of c).trigger;
      guard = (item_of c).guard;
      answer = (item_of c).answer;
    }

-- the cases of the send instances that a declaration makes
abbrev pub send_cases_of : Globals → Decl → List SendCaseInstance
send_cases_of g (decl.Send name size fields cases) = flat_map (λ i. map (new_send_case g name fields i) (numbered cases)) (indices g size)
send_cases_of g _ = []

-- the cases of the send instances
abbrev pub send_cases : Spec → List SendCaseInstance
send_cases s = flat_map (send_cases_of (globals_of s)) s.decls

-- the guard is true
abbrev pub is_sending : View → SendCaseInstance → Bool
is_sending v c = guard v (within c.send.index) c.guard

-- a case of this send instance on the event
abbrev pub is_case : Instance → Instance → SendCaseInstance → Bool
is_case send e c = same_instance c.send send && same_instance c.event e

-- Functions.

-- A function instance with its cases, each with its place, counted from 1.
pub record FunctionInstance : Type 0 where
  pub function : Instance
  pub cases : List (ℕ × Case)

-- the function instance at an index
abbrev pub new_function : Name → List Case → ℕ → FunctionInstance
new_function name cases i = record { function = at name i; cases = numbered cases }

-- the function instances that a declaration makes
abbrev pub functions_of : Globals → Decl → List FunctionInstance
functions_of g (decl.Function name size cases) = map (new_function name cases) (indices g size)
functions_of g _ = []

-- the function instances
abbrev pub functions : Spec → List FunctionInstance
functions s = flat_map (functions_of (globals_of s)) s.decls

-- Macros and functions.

-- an instance of a macro with its table, or of a function with its cases
pub data Definition : Type 0 where
  macro_table : Instance → List Row → Definition
  function_cases : FunctionInstance → Definition

-- the instances of macros and functions that a declaration makes
abbrev pub definitions_of : Globals → Decl → List Definition
definitions_of g (decl.Macro name size rows) = map (λ i. macro_table (at name i) rows) (indices g size)
definitions_of g d = map function_cases (functions_of g d)

-- the instances of macros and functions, in one list
abbrev pub definitions : Spec → List Definition
definitions s = flat_map (definitions_of (globals_of s)) s.decls
