-- The instances that declarations make, one array after another.
use Rattle.std.specs.Prelude.{◌≡◌, ◌≤◌, false, List, [], ◌∷◌, ◌++◌, flat_map, length, map, if◌then◌else◌}
use Rattle.rsml_syntax.specs.declared.syntax.Spec.{Spec}
use Rattle.rsml_syntax.specs.declared.syntax.Decl.{Decl}
use Rattle.rsml_syntax.specs.declared.syntax.Decl.TheVariants as decl
use Rattle.rsml_syntax.specs.text.Names.{Name, is_in}
use Rattle.rsml_syntax.specs.rules.Globals.{Globals, many, name_of, size_of}
use Rattle.rsml_names.specs.PreviousNames.{previous_names}
use Rattle.rsml_meaning.specs.Words.{Instance}
use Rattle.rsml_meaning.specs.Instances.{State, globals_of, instances, events, states}
use Rattle.rsml_meaning.specs.Interfaces.{definitions, receives, sends}
use Rattle.state_arrays.specs.Arrays.{has_name}
use Rattle.state_arrays.specs.Places.{defined}

-- the inputs that a declaration makes
abbrev pub inputs_of : Globals → Decl → List Instance
inputs_of g (decl.Input name size _ _) = instances g name size
inputs_of g _ = []

-- those whose name is among these
abbrev pub previous_of : List Name → Globals → Decl → List Instance
previous_of names g (decl.Input name size _ _) = if is_in name names then instances g name size else []
previous_of names g _ = []

-- the macros and functions that a declaration makes
abbrev pub definitions_made : Globals → Decl → List Instance
definitions_made g (decl.Macro name size _) = instances g name size
definitions_made g (decl.Function name size _) = instances g name size
definitions_made g _ = []

-- the receives that a declaration makes
abbrev pub receives_made : Globals → Decl → List Instance
receives_made g (decl.Receive name size _ _) = instances g name size
receives_made g _ = []

-- Behind these instances those of a declaration may stand: none has its name yet, and its size is 1 to 64.
pub record Admits (g : Globals) (xs : List Instance) (d : Decl) : Type 0 where
  pub new : has_name xs (name_of d) ≡ false
  pub some : 1 ≤ many g (size_of d)
  pub few : many g (size_of d) ≤ 64

-- what declarations make may be put one behind another
abbrev pub AreArrays : Globals → (Decl → List Instance) → List Decl → Type 0
AreArrays g make ds =
    (before : List Decl) (d : Decl) (after : List Decl) → ds ≡ before ++ (d ∷ after) → Admits g (flat_map make before) d

-- The instances of a specification: its events, its inputs, the inputs that stand after `previous`, its macros and functions,
-- its receives, its sends, and its states.
pub record AreNumbered
    (s : Spec) (event_list input_list previous_list definition_list receive_list send_list : List Instance) (state_list : List State)
    : Type 0 where
  pub are_events : event_list ≡ events s
  pub are_inputs : input_list ≡ flat_map (inputs_of (globals_of s)) s.decls
  pub are_previous : previous_list ≡ flat_map (previous_of (previous_names s) (globals_of s)) s.decls
  pub are_definitions : definition_list ≡ map defined (definitions s)
  pub are_receives : receive_list ≡ map (λ r. r.receive) (receives s)
  pub are_sends : send_list ≡ sends s
  pub are_states : state_list ≡ states s
  pub few_inputs : length input_list ≤ 1024
  pub few_previous : length previous_list ≤ 1024
  pub few_definitions : length definition_list ≤ 8192
