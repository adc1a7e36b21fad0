-- The frame of a specification: what is left without its name and its macros, with `always` for each guard.
use Rattle.std.specs.Prelude.{◌≡◌, List, [], ◌∷◌, map, flat_map}
use Rattle.std.specs.List.{AllByRecursion as Each}
use Rattle.rsml_syntax.specs.declared.syntax.Spec.{Spec}
use Rattle.rsml_syntax.specs.declared.syntax.Decl.{Decl}
use Rattle.rsml_syntax.specs.declared.syntax.Decl.TheVariants as decl
use Rattle.rsml_syntax.specs.declared.syntax.Guard.TheVariants as guards
use Rattle.rsml_syntax.specs.declared.syntax.Case.{Case}
use Rattle.rsml_syntax.specs.declared.syntax.SendCase.{SendCase}
use Rattle.rsml_syntax.specs.declared.syntax.Transition.{Transition}
use Rattle.rsml_syntax.specs.declared.syntax.Body.{Body, Basic, One', All', Row_of-StateDecl, end_of-StateDecl, more_of-StateDecl}
use Rattle.rsml_syntax.specs.text.Names.{Name}
use Rattle.rsml_syntax.specs.limits.Previous.{names_previous}

-- a case of a function with `always` for its guard
abbrev pub open_case : Case → Case
open_case c = record { value = c.value; guard = guards.Always }

-- a case of a send with `always` for its guard
abbrev pub open_send_case : SendCase → SendCase
open_send_case c = record { trigger = c.trigger; guard = guards.Always; answer = c.answer }

-- a transition with `always` for its guard
abbrev pub open_transition : Transition → Transition
open_transition t = record { source = t.source; target = t.target; trigger = t.trigger; guard = guards.Always; raises = t.raises }

-- a declaration with `always` for its guards; a macro leaves nothing
abbrev pub framed : Decl → List Decl
framed (decl.Macro name size rows) = []
framed (decl.Function name size cases) = decl.Function name size (map open_case cases) ∷ []
framed (decl.Send name size fields cases) = decl.Send name size fields (map open_send_case cases) ∷ []
framed d = d ∷ []

abbrev mutual
  -- a body with `always` for the guards of its transitions and of those inside it
  pub frame_body : Body → Body
  frame_body Basic = Basic
  frame_body (One' first n children buses transitions) = One' first n (frame_row children) buses (map open_transition transitions)
  frame_body (All' n children) = All' n (frame_row children)

  -- the same of a row of children
  pub frame_row : {n : _} → Row_of-StateDecl n → Row_of-StateDecl n
  frame_row end_of-StateDecl = end_of-StateDecl
  frame_row (more_of-StateDecl name size body others) = more_of-StateDecl name size (frame_body body) (frame_row others)

-- the frame: no name, no macros, `always` for each guard
abbrev pub frame : Spec → Spec
frame s = record { name = []; decls = flat_map framed s.decls; top = s.top; body = frame_body s.body }

-- the input that a declaration declares
abbrev pub input_of : Decl → List Name
input_of (decl.Input name size kind initial) = name ∷ []
input_of _ = []

-- the inputs, by name
abbrev pub inputs : Spec → List Name
inputs s = flat_map input_of s.decls

-- Two specifications have the same frame, and the same inputs stand after `previous` in them.
pub record HaveSameFrame (s t : Spec) : Type 0 where
  pub syntax : frame s ≡ frame t
  pub previous : Each (λ name. names_previous s name ≡ names_previous t name) (inputs s)
